-- The replies to a script: from bytes to replies, over whole runs.
use Rattle.std.specs.Prelude.{◌≡◌, ◌⊎◌, ◌<◌, ◌≤◌, ℕ, true, IsTrue, IsFalse, IsUtf8, List, [], ◌∷◌, ◌++◌, length}
use Rattle.std.specs.List.{AllByRecursion}
use Rattle.tql_spec.specs.Limits.{longest_text, most_open}
use Rattle.tql_spec.specs.Refusal.{Refusal, OutOfMemory, NotAStatement, NotUtf8, UnfinishedStatement, StatementTooLong}
use Rattle.tql_spec.specs.Refusal.{NestedTooDeep, TooManyColumnsOrTables, first}
use Rattle.tql_spec.specs.Definition.{TableDef}
use Rattle.tql_spec.specs.History.{Entry, Copy}
use Rattle.tql_spec.specs.Constraint.{keys_hold, references_hold}
use Rattle.tql_spec.specs.Machine.{State, Reply, Refused, effect, entries, state_faults, unless_refused, Bound}
use Rattle.tql_spec.specs.Machine.{limit_faults}
use Rattle.tql_spec.specs.Answer.{Answer, Replied, Accepted}
use Rattle.tql_spec.specs.Text.{replies_text}
use Rattle.tql_spec.specs.Script.{Piece, statements}
use Rattle.tql_spec.specs.Token.{Token, AreTokens, depth}
use Rattle.tql_spec.specs.Syntax.{Statement, is_too_wide}
use Rattle.tql_spec.specs.Grammar.{IsStatement}
use Rattle.tql_spec.specs.Names.{Checked}
use Rattle.tql_spec.specs.Binding.{bind, statement_class}

-- ---- the sense of a piece of a script

-- the sense of a piece: a statement, or the first fault of its text
pub data Sense : Type 0 where
  Says : Statement → Sense
  Faulty : Refusal → Sense

-- the text has these tokens, and no more open parentheses than allowed
abbrev pub IsShallow : List ℕ → List Token → Type 0
IsShallow text tokens = AreTokens tokens text × (depth tokens ≤ most_open)

-- the text has tokens with more open parentheses than allowed
abbrev pub IsDeep : List ℕ → Type 0
IsDeep text = (tokens : List Token) × AreTokens tokens text × (most_open < depth tokens)

-- the text spells the statement, with no more open parentheses than allowed
abbrev pub IsTextOf : List ℕ → Statement → Type 0
IsTextOf text s = (tokens : List Token) × IsShallow text tokens × IsStatement s tokens

-- a finished statement of this text
abbrev pub finished : List ℕ → Piece
finished text = record { text = text; finished = true }

-- a piece without faults of its bytes: not too long, UTF-8, and finished
pub record IsWhole (p : Piece) : Type 0 where
  pub short : length p.text ≤ longest_text
  pub utf8 : IsUtf8 p.text
  pub finished : IsTrue p.finished

-- the sense of a piece: a fault is present only if no earlier fault is
abbrev pub HasSense : Piece → Sense → Type 0
HasSense p (Faulty StatementTooLong) = longest_text < length p.text
HasSense p (Faulty NotUtf8) = (length p.text ≤ longest_text) × ¬ IsUtf8 p.text
HasSense p (Faulty UnfinishedStatement) = (length p.text ≤ longest_text) × IsUtf8 p.text × IsFalse p.finished
HasSense p (Faulty NestedTooDeep) = IsWhole p × IsDeep p.text
HasSense p (Faulty NotAStatement) = IsWhole p × ¬ IsDeep p.text × ((s : Statement) → IsTextOf p.text s → ⊥)
HasSense p (Faulty TooManyColumnsOrTables) =
    IsWhole p × ((s : Statement) × IsTextOf p.text s × IsTrue (is_too_wide s))
HasSense p (Faulty _) = ⊥
HasSense p (Says s) = IsWhole p × IsTextOf p.text s × IsFalse (is_too_wide s)

-- ---- steps

-- every fault of a statement: of the limits, of the state, and of names, kinds, forms and literals
abbrev pub statement_faults : State → Statement → List Refusal
statement_faults s t =
    let b : Checked Bound = bind s.definitions t in
    limit_faults s b.value ++ (state_faults s (statement_class t) ++ b.faults)

-- the reply to a statement and the state after it
abbrev pub respond : State → Statement → Reply × State
respond s t = let r = effect s (bind s.definitions t).value in unless_refused (first (statement_faults s t)) s r.0 r.1

-- the reply to the sense of a piece and the state after it
abbrev pub respond_to : State → Sense → Reply × State
respond_to s (Says t) = respond s t
respond_to s (Faulty e) = (Refused e, s)

-- the reference model's reply to a piece, or out of memory with the state unchanged
abbrev pub Answers : State → Piece → Reply → State → Type 0
Answers old p reply new =
    ((sense : Sense) × HasSense p sense × ((reply, new) ≡ respond_to old sense))
    ⊎ ((reply ≡ Refused OutOfMemory) × (new ≡ old))

-- ---- answers

-- a relation between an old state, a piece, its answer and the new state
abbrev pub Answering : Type 1
Answering = State → Piece → Answer → State → Type 0

-- the answers of a run: the reference model's replies
abbrev pub Replies : Answering
Replies old p (Replied reply) new = Answers old p reply new
Replies old p Accepted new = ⊥

-- the answer to the sense of a piece that is checked and not run
abbrev pub verdict : Sense → Answer
verdict (Says t) = Accepted
verdict (Faulty e) = Replied (Refused e)

-- the answers of a check: the verdict, or out of memory; the state does not change
abbrev pub Checks : Answering
Checks old p answer new =
    (((sense : Sense) × HasSense p sense × (answer ≡ verdict sense)) ⊎
    (answer ≡ Replied (Refused OutOfMemory)))
    × (new ≡ old)

-- ---- runs

-- a run over pieces, each step by this relation
abbrev pub RunBy : {R : Type 0} → (State → Piece → R → State → Type 0) → State → List Piece → List R → State → Type 0
RunBy A old [] [] new = new ≡ old
RunBy A old (p ∷ ps) (r ∷ rs) new = (mid : State) × A old p r mid × RunBy A mid ps rs new
RunBy A old [] (r ∷ rs) new = ⊥
RunBy A old (p ∷ ps) [] new = ⊥

-- a run of the reference model
abbrev pub Run : State → List Piece → List Reply → State → Type 0
Run = RunBy Answers

-- the output is the text of the replies of a run over the script's statements
abbrev pub Writes : State → (script output : List ℕ) → State → Type 0
Writes old script output new =
    (replies : List Reply) × Run old (statements script) replies new × (output ≡ replies_text replies)

-- ---- invariants

-- a copy has rows for each definition, and its keys and references hold
pub record CopyHolds (defs : List TableDef) (copy : Copy) : Type 0 where
  pub as_many : length copy ≡ length defs
  pub keys : IsTrue (keys_hold defs copy)
  pub references : IsTrue (references_hold defs copy)

-- keys and references hold in every copy, the working copy included
abbrev pub ConstraintsHold : State → Type 0
ConstraintsHold s = AllByRecursion (λ (e : Entry). CopyHolds s.definitions e.copy) (entries s)

-- the law: a run preserves keys and references
abbrev pub RunsKeepConstraints : Type 0
RunsKeepConstraints = (old new : State) (pieces : List Piece) (replies : List Reply)
    → ConstraintsHold old → Run old pieces replies new → ConstraintsHold new

-- the law: a refused statement changes nothing
abbrev pub RefusalsKeepState : Type 0
RefusalsKeepState = (old new : State) (p : Piece) (e : Refusal) → Answers old p (Refused e) new → new ≡ old
