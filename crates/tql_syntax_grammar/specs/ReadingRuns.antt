-- Reading a whole script: its replies and the state after it, if memory never runs out.
use Rattle.std.specs.Prelude.{◌≡◌, ◌↔◌, ℕ, List, [], ◌∷◌, Some}
use Rattle.tql_spec.specs.Machine.{State, Reply}
use Rattle.tql_spec.specs.Text.{replies_text}
use Rattle.tql_spec.specs.Script.{Piece, statements}
use Rattle.tql_spec.specs.Token.{Token, AreTokens}
use Rattle.tql_spec.specs.Run.{HasSense, Writes, respond_to}
use Rattle.tql_syntax_grammar.specs.ReadingTexts.{read_tokens, read_sense}

-- ---- runs

-- the replies to the pieces, in order
abbrev pub read_replies : State → List Piece → List Reply
read_replies s [] = []
read_replies s (p ∷ ps) = let r = respond_to s (read_sense p) in r.0 ∷ read_replies r.1 ps

-- the state after the pieces
abbrev pub read_state : State → List Piece → State
read_state s [] = s
read_state s (p ∷ ps) = read_state (respond_to s (read_sense p)).1 ps

-- the output of a script
abbrev pub read_output : State → List ℕ → List ℕ
read_output s script = replies_text (read_replies s (statements script))

-- ---- laws

-- the law: `read_tokens` returns exactly the tokens of a text
abbrev pub ReadsTheTokens : Type 0
ReadsTheTokens = (text : List ℕ) (ts : List Token) → (read_tokens text ≡ Some ts) ↔ AreTokens ts text

-- the law: `read_sense` returns a sense of the piece
abbrev pub ReadsTheSense : Type 0
ReadsTheSense = (p : Piece) → HasSense p (read_sense p)

-- the law: each script has a run, which writes `read_output`
abbrev pub ReadsTheRun : Type 0
ReadsTheRun =
    (old : State) (script : List ℕ)
    → Writes old script (read_output old script) (read_state old (statements script))
