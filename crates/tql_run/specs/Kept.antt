-- The statements that a journal keeps, and which texts a run hands over to be kept.
use Rattle.std.specs.Prelude.{◌≡◌, ℕ, Bool, true, false, List, [], ◌∷◌, ◌++◌, Option, if◌then◌else◌, IsTrue}
use Rattle.tql_spec.specs.Answer.{Answer, Replied, Accepted}
use Rattle.tql_spec.specs.Machine.{State}
use Rattle.tql_spec.specs.Run.{Answering, RunBy}
use Rattle.tql_spec.specs.Script as script
use Rattle.tql_journal_laws.specs.Keeping.{is_kept}
use Rattle.tql_journal_laws.specs.Recovery.{ArePiecesOfScripts}
use Rattle.tql_splitter.specs.Holding.{Holds}
use Rattle.tql_splitter.specs.Stream.{Stream}
use Rattle.tql_splitter.specs.declared.piece.Piece.{Piece}
use Rattle.tql_splitter.specs.declared.piece.Piece.TheVariants.{Text, TooLong, NoMemory, Unfinished}
use Rattle.tql_result.specs.Devices.{with_text, with_texts}
use Rattle.tql_run.specs.Responding.{Standing}

-- ---- what is kept

-- whether a journal keeps the statement with this answer
abbrev pub is_kept_answer : Answer → Bool
is_kept_answer (Replied reply) = is_kept reply
is_kept_answer Accepted = false

-- the text of the statement, if a journal keeps it
abbrev pub kept_text : script.Piece → Answer → List (List ℕ)
kept_text p answer = if is_kept_answer answer then p.text ∷ [] else []

-- the texts of those of these statements that a journal keeps, in order
abbrev pub kept_texts : List script.Piece → List Answer → List (List ℕ)
kept_texts [] answers = []
kept_texts (p ∷ ps) [] = []
kept_texts (p ∷ ps) (a ∷ rest) = kept_text p a ++ kept_texts ps rest

-- ---- what is handed over

-- whether the piece is the text of a finished statement
abbrev pub is_text : Piece → Bool
is_text (Text t) = true
is_text TooLong = false
is_text NoMemory = false
is_text (Unfinished t) = false

-- the texts that a sink was given to keep, after the answer to this piece
abbrev pub kept_after : Piece → Answer → Option (List (List ℕ)) → Option (List (List ℕ))
kept_after (Text t) answer had = if is_kept_answer answer then with_text t.now had else had
kept_after TooLong answer had = had
kept_after NoMemory answer had = had
kept_after (Unfinished t) answer had = had

-- Some pieces of scripts were answered, from the state on. The responder represents the state after them, and the sink
-- was given the texts of those that a journal keeps: each exactly once, in order, and no other text.
pub record KeepsIn (A : Answering) (s : State) (after : Standing) (had kept : Option (List (List ℕ))) : Type 0 where
  pub pieces : List script.Piece
  pub answers : List Answer
  pub state : State
  pub are : ArePiecesOfScripts pieces
  pub ran : RunBy A s pieces answers state
  pub stands : after state
  pub is : kept ≡ with_texts (kept_texts pieces answers) had

-- the splitter was fed some bytes, and has passed the first of them
pub record HoldsSome (stream : Stream) : Type 0 where
  pub passed : List ℕ
  pub left : List ℕ
  pub holds : Holds stream passed left

-- the same for statements of a splitter, whatever their answers and the result of the run are
pub record KeepsFrom (A : Answering) (new : Stream) (before after : Standing) (had kept : Option (List (List ℕ)))
    : Type 0 where
  pub holds : HoldsSome new
  pub keeps : (s : State) → before s → KeepsIn A s after had kept

abbrev pub KeepsOn : Answering → (old new : Stream) → (before after : Standing)
    → (had kept : Option (List (List ℕ))) → Type 0
KeepsOn A old new before after had kept = HoldsSome old → KeepsFrom A new before after had kept
