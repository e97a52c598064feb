-- The last answer of an engine, and how far its host has read it.
use Rattle.std.specs.Prelude.{◌≡◌, ◌⊎◌, ℕ, List, [], Option, Some, None, option_map}
use Rattle.std.specs.Borrow.{Bor}
use Rattle.tql_splitter.specs.Stream.{Stream}
use Rattle.tql_detail.specs.declared.detail.Detail.{Detail}
use Rattle.tql_result.specs.Replies.{answer_of, IsPrintableAnswer}
use Rattle.tql_result.specs.declared.answer.Answer.{Answer}
use Rattle.tql_run_forms.specs.Faults.{json_of}

-- The script that is fed in parts, if there is one. The last answer, if it is not forgotten, and the detail of its
-- refusal. The line of its statement. The number of its rows that were gone to.
pub record CursorModel : Type 0 where
  pub script : Option Stream
  pub answer : Option Answer
  pub detail : Option Detail
  pub line : ℕ
  pub gone : ℕ

-- a cursor before the first answer
abbrev pub idle : CursorModel
idle = record { script = None; answer = None; detail = None; line = 1; gone = 0 }

-- a cursor whose answer is forgotten
abbrev pub forgotten : CursorModel → CursorModel
forgotten c = record c { answer = None; detail = None; gone = 0 }

-- a cursor at a new answer
abbrev pub shown : Option Answer → Option Detail → (line : ℕ) → CursorModel → CursorModel
shown answer detail line c = record c { answer = answer; detail = detail; line = line; gone = 0 }

-- an answer that can be printed, if there is one
abbrev pub IsPrintableShown : Option Answer → Type 0
IsPrintableShown None = Unit {0}
IsPrintableShown (Some a) = IsPrintableAnswer (answer_of a)

-- the bytes are the line of JSON of the answer with this detail
pub record IsLineOf (line : ℕ) (a : Answer) (detail : Option Detail) (bytes : List ℕ) : Type 0 where
  pub lent : Option (Bor Detail)
  pub is_detail : option_map (λ (b : Bor Detail). b.now) lent ≡ detail
  pub is : bytes ≡ json_of 1 line lent (answer_of a)

-- the same if there is an answer; else there are none
abbrev pub IsJsonShown : (line : ℕ) → Option Answer → Option Detail → List ℕ → Type 0
IsJsonShown line None detail bytes = bytes ≡ []
IsJsonShown line (Some a) detail bytes = IsLineOf line a detail bytes

-- what is kept of an answer: it can be printed, and its line of JSON is empty or written
pub record IsReadable (line : ℕ) (answer : Option Answer) (detail : Option Detail) (bytes : List ℕ) : Type 0 where
  pub printable : IsPrintableShown answer
  pub text : (bytes ≡ []) ⊎ IsJsonShown line answer detail bytes
