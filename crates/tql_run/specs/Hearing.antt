-- The notifications of a listener in a run: which statements were refused, on which lines, and why.
use Rattle.std.specs.Prelude.{◌≡◌, ℕ, suc, List, [], ◌∷◌, ◌++◌, map, Bool, Option, Some, None, if◌then◌else◌}
use Rattle.tql_spec.specs.Refusal.{Refusal}
use Rattle.tql_spec.specs.Machine.{Done, Table, Refused}
use Rattle.tql_spec.specs.Answer.{Answer, Replied, Accepted}
use Rattle.tql_spec.specs.Lines.{Placed, line_of}
use Rattle.tql_value.specs.Refusals.{refusal_of}
use Rattle.tql_run.specs.declared.note.Note.{Note}

-- the number of a refused statement, its line, and the refusal; number and line are counted from 1
pub record Heard : Type 0 where
  pub statement : ℕ
  pub line : ℕ
  pub refusal : Refusal

abbrev pub note : ℕ → ℕ → Refusal → Heard
note statement line refusal = record { statement = statement; line = line; refusal = refusal }

-- if the listener's final record is known, it is the earlier record followed by these notes
pub record Hears (old : Option (List Heard)) (notes : List Heard) (new : Option (List Heard)) : Type 0 where
  pub told : (ys : List Heard) → new ≡ Some ys → (xs : List Heard) × (old ≡ Some xs) × (ys ≡ xs ++ notes)

-- the notes for the answer to a statement: one for a refusal, none otherwise
abbrev pub note_of : ℕ → ℕ → Answer → List Heard
note_of statement line (Replied (Refused e)) = note statement line e ∷ []
note_of statement line (Replied (Done v n)) = []
note_of statement line (Replied (Table hs rows)) = []
note_of statement line Accepted = []

-- the notes for the answers to the first of these statements, numbered from `number`
abbrev pub notes_from : ℕ → List Placed → List Answer → List Heard
notes_from number ps [] = []
notes_from number [] (a ∷ rest) = []
notes_from number (p ∷ ps) (a ∷ rest) = note_of number (line_of p) a ++ notes_from (suc number) ps rest

-- the notes for the answers to the first statements of a script
abbrev pub notes_of : List Placed → List Answer → List Heard
notes_of ps answers = notes_from 1 ps answers

-- the record of a listener before and after
pub record HearingChange : Type 0 where
  pub heard_old : Option (List Heard)
  pub heard_new : Option (List Heard)

-- the same for a listener whose type has this ghost
abbrev pub hearing_change : {L : Type 0} → (heard : L → Option (List Heard)) → (old new : L) → HearingChange
hearing_change heard old new = record { heard_old = heard old; heard_new = heard new }

-- the contents of a note in memory
abbrev pub heard_of : Note → Heard
heard_of n = note n.statement n.line (refusal_of n.refusal)

-- the record in the kept notes, if they are whole
abbrev pub heard_in : Bool → List Note → Option (List Heard)
heard_in is_whole kept = if is_whole then Some (map heard_of kept) else None
