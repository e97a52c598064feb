-- What a listener with notes in memory does with a new one: it keeps the note, or loses it with an allocation error.
use Rattle.std.specs.Prelude.{◌≡◌, ◌⊎◌, [], ◌∷◌, ◌++◌, Result, OnOk, OnErr, IsSome}
use Rattle.tql_run.specs.declared.note.Note.{Note}
use Rattle.tql_run.specs.declared.notes.Notes.{Notes}

-- this note was appended, and the notes are as whole as before
pub record Adds (note : Note) (old new : Notes) : Type 0 where
  pub kept : new.kept.items ≡ old.kept.items ++ note ∷ []
  pub lost : new.lost ≡ old.lost

-- the note was kept; or its memory was refused, and the notes are as before
pub record Keeps {T E : Type 0} (note : Note) (result : Result T E) (old new : Notes) : Type 0 where
  pub added : OnOk result (Adds note old new)
  pub kept : OnErr result (new.kept.items ≡ old.kept.items)
  pub lost : OnErr result (new.lost ≡ old.lost)

-- the note was kept; or the notes are as before, and the error is recorded
abbrev pub KeepsOrLoses : Note → (old new : Notes) → Type 0
KeepsOrLoses note old new = Adds note old new ⊎ ((new.kept.items ≡ old.kept.items) × IsSome new.lost)
