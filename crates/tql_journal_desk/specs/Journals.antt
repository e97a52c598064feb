-- What the calls of a journal do.
use Rattle.std.specs.Prelude.{◌≡◌, Bool, ℕ, List, [], ◌∷◌, ◌++◌, IsTrue, IsFalse}
use Rattle.tql_journal_laws.specs.Bytes.{with_statement}
use Rattle.tql_journal.specs.Seals.{hash_words}
use Rattle.tql_journal_desk.specs.Order.{Content, Keeps}

-- bytes were added to what is written and buffered, unless the journal has failed
pub record Puts (bytes : List ℕ) (failed : Bool) (lines lines' : List ℕ) (old new : Content) : Type 0 where
  pub events : new.events ≡ old.events
  pub durable : new.durable ≡ old.durable
  pub adds : IsFalse failed → new.written ++ lines' ≡ (old.written ++ lines) ++ bytes

-- a statement was kept
pub record KeepsOne (text : List ℕ) (failed : Bool) (seals seals' : List ℕ → Type 0) (lines lines' : List ℕ)
    (old new : Content) : Type 0 where
  pub events : new.events ≡ old.events ++ Keeps text ∷ []
  pub durable : new.durable ≡ old.durable
  pub bytes : IsFalse failed → (before : List ℕ) → seals before → old.written ++ lines ≡ before
      → seals' (with_statement hash_words before text)
      × (new.written ++ lines' ≡ with_statement hash_words before text)

-- What was kept is durable, unless the journal has failed. If nothing is owed, nothing was done.
pub record Settles (owed failed : Bool) (lines lines' : List ℕ) (old new : Content) : Type 0 where
  pub events : new.events ≡ old.events
  pub idle : IsFalse owed → (new ≡ old) × (lines' ≡ lines)
  pub fault : IsTrue failed → new.durable ≡ old.durable
  pub bytes : IsFalse failed → new.written ++ lines' ≡ old.written ++ lines
  pub durable : IsFalse failed → IsTrue owed → new.durable ≡ old.written ++ lines
