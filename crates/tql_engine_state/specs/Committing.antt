-- The effect of a change on the store: in the open transaction, or in one of its own.
use Rattle.std.specs.Prelude.{◌≡◌, ◌+ℤ◌, ℕ, ℤ, pos, List, Option, Some, None}
use Rattle.tql_spec.specs.Datum.{Row}
use Rattle.tql_store.specs.StoreModel.{StoreModel, named}
use Rattle.tql_store.specs.Represents.{BeginCopies, ChangeReplaces, CommitAppends, RollbackRestores}

-- a transaction is opened at the moment, changed and committed
pub record CommitsRows (m : ℤ) (t : ℕ) (removed : List ℕ) (rows : List Row) (old new : StoreModel) : Type 0 where
  pub opened : StoreModel
  pub changed : StoreModel
  pub begins : BeginCopies old opened
  pub is_open : opened.working ≡ Some m
  pub same_names : (u id : ℕ) → named opened u id ≡ named old u id
  pub changes : ChangeReplaces t removed rows opened changed
  pub still_open : changed.working ≡ Some m
  pub commits : CommitAppends changed new
  pub idle : new.working ≡ None
  pub places : new.tables ≡ old.tables
  pub horizon : new.horizon ≡ old.horizon

-- a transaction is opened at the moment and rolled back
pub record Undoes (m : ℤ) (old new : StoreModel) : Type 0 where
  pub opened : StoreModel
  pub begins : BeginCopies old opened
  pub is_open : opened.working ≡ Some m
  pub restores : RollbackRestores opened new
  pub idle : new.working ≡ None
  pub places : new.tables ≡ old.tables
  pub horizon : new.horizon ≡ old.horizon

-- rows are changed in the open transaction of the moment
pub record ReplacesRows (m : ℤ) (t : ℕ) (removed : List ℕ) (rows : List Row) (old new : StoreModel) : Type 0 where
  pub changes : ChangeReplaces t removed rows old new
  pub still_open : new.working ≡ Some m
  pub places : new.tables ≡ old.tables
  pub horizon : new.horizon ≡ old.horizon

-- depending on the open transaction: the change, and the clock's moment after it
abbrev pub ChangesRows : Option ℤ → ℤ → ℤ → ℕ → List ℕ → List Row → StoreModel → StoreModel → Type 0
ChangesRows None clock next t removed rows old new = CommitsRows clock t removed rows old new × (next ≡ clock +ℤ pos 1)
ChangesRows (Some m) clock next t removed rows old new = ReplacesRows m t removed rows old new × (next ≡ clock)

-- depending on the open transaction: the store after a change that was given up
abbrev pub KeepsRows : Option ℤ → ℤ → StoreModel → StoreModel → Type 0
KeepsRows None clock old new = Undoes clock old new
KeepsRows (Some m) clock old new = new ≡ old
