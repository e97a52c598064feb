-- A store represents the copies of the reference model, which copies each table at each commit.
use Rattle.std.specs.Prelude.{◌≡◌, ℕ, ◌+◌, Bool, false, ◌&&◌, List, ◌∷◌, filter, length, ℤ, nat_eq, Option, Some}
use Rattle.std.specs.Prelude.{None, if◌then◌else◌}
use Rattle.tql_spec.specs.Bag.{SameBag}
use Rattle.tql_spec.specs.Datum.{Datum, Row}
use Rattle.tql_spec.specs.Definition.{Stamped, Version}
use Rattle.tql_spec.specs.History.{TableEntry, When}
use Rattle.tql_spec.specs.History.{found as versions_found}
use Rattle.tql_spec.specs.Horizon.{is_before}
use Rattle.tql_versions.specs.Changes.{is_current, alive, replaced}
use Rattle.tql_store.specs.Kept.{forgotten, kept_of}
use Rattle.tql_store.specs.Stands.{StandsFor}
use Rattle.tql_store.specs.Changes.{rows_after, InTransaction, last_rows, newest, emptied}
use Rattle.tql_store.specs.StoreModel.{StoreModel, live, named, is_among, table_count}
use Rattle.tql_store.specs.TableSlots.{slot_at, place_for, is_brief}
use Rattle.tql_store.specs.declared.tables.TableSlot.{TableSlot}
use Rattle.tql_store.specs.declared.tables.TableSlot.TheVariants.{Free}

-- ---- the relation

-- the committed copies of each table, newest first; for a number without a table, copies without rows
abbrev pub Copies : Type 0
Copies = ℕ → List TableEntry

-- a working copy: the rows of each table
abbrev pub Working : Type 0
Working = ℕ → List Stamped

-- the moment from which the versions of a table are kept: given by its copies and the horizon, or for an unversioned
-- table by the last commit
abbrev pub horizon_of : List TableSlot → Option ℤ → ℤ → List TableEntry → ℕ → Option ℤ
horizon_of places last h entries t = if is_brief (slot_at places t) then last else kept_of h entries

-- without a transaction, the versions of a table represent its copies; in one, the copies with the working one
abbrev pub StandsWith : Option ℤ → Option ℤ → List Version → List TableEntry → List Stamped → Type 0
StandsWith horizon None versions entries rows = StandsFor horizon versions entries
StandsWith horizon (Some m) versions entries rows = InTransaction horizon versions (record {
  moment = m;
  rows = rows;
}) entries

-- the store represents these copies of each table, and, in a transaction, this working copy
pub record Represents (h : StoreModel) (copies : Copies) (working : Working) : Type 0 where
  pub dated : (t : ℕ) → newest (copies t) ≡ h.last
  pub stands : (t : ℕ)
      → StandsWith (horizon_of h.tables h.last h.horizon (copies t) t) h.working (live h t) (copies t) (working t)

-- ---- transactions

-- the effect of a beginning: the working copy is the last copy
abbrev pub BeginCopies : StoreModel → StoreModel → Type 0
BeginCopies old new = (copies : Copies) (working : Working) → Represents old copies working
    → Represents new copies (λ t. last_rows (copies t))

-- the copies with the working one
abbrev pub appended : ℤ → Working → Copies → Copies
appended m working copies t = record { moment = m; rows = working t } ∷ copies t

-- the effect of a commit on the copies
abbrev pub CommitAppends : StoreModel → StoreModel → Type 0
CommitAppends old new = (copies : Copies) (working : Working) (m : ℤ) → old.working ≡ Some m
    → Represents old copies working → Represents new (appended m working copies) working

-- a rollback restores the copies
abbrev pub RollbackRestores : StoreModel → StoreModel → Type 0
RollbackRestores old new = (copies : Copies) (working : Working) (m : ℤ) → old.working ≡ Some m
    → Represents old copies working → Represents new copies working

-- ---- changes

-- the listed ids are those of the versions that a change removes: the current ones that `gone` selects by their rows
abbrev pub Judged : StoreModel → ℕ → (Stamped → Bool) → List ℕ → Type 0
Judged h t gone removed = (id : ℕ) (v : Version) → named h t id ≡ Some v
    → is_among id removed ≡ (alive v && (is_current v && gone v.row))

-- a change of a table replaces the removed versions with the added ones, and changes nothing else
pub record ReplacesVersions (t : ℕ) (removed : List ℕ) (added : List (List Datum)) (old new : StoreModel) : Type 0 where
  pub tables : new.tables ≡ old.tables
  pub working : new.working ≡ old.working
  pub last : new.last ≡ old.last
  pub horizon : new.horizon ≡ old.horizon
  pub others : (u : ℕ) → nat_eq u t ≡ false → SameBag (live new u) (live old u)
  pub versions : (m : ℤ) (gone : Stamped → Bool) → old.working ≡ Some m → Judged old t gone removed
      → SameBag (live new t) (replaced m gone added (live old t))
  pub counted : length (filter is_current (live new t)) + length removed ≡ length (filter is_current (live old t)) +
      length added

-- the working copy with new rows for one table
abbrev pub with_rows : ℕ → List Stamped → Working → Working
with_rows t rows working u = if nat_eq u t then rows else working u

-- the effect of a change: in the working copy of its table, the added rows replace the removed ones
abbrev pub ChangeReplaces : ℕ → List ℕ → List (List Datum) → StoreModel → StoreModel → Type 0
ChangeReplaces t removed added old new = (copies : Copies) (working : Working) (m : ℤ) (gone : Stamped → Bool)
    → old.working ≡ Some m → Judged old t gone removed → Represents old copies working
    → Represents new copies (with_rows t (rows_after m gone added (working t)) working)

-- ---- tables

-- a number has another slot, and nothing else is changed
pub record Takes (t : ℕ) (place : TableSlot) (old new : List TableSlot) : Type 0 where
  pub places : (u : ℕ) → slot_at new u ≡ (if nat_eq u t then place else slot_at old u)

-- a new table has a number that was free; no version and no transaction is changed
pub record AddsTable (versioned : Bool) (t : ℕ) (old new : StoreModel) : Type 0 where
  pub free : slot_at old.tables t ≡ Free
  pub takes : Takes t (place_for versioned) old.tables new.tables
  pub count : table_count new ≡ table_count old + 1
  pub working : new.working ≡ old.working
  pub last : new.last ≡ old.last
  pub horizon : new.horizon ≡ old.horizon
  pub versions : (u : ℕ) → live new u ≡ live old u

-- the copies do not change: the new table has no rows in any, as its number had none
abbrev pub AddKeepsCopies : StoreModel → StoreModel → Type 0
AddKeepsCopies old new = (copies : Copies) (working : Working) → Represents old copies working
    → Represents new copies working

-- the copies without the rows of a table
abbrev pub copies_without : ℕ → Copies → Copies
copies_without t copies u = if nat_eq u t then emptied (copies u) else copies u

-- the effect of a drop on the copies
abbrev pub DropEmpties : ℕ → StoreModel → StoreModel → Type 0
DropEmpties t old new = (copies : Copies) (working : Working) → Represents old copies working
    → Represents new (copies_without t copies) working

-- ---- a horizon

-- the copies of each table that a horizon keeps; an unversioned table has only its last one, as before
abbrev pub copies_left : ℤ → Copies → Copies
copies_left h copies t = forgotten h (copies t)

-- the effect of pruning on the copies
abbrev pub PrunesCopies : ℤ → StoreModel → StoreModel → Type 0
PrunesCopies h old new = (copies : Copies) (working : Working) → Represents old copies working
    → Represents new (copies_left h copies) working

-- ---- readings

-- the copies that queries see: an open transaction counts as committed
abbrev pub seen_by : Option ℤ → Copies → Working → Copies
seen_by None copies working = copies
seen_by (Some m) copies working = appended m working copies

-- a reading that asks for nothing before the horizon returns what the definitions find in the copies
abbrev pub Answers : StoreModel → ℕ → When → List Version → Type 0
Answers h t when found = is_before h.horizon when ≡ false → (copies : Copies) (working : Working)
    → Represents h copies working → SameBag found (versions_found when (seen_by h.working copies working t))

-- the same for a reading of the rows that pass a test
abbrev pub AnswersBy : StoreModel → ℕ → When → (Row → Bool) → List Version → Type 0
AnswersBy h t when test found = is_before h.horizon when ≡ false → (copies : Copies) (working : Working)
    → Represents h copies working → SameBag found
    (filter (λ (v : Version). test v.row.cells) (versions_found when (seen_by h.working copies working t)))
