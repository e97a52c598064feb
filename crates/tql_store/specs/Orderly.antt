-- The invariant of a store: each table is at rest or in the open transaction, and tables that are not at rest are
-- touched.
use Rattle.std.specs.Prelude.{◌≡◌, ◌≢◌, ◌⊎◌, ℕ, ◌<◌, ◌++◌, Bool, false, List, [], ◌∷◌, length, slice_index_or}
use Rattle.std.specs.Prelude.{Contains, Option, Some, None, ℤ, ◌<ℤ◌, if◌then◌else◌, nat_eq}
use Rattle.tql_spec.specs.Bag.{SameBag}
use Rattle.tql_spec.specs.Calendar.{high}
use Rattle.tql_versions.specs.Changes.{Under, pruned, undone}
use Rattle.tql_store_rows.specs.Pruned.{IsPruned}
use Rattle.tql_store_rows.specs.TableModel as rows
use Rattle.tql_store_rows.specs.TableModel.{AtRest, InTurn, Since}
use Rattle.tql_store.specs.TableSlots.{slot_at, is_kept}
use Rattle.tql_store.specs.declared.tables.TableSlot.{TableSlot}
use Rattle.tql_store.specs.declared.tables.TableSlot.TheVariants.{Free}

-- ---- tables by their numbers

-- a table without versions, with or without history
abbrev pub empty : Bool → rows.TableModel
empty keeps = record {
  keeps = keeps;
  current = [];
  base = 0;
  ended = [];
  dead = [];
  closed = [];
  room = 0;
}

-- the table with a number; past the end, one without versions
abbrev pub table_at : List rows.TableModel → ℕ → rows.TableModel
table_at tables t = slice_index_or tables t (empty false)

-- a touched number
abbrev pub touch_at : List ℕ → ℕ → ℕ
touch_at touched k = slice_index_or touched k 0

-- a number is not touched
abbrev pub IsUntouched : List ℕ → ℕ → Type 0
IsUntouched touched t = (k : ℕ) → k < length touched → touch_at touched k ≢ t

-- ---- the store's invariant

-- between transactions
pub record AreAtRest (last : Option ℤ) (tables : List rows.TableModel) (touched : List ℕ) : Type 0 where
  pub none : touched ≡ []
  pub below : Under last high
  pub rest : (t : ℕ) → AtRest last (table_at tables t)

-- in a transaction of a given moment
pub record AreInTurn (m : ℤ) (last : Option ℤ) (tables : List rows.TableModel) (touched : List ℕ) : Type 0 where
  pub below : m <ℤ high
  pub under : Under last m
  pub turn : (t : ℕ) → InTurn m (table_at tables t)
  pub since : (t : ℕ) → Since last (table_at tables t)
  pub rest : (t : ℕ) → IsUntouched touched t → AtRest last (table_at tables t)
  pub within : (k : ℕ) → k < length touched → touch_at touched k < length tables
  pub apart : (j k : ℕ) → j < k → k < length touched → touch_at touched j ≢ touch_at touched k

abbrev pub AreReady : Option ℤ → Option ℤ → List rows.TableModel → List ℕ → Type 0
AreReady None last tables touched = AreAtRest last tables touched
AreReady (Some m) last tables touched = AreInTurn m last tables touched

pub record IsOrderly (places : List TableSlot) (tables : List rows.TableModel) (touched : List ℕ)
    (working last : Option ℤ) :
    Type 0 where
  pub even : length tables ≡ length places
  pub keeps : (t : ℕ) → (table_at tables t).keeps ≡ is_kept (slot_at places t)
  pub gone : (t : ℕ) → slot_at places t ≡ Free → rows.live (table_at tables t) ≡ []
  pub ready : AreReady working last tables touched

-- ---- the effect of the end of a transaction on a table

pub record IsCommitted (m : ℤ) (old new : rows.TableModel) : Type 0 where
  pub rest : AtRest (Some m) new
  pub keeps : new.keeps ≡ old.keeps
  pub versions : SameBag (rows.live new) (if old.keeps then rows.live old else pruned m (rows.live old))

pub record IsUndone (m : ℤ) (old new : rows.TableModel) : Type 0 where
  pub rest : (last : Option ℤ) → Since last old → AtRest last new
  pub keeps : new.keeps ≡ old.keeps
  pub versions : SameBag (rows.live new) (undone m (rows.live old))

-- the transaction has ended in the first `n` touched tables, and no other table has changed
pub record HaveEnded (Ends : rows.TableModel → rows.TableModel
    → Type 0) (n : ℕ) (touched : List ℕ) (old new : List rows.TableModel) : Type 0 where
  pub even : length new ≡ length old
  pub ended : (k : ℕ) → k < n → Ends (table_at old (touch_at touched k)) (table_at new (touch_at touched k))
  pub others : (t : ℕ) → ((k : ℕ) → k < n → touch_at touched k ≢ t) → table_at new t ≡ table_at old t

-- ---- the effect of a horizon

-- each table is pruned
pub record ArePruned (h : ℤ) (old new : List rows.TableModel) : Type 0 where
  pub even : length new ≡ length old
  pub each : (t : ℕ) → IsPruned h (table_at old t) (table_at new t)

-- ---- the effect of a change

-- a number is among the touched ones, appended if it was not there
abbrev pub IsNoted : ℕ → List ℕ → List ℕ → Type 0
IsNoted n old new = ((new ≡ old) × Contains old n) ⊎ ((new ≡ old ++ n ∷ []) × (Contains old n → ⊥))

-- the table with a number is still in the transaction, and no other table has changed
pub record HasTurned (m : ℤ) (n : ℕ) (old new : List rows.TableModel) : Type 0 where
  pub even : length new ≡ length old
  pub others : (t : ℕ) → nat_eq t n ≡ false → table_at new t ≡ table_at old t
  pub turn : InTurn m (table_at new n)
  pub since : (last : Option ℤ) → Since last (table_at old n) → Since last (table_at new n)
  pub keeps : (table_at new n).keeps ≡ (table_at old n).keeps

-- a number has another table, and no other table has changed
pub record IsPut (n : ℕ) (table : rows.TableModel) (old new : List rows.TableModel) : Type 0 where
  pub here : table_at new n ≡ table
  pub others : (t : ℕ) → nat_eq t n ≡ false → table_at new t ≡ table_at old t
