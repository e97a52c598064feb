-- The contents of a store: its tables by their numbers, and the versions of each.
use Rattle.std.specs.Prelude.{ℕ, ◌≤◌, Bool, false, ◌&&◌, ◌||◌, List, [], ◌∷◌, filter, count_by, nat_eq, slice_get}
use Rattle.std.specs.Prelude.{slice_index_or, All, IsTrue, ℤ, Option, Some, None}
use Rattle.tql_spec.specs.Definition.{Version}
use Rattle.tql_versions.specs.Changes.{alive, is_current}
use Rattle.tql_store.specs.TableSlots.{slot_at, is_taken, is_kept}
use Rattle.tql_store.specs.declared.tables.TableSlot.{TableSlot}

-- a store: the slot of each table number; the versions of each table, whose ids are their positions; the moment of an
-- open transaction; that of the last commit; and the horizon, before which no query asks
pub record StoreModel : Type 0 where
  pub tables : List TableSlot
  pub versions : List (List Version)
  pub working : Option ℤ
  pub last : Option ℤ
  pub horizon : ℤ

-- whether a table exists
abbrev pub has_table : StoreModel → ℕ → Bool
has_table h t = is_taken (slot_at h.tables t)

-- whether a table exists and is versioned
abbrev pub is_versioned : StoreModel → ℕ → Bool
is_versioned h t = is_kept (slot_at h.tables t)

-- the number of tables
abbrev pub table_count : StoreModel → ℕ
table_count h = count_by is_taken h.tables

-- ---- the versions of a table

-- the bag of non-empty versions
abbrev pub live : StoreModel → ℕ → List Version
live h t = filter alive (slice_index_or h.versions t [])

-- the version with an id
abbrev pub named : StoreModel → ℕ → ℕ → Option Version
named h t id = slice_get (slice_index_or h.versions t []) id

-- whether there is a version that is non-empty and not closed
abbrev pub is_open : Option Version → Bool
is_open None = false
is_open (Some v) = alive v && is_current v

-- whether an id is that of a version that a change may remove
abbrev pub is_removable : StoreModel → ℕ → ℕ → Bool
is_removable h t id = is_open (named h t id)

-- the listed ids are those of removable versions, each once
pub record AreRemovable (h : StoreModel) (t : ℕ) (removed : List ℕ) : Type 0 where
  pub current : All (λ id. IsTrue (is_removable h t id)) removed
  pub once : (id : ℕ) → count_by (λ j. nat_eq j id) removed ≤ 1

-- whether an id is listed
abbrev pub is_among : ℕ → List ℕ → Bool
is_among i [] = false
is_among i (j ∷ js) = nat_eq i j || is_among i js
