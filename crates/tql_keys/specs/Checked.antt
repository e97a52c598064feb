-- What `check` answers about a copy of the tables after a change to one of them.
use Rattle.std.specs.Prelude.{◌≡◌, ℕ, ℤ, ◌<◌, Bool, true, false, ◌&&◌, nat_lt, IsTrue, List, length, slice_get}
use Rattle.std.specs.Prelude.{slice_set, Option, Some, None, Result, Ok, Err, ⊤}
use Rattle.std.specs.List.{list_all}
use Rattle.tql_spec.specs.AtPoints.{table_rows, parent_at, parent_rows, HoldsAtPoints}
use Rattle.tql_spec.specs.Bag.{In}
use Rattle.tql_spec.specs.Constraint.{reference_to, KeyHolds, ReferenceHolds}
use Rattle.tql_spec.specs.Creation.{is_declared_key}
use Rattle.tql_spec.specs.Datum.{Row}
use Rattle.tql_spec.specs.Definition.{TableDef, Key, Reference, Stamped, table_at, place_of}
use Rattle.tql_spec.specs.History.{Copy, rows_in}
use Rattle.tql_spec.specs.Refusal as spec
use Rattle.tql_catalog.specs.declared.catalog.Table.{Table}
use Rattle.tql_store.specs.Changes.{rows_after}
use Rattle.tql_store.specs.StoreModel.{StoreModel, has_table}
use Rattle.tql_value.specs.Refusals.{refusal_of}
use Rattle.tql_value.specs.declared.refusal.Refusal.{Refusal}
use Rattle.tql_value.specs.declared.refusal.Refusal.TheVariants.{DuplicateKey, ReferenceNotMet, OutOfMemory}
use Rattle.tql_key_rows.specs.Asked.{AreRowsOf, row_named}
use Rattle.tql_key_clashes.specs.Named.{IsJudged}

-- the tables are in the store
abbrev pub AreThere : StoreModel → List Table → Type 0
AreThere h tables = (t : ℕ) (p : Table) → slice_get tables t ≡ Some p → IsTrue (has_table h p.id)

-- the copy has the current rows of the tables, each with as many cells as its table stores
pub record IsCopyOf (h : StoreModel) (tables : List Table) (copy : Copy) : Type 0 where
  pub as_many : length copy ≡ length tables
  pub rows : (t : ℕ) (p : Table) → slice_get tables t ≡ Some p → AreRowsOf h p (rows_in copy t)

-- the copy after a change to the table at an index
abbrev pub copy_after : ℤ → ℕ → (Stamped → Bool) → List Row → Copy → Copy
copy_after m t gone added copy = slice_set copy t (rows_after m gone added (rows_in copy t))

-- whether the reference of the table at index `t` is to a key of an earlier table, at the given index
abbrev pub has_parent_at : List TableDef → ℕ → Reference → Option ℕ → Bool
has_parent_at defs t f None = false
has_parent_at defs t f (Some p) = nat_lt p t && is_declared_key (table_at defs p) f.by_period f.parent_columns

abbrev pub has_parent : List TableDef → ℕ → Reference → Bool
has_parent defs t f = has_parent_at defs t f (place_of f.parent defs)

-- the listed ids are those of the removed rows of the table at an index
abbrev pub AreJudged : StoreModel → List Table → ℕ → (Stamped → Bool) → List ℕ → Type 0
AreJudged h tables t gone removed =
    (p : Table) → slice_get tables t ≡ Some p → IsJudged (row_named h p.id) gone removed

-- whether the references of the table at an index hold in a copy
abbrev pub references_hold_of : List TableDef → Copy → ℕ → Bool
references_hold_of defs copy t =
    list_all (λ (f : Reference). reference_to defs copy (table_at defs t) (table_rows defs copy t) f
    (place_of f.parent defs)) (table_at defs t).references

-- an error is the first fault, and Ok means that there is none; an allocation may be refused
abbrev pub TellsFirst : {A : Type 0} → Option spec.Refusal → Result A Refusal → Type 0
TellsFirst fault (Ok x) = fault ≡ None
TellsFirst fault (Err OutOfMemory) = ⊤
TellsFirst fault (Err e) = fault ≡ Some (refusal_of e)

-- the tests of keys, then of references: a key that fails is reported first; an allocation may be refused
abbrev pub TellsTests : {A : Type 0} → Bool → Bool → Result A Refusal → Type 0
TellsTests keys references (Ok x) = (keys ≡ true) × (references ≡ true)
TellsTests keys references (Err DuplicateKey) = keys ≡ false
TellsTests keys references (Err ReferenceNotMet) = (keys ≡ true) × (references ≡ false)
TellsTests keys references (Err OutOfMemory) = ⊤
TellsTests keys references (Err e) = ⊥

-- ---- at every point of time

-- each key of each table holds in a copy
abbrev pub KeysAtPoints : List TableDef → Copy → Type 0
KeysAtPoints defs copy = (t : ℕ) → t < length defs → (k : Key) → In k (table_at defs t).keys
    → KeyHolds (table_at defs t) k k.by_period (table_rows defs copy t)

-- each reference of each table holds in a copy
abbrev pub ReferencesAtPoints : List TableDef → Copy → Type 0
ReferencesAtPoints defs copy = (t : ℕ) → t < length defs → (f : Reference) → In f (table_at defs t).references
    → ReferenceHolds (table_at defs t) (parent_at defs (place_of f.parent defs)) f
    (parent_rows defs copy (place_of f.parent defs)) (table_rows defs copy t)

-- Ok: all hold; E35: a key does not; E36: all keys hold, a reference does not; an allocation may be refused
abbrev pub TellsAtPoints : {A : Type 0} → List TableDef → Copy → Result A Refusal → Type 0
TellsAtPoints defs copy (Ok x) = HoldsAtPoints defs copy
TellsAtPoints defs copy (Err DuplicateKey) = KeysAtPoints defs copy → ⊥
TellsAtPoints defs copy (Err ReferenceNotMet) = KeysAtPoints defs copy × (ReferencesAtPoints defs copy → ⊥)
TellsAtPoints defs copy (Err OutOfMemory) = ⊤
TellsAtPoints defs copy (Err e) = ⊥
