-- Which rows fail in a key or in a reference.
use Rattle.std.specs.Prelude.{◌≡◌, ◌<◌, ℕ, ℤ, Bool, true, false, not, ◌&&◌, nat_eq, List, length, Option, Some, None}
use Rattle.std.specs.Prelude.{option_map, slice_get}
use Rattle.tql_spec.specs.Constraint.{clash, reference_to}
use Rattle.tql_spec.specs.AtPoints.{table_rows}
use Rattle.tql_spec.specs.Datum.{Row}
use Rattle.tql_spec.specs.Definition.{TableDef, Key, Reference, Stamped, shown, table_at, place_of}
use Rattle.tql_spec.specs.History.{Copy}
use Rattle.tql_catalog.specs.declared.catalog.Table.{Table}
use Rattle.tql_catalog.specs.Tables.{definitions_of}
use Rattle.tql_store.specs.StoreModel.{StoreModel, is_among}
use Rattle.tql_keys.specs.Checked.{IsCopyOf, AreJudged, copy_after}
use Rattle.tql_key_failures.specs.declared.failures.KeyFailure.{KeyFailure}
use Rattle.tql_key_failures.specs.declared.failures.RowRef.{RowRef}
use Rattle.tql_key_failures.specs.declared.failures.RowRef.TheVariants.{Added, Stored}
use Rattle.tql_key_failures.specs.declared.failures.ReferenceFailure.{ReferenceFailure}

-- ---- keys

-- a row of the table, if it survives the change
abbrev pub if_it_stays : Bool → Option Row → Option Row
if_it_stays true row = None
if_it_stays false row = row

-- a new row, or a surviving row of the table
abbrev pub row_at : TableDef → (ℕ → Option Stamped) → List ℕ → List Row → RowRef → Option Row
row_at d named removed new (Added n) = slice_get new n
row_at d named removed new (Stored id) = if_it_stays (is_among id removed) (option_map (shown d) (named id))

-- whether there are two rows and a key, and the rows clash in it
abbrev pub do_clash : TableDef → Option Key → Option Row → Option Row → Bool
do_clash d (Some k) (Some r) (Some s) = clash d k r s
do_clash d k r s = false

-- whether this is a different row than the new one at an index
abbrev pub is_another : ℕ → RowRef → Bool
is_another n (Added m) = not (nat_eq n m)
is_another n (Stored id) = true

-- whether a new row clashes with another new row, or with a surviving row of the table
abbrev pub is_key_failure : TableDef → (ℕ → Option Stamped) → List ℕ → List Row → KeyFailure → Bool
is_key_failure d named removed new f =
    is_another f.row f.other
    && do_clash d (slice_get d.keys f.key) (slice_get new f.row) (row_at d named removed new f.other)

-- ---- references

-- the reference at an index of the table at another index held before the change, and does not hold after it
abbrev pub FailsAfter : StoreModel → List Table → ℕ → List ℕ → ℤ → List Row → ℕ → ℕ → Type 0
FailsAfter h tables t removed m added child n =
    (copy : Copy) (gone : Stamped → Bool) (f : Reference) → IsCopyOf h tables copy
    → AreJudged h tables t gone removed
    → slice_get (table_at (definitions_of tables) child).references n ≡ Some f
    → reference_to (definitions_of tables) copy (table_at (definitions_of tables) child)
    (table_rows (definitions_of tables) copy child) f (place_of f.parent (definitions_of tables)) ≡ true
    → reference_to (definitions_of tables) (copy_after m t gone added copy) (table_at (definitions_of tables) child)
    (table_rows (definitions_of tables) (copy_after m t gone added copy) child) f
    (place_of f.parent (definitions_of tables)) ≡ false

-- the reported reference belongs to a table of the catalog, and fails
abbrev pub IsReferenceFailure : StoreModel → List Table → ℕ → List ℕ → ℤ → List Row → ReferenceFailure → Type 0
IsReferenceFailure h tables t removed m added f =
    (f.child < length tables) × FailsAfter h tables t removed m added f.child f.reference
