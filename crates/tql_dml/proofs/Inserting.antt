-- The effect of an INSERT, from the effects of its parts.
use Rattle.std.specs.Prelude.{◌≡◌, refl, ℕ, ℤ, List, [], ◌∷◌, ◌++◌, map, length, Option}
use Rattle.std.specs.List.{flat_map}
use Rattle.std.proofs.Common.{sym, ap, ◌∙◌}
use Rattle.std.proofs.lemmas.List.{length-map}
use Rattle.tql_spec.specs.Datum.{Row}
use Rattle.tql_spec.specs.Refusal as spec
use Rattle.tql_spec.specs.Refusal.{first}
use Rattle.tql_spec.specs.Definition.{TableDef, Stamped, stamped, shown}
use Rattle.tql_spec.specs.Change.{row_faults, new_row}
use Rattle.tql_spec.specs.Binding.{all_assignable}
use Rattle.tql_catalog.specs.Defined.{IsDefinition}
use Rattle.tql_catalog.proofs.Definitions.{has_its_system}
use Rattle.tql_dml.specs.Cells.{no_column, stored_columns, stored_cells, faults_by, stored_faults, rows_faults}
use Rattle.tql_catalog.proofs.Kept.{kept, kept_law}
use Rattle.tql_dml.proofs.FaultLaws.{plain_faults}
use Rattle.tql_dml.proofs.Filling.{length-stored}

-- the new rows at a moment: these values in these columns, and NULL in the others
abbrev pub new_rows : TableDef → ℤ → List ℕ → List Row → List Stamped
new_rows d m columns tuples = map (λ values. stamped d m (new_row d columns values)) tuples

-- all faults of the new rows
abbrev pub new_faults : TableDef → ℤ → List ℕ → List Row → List spec.Refusal
new_faults d m columns tuples = flat_map (λ r. row_faults d (shown d r)) (new_rows d m columns tuples)

-- the cells of the new rows
pub new_cells : (d : TableDef) (m : ℤ) (js : List ℕ) (tuples : List Row)
    → map (λ (r : Stamped). r.cells) (new_rows d m js tuples) ≡ map (stored_cells d js) tuples
new_cells d m js [] = refl
new_cells d m js (vs ∷ tuples) = ap {B = List Row} (λ rows. stored_cells d js vs ∷ rows) (new_cells d m js tuples)

-- the stored columns
pub kept_columns : (d : TableDef) → IsDefinition d → kept d.system d.columns ≡ stored_columns d
kept_columns d s = kept_law no_column d.system d.columns (has_its_system d s)

-- the faults of a new row
one_row : (d : TableDef) (m : ℤ) (js : List ℕ) (vs : Row) → IsDefinition d
    → row_faults d (shown d (stamped d m (new_row d js vs))) ≡ stored_faults d (stored_cells d js vs)
one_row d m js vs s =
    let wide : length (stored_cells d js vs) ≡ length (kept d.system d.columns) = length-stored d js vs s
    ∙ sym (length-map (all_assignable d) _) ∙ ap length (sym (kept_columns d s)) in
    plain_faults d (stamped d m (new_row d js vs)) s wide
    ∙ ap (λ cs. faults_by cs d.checks d (stored_cells d js vs)) (kept_columns d s)

faults_are : (d : TableDef) (m : ℤ) (js : List ℕ) (tuples : List Row) → IsDefinition d
    → new_faults d m js tuples ≡ rows_faults d (map (stored_cells d js) tuples)
faults_are d m js [] s = refl
faults_are d m js (vs ∷ tuples) s = λ i. one_row d m js vs s i ++ faults_are d m js tuples s i

-- the first fault of the new rows is that of their stored cells
pub first_of : (d : TableDef) (m : ℤ) (js : List ℕ) (tuples rows : List Row) (o : Option spec.Refusal)
    → IsDefinition d → rows ≡ map (stored_cells d js) tuples
    → o ≡ first (rows_faults d rows) → first (new_faults d m js tuples) ≡ o
first_of d m js tuples rows o s e f = ap first (faults_are d m js tuples s ∙ ap (rows_faults d) (sym e)) ∙ sym f
