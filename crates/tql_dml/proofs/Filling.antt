-- The cells of a new row: their number, their values, and rows whose values are given in order.
use Rattle.std.specs.Prelude.{◌≡◌, refl, ℕ, ◌<◌, Bool, true, false, not, ◌&&◌, ◌||◌, ◌==◌, nat_lt, List, [], ◌∷◌, map}
use Rattle.std.specs.Prelude.{filter, length, replicate, slice_set, slice_index_or, All, Option}
use Rattle.std.specs.Prelude.{Some, None}
use Rattle.std.specs.List.{list_all, range_with_len}
use Rattle.std.proofs.Common.{sym, ap, subst, ◌∙◌, arith}
use Rattle.std.proofs.lemmas.List.{length-set, length-map, length-replicate, get_or-set_same, get_or-set_other}
use Rattle.std.proofs.lemmas.List.Elements.{All-head, All-tail, All-set, All-replicate, All-map}
use borrow.Author.Tests.{ltb-true, eqb-false}
use Rattle.tql_spec.specs.Datum.{Null, Row}
use Rattle.tql_spec.specs.Definition.{TableDef, System, without_generated, cell}
use Rattle.tql_spec.specs.Change.{filled, new_row}
use Rattle.tql_spec.specs.Creation.{has_number}
use Rattle.tql_spec.specs.Binding.{all_assignable, is_generated, generated_columns}
use Rattle.tql_catalog.specs.Defined.{IsDefinition}
use Rattle.tql_catalog.proofs.Definitions.{has_its_system}
use Rattle.tql_catalog.specs.Rows.{has_system, numbers_repeat, are_assignable}
use Rattle.tql_value.specs.Points.{IsPrintable}
use Rattle.tql_expr.proofs.Printing.{printable_cell}
use Rattle.tql_dml.specs.Cells.{stored_cells, StoresAsGiven}
use Rattle.tql_catalog.proofs.Kept.{kept, kept_law, and_left, and_right, not_is}

pub length-filled : (row : Row) (js : List ℕ) (vs : Row) → length (filled row js vs) ≡ length row
length-filled row [] vs = refl
length-filled row (j ∷ js) [] = refl
length-filled row (j ∷ js) (v ∷ vs) = length-filled (slice_set row j v) js vs ∙ length-set row j v

neither_left : (a b : Bool) → a || b ≡ false → a ≡ false
neither_left true b h = absurd cc
neither_left false b h = refl

neither_right : (a b : Bool) → a || b ≡ false → b ≡ false
neither_right true b h = absurd cc
neither_right false b h = h

-- a column without a given value
not_filled : (row : Row) (js : List ℕ) (vs : Row) (i : ℕ) → has_number i js ≡ false
    → cell (filled row js vs) i ≡ cell row i
not_filled row [] vs i h = refl
not_filled row (j ∷ js) [] i h = refl
not_filled row (j ∷ js) (v ∷ vs) i h =
    not_filled (slice_set row j v) js vs i (neither_right (i == j) (has_number i js) h)
    ∙ get_or-set_other row j i v Null (eqb-false i j (neither_left (i == j) (has_number i js) h))

-- whether a user may give a value to a column
abbrev is_open : TableDef → ℕ → Bool
is_open d i = nat_lt i (length d.columns) && not (is_generated d i)

-- the cells of the columns with a given value
filled_cells : (d : TableDef) (row : Row) (js : List ℕ) (vs : Row) → length row ≡ length d.columns
    → length vs ≡ length js
    → list_all (is_open d) js ≡ true → numbers_repeat js ≡ false → map (cell (filled row js vs)) js ≡ vs
filled_cells d row [] [] n k o r = refl
filled_cells d row [] (v ∷ vs) n k o r = absurd (omega arith)
filled_cells d row (j ∷ js) [] n k o r = absurd (omega arith)
filled_cells d row (j ∷ js) (v ∷ vs) n k o r =
    let in_width : j < length d.columns =
    ltb-true j (length d.columns) (and_left _ _ (and_left (is_open d j) (list_all (is_open d) js) o)) in
    let here : cell (filled (slice_set row j v) js vs) j ≡ v =
    not_filled (slice_set row j v) js vs j (neither_left (has_number j js) (numbers_repeat js) r)
    ∙ get_or-set_same row j v Null (omega arith) in
    let rest : map (cell (filled (slice_set row j v) js vs)) js ≡ vs =
    filled_cells d (slice_set row j v) js vs (length-set row j v
    ∙ n) (omega arith) (and_right (is_open d j) (list_all (is_open d) js) o)
    (neither_right (has_number j js) (numbers_repeat js) r) in
    λ i. here i ∷ rest i

-- ---- the stored cells

without_is : (s : Option System) (row : Row) → without_generated s row ≡ kept s row
without_is None row = refl
without_is (Some s) row = refl

pub length-row : (d : TableDef) (js : List ℕ) (vs : Row) → length (new_row d js vs) ≡ length d.columns
length-row d js vs = length-filled (replicate (length d.columns) Null) js vs ∙ length-replicate (length d.columns) Null

-- the cells of the stored columns, in order
pub kept_cells : (d : TableDef) (row : Row) → IsDefinition d → length row ≡ length d.columns
    → without_generated d.system row ≡ map (cell row) (all_assignable d)
kept_cells d row s k =
    without_is d.system row
    ∙ subst (λ n. kept d.system row ≡ map (cell row)
    (filter (λ i. not (has_number i (generated_columns d.system))) (range_with_len 0 n))) k
    (kept_law Null d.system row (subst (λ n. has_system d.system n ≡ true) (sym k) (has_its_system d s)))

stored_law : (d : TableDef) (js : List ℕ) (vs : Row) → IsDefinition d
    → stored_cells d js vs ≡ map (cell (new_row d js vs)) (all_assignable d)
stored_law d js vs s = kept_cells d (new_row d js vs) s (length-row d js vs)

-- a new row with a value for each stored column, in order
pub usual_row : (d : TableDef) (js : List ℕ) (vs : Row) → IsDefinition d → js ≡ all_assignable d
    → are_assignable d js ≡ true → length vs ≡ length js → stored_cells d js vs ≡ vs
usual_row d js vs s e a k =
    stored_law d js vs s ∙ ap (map (cell (new_row d js vs))) (sym e)
    ∙ filled_cells d (replicate (length d.columns) Null) js vs (length-replicate (length d.columns) Null) k
    (and_left (list_all (is_open d) js) _ a) (not_is (numbers_repeat js) (and_right (list_all (is_open d) js) _ a))

pub length-stored : (d : TableDef) (js : List ℕ) (vs : Row) → IsDefinition d
    → length (stored_cells d js vs) ≡ length (all_assignable d)
length-stored d js vs s = ap length (stored_law d js vs s) ∙ length-map (all_assignable d) (cell (new_row d js vs))

-- ---- values that have texts

printable_filled : (row : Row) (js : List ℕ) (vs : Row) → All IsPrintable row → All IsPrintable vs
    → All IsPrintable (filled row js vs)
printable_filled row [] vs p q = p
printable_filled row (j ∷ js) [] p q = p
printable_filled row (j ∷ js) (v ∷ vs) p q =
    printable_filled (slice_set row j v) js vs (All-set IsPrintable row j v (All-head IsPrintable v vs q) p)
    (All-tail IsPrintable v vs q)

-- the stored values
pub stored_prints : (d : TableDef) (js : List ℕ) (vs : Row) → IsDefinition d → All IsPrintable vs
    → All IsPrintable (stored_cells d js vs)
stored_prints d js vs s h =
    let row = new_row d js vs in
    let printable : All IsPrintable row =
    printable_filled (replicate (length d.columns) Null) js vs
    (All-replicate IsPrintable (length d.columns) Null tt) h in
    subst (All IsPrintable) (sym (stored_law d js vs s))
    (All-map IsPrintable (cell row) (all_assignable d)
    (λ k i l. printable_cell row (slice_index_or (all_assignable d) k i) printable))

-- values for each stored column, in order
pub given_as_stored : (d : TableDef) (js : List ℕ) → IsDefinition d → js ≡ all_assignable d
    → are_assignable d js ≡ true → StoresAsGiven d js
given_as_stored d js s e a = λ values wide. usual_row d js values s e a wide
