-- Cells removed from a row, as data; and values put into their columns one after another.
use Rattle.std.specs.Prelude.{◌≡◌, refl, min, ℕ, suc, ◌+◌, ◌<◌, ◌≤◌, List, [], ◌∷◌, ◌++◌, take, drop, remove}
use Rattle.std.specs.Prelude.{length, slice_set, slice_index_or}
use Rattle.std.proofs.Common.{sym, ◌∙◌, arith}
use Rattle.std.proofs.lemmas.List.{drop_more, map-append, take-map, drop-map}
use Rattle.std.proofs.lemmas.List.{length-drop}
use Rattle.tql_spec.specs.Datum.{Row, Null}
use Rattle.tql_spec.specs.Definition.{cell}
use Rattle.tql_spec.specs.Change.{filled}
use Rattle.tql_value.specs.Views.{datum_of_view}
use Rattle.tql_value.specs.declared.value.View.{View}
use Rattle.tql_dml.specs.Cells.{data_of}

-- a removed cell
pub data_remove : (views : List View) (i : ℕ) → data_of (remove views i) ≡ remove (data_of views) i
data_remove views i = map-append datum_of_view (take i views) (drop (suc i) views)
    ∙ (λ j. sym (take-map datum_of_view i views) j ++ sym (drop-map datum_of_view (suc i) views) j)

-- one more value in its column
pub one_more_filled : (row new : Row) (js : List ℕ) (values : Row) (p : ℕ) (all : Row)
    → p < length js → p < length values
    → new ≡ slice_set row (slice_index_or js p 0) (cell values p)
    → filled row (drop p js) (drop p values) ≡ all
    → filled new (drop (p + 1) js) (drop (p + 1) values) ≡ all
one_more_filled row new js values p all l k m h =
    (λ i. filled (m i) (drop (p + 1) js) (drop (p + 1) values))
    ∙ sym (λ i. filled row (drop_more js p 0 l i) (drop_more values p Null k i)) ∙ h

none_filled : (row : Row) (js : List ℕ) (values : Row) → min (length js) (length values) ≤ 0
    → filled row js values ≡ row
none_filled row [] values h = refl
none_filled row (j ∷ js) [] h = refl
none_filled row (j ∷ js) (v ∷ vs) h = absurd (omega arith)

-- no value or no column is left
pub all_filled : (row : Row) (js : List ℕ) (values : Row) (p : ℕ) (all : Row)
    → min (length js) (length values) ≤ p
    → filled row (drop p js) (drop p values) ≡ all → row ≡ all
all_filled row js values p all past h =
    sym (none_filled row (drop p js) (drop p values) (omega (arith, length-drop p js, length-drop p values))) ∙ h
