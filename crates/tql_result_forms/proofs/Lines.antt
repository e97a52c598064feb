-- The lines of rows, in terms of their data.
use Rattle.std.proofs.Common.{◌≡◌, ℕ, List, sym, ◌∙◌, ap, map}
use Rattle.std.proofs.lemmas.List.Folds.{flat_map-map}
use Rattle.std.specs.Prelude.{Vec}
use Rattle.std.specs.List.{flat_map}
use Rattle.tql_spec.specs.Datum.{Row}
use Rattle.tql_value.specs.Views.{row_of}
use Rattle.tql_value.specs.declared.value.Value.{Value}

pub lines_are : {Z : Type 0} (f : Row → List ℕ) (given rows : List (Vec Value Z)) → given ≡ rows
    → flat_map (λ r. f (row_of r.items)) given ≡ flat_map f (map (λ r. row_of r.items) rows)
lines_are f given rows same =
    ap (flat_map (λ r. f (row_of r.items))) same ∙ sym (flat_map-map f (λ r. row_of r.items) rows)
