-- Rows of a table.
use Rattle.std.proofs.Common.{◌≡◌, ℕ, List, Vec, take, drop, ap, ◌∙◌}
use Rattle.std.proofs.lemmas.List.{drop-map, take-map}
use Rattle.tql_spec.specs.Datum.{Row}
use Rattle.tql_value.specs.Views.{row_of, rows_of}
use Rattle.tql_value.specs.declared.value.Value.{Value}

-- a part of the rows
pub rows_taken : {A : Type 0} (rows : List (Vec Value A)) (gone start count : ℕ)
    → take count (drop start (drop gone (rows_of rows))) ≡ rows_of (take count (drop start (drop gone rows)))
rows_taken {A} rows gone start count =
    let f : Vec Value A → Row = λ r. row_of r.items in
    ap (λ rs. take count (drop start rs)) (drop-map f gone rows)
    ∙ ap (take count) (drop-map f start (drop gone rows)) ∙ take-map f count (drop start (drop gone rows))
