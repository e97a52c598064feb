-- The first of adjacent equal rows is kept.
use Rattle.std.proofs.Common.{rules, map, Vec, ◌∙◌, ap}
use Rattle.std.specs.List.{dedup}
use Rattle.std.specs.Ordering.{is_eq}
use Rattle.std.proofs.lemmas.Fn.{dedup_same}
use Rattle.tql_spec.specs.Datum.{Row}
use Rattle.tql_spec.specs.Query.{by_columns}
use Rattle.tql_value.specs.declared.value.Value.{Value}
use Rattle.tql_value.specs.Views.{row_of, rows_of}
use Rattle.tql_exec_sort.proofs.Printed.{dedup-map, ties_where_one}
use Rattle.tql_exec_sort.proofs.sorting.drop_repeats.Goals as goal

pub returns : goal.returns
returns c =
    let view : Vec Value _ → Row = λ v. row_of v.items in
    ap (map view) (dedup_same _ (λ x y. is_eq (by_columns (view x) (view y))) _ (λ x y b f' x' y' k. search rules)
    c.args.rows.now.items _ c.dedup_by.ensures.filtered)
    ∙ dedup-map view (λ x y. is_eq (by_columns x y)) c.args.rows.now.items
    ∙ (λ i. dedup (λ x y. ties_where_one x y i) (rows_of c.args.rows.now.items))
