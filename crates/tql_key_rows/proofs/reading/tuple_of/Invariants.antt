use Rattle.std.proofs.Common.{◌≡◌, ◌++◌, drop, map}
use Rattle.tql_value.specs.Views.{datum_of_view}
use Rattle.tql_expr.specs.Shown.{shown_by}
use Rattle.tql_key_rows.specs.Touched.{tuple}
use Rattle.tql_key_rows.proofs.reading.tuple_of.Given as goal

abbrev pub invariant-loop-column : goal.invariant-loop-column
invariant-loop-column l =
    map datum_of_view l.values.items ++ tuple (drop l.column-index l.columns) (shown_by l.row)
    ≡ tuple l.columns (shown_by l.row)
