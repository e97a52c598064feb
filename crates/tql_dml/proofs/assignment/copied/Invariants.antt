use Rattle.std.proofs.Common.{◌≡◌, take}
use Rattle.tql_dml.specs.Cells.{data_of}
use Rattle.tql_expr.specs.Shown.{shown_by}
use Rattle.tql_dml.proofs.assignment.copied.Given as goal

abbrev pub invariant-loop-place : goal.invariant-loop-place
invariant-loop-place l = data_of l.cells.items ≡ take l.place (shown_by l.row)
