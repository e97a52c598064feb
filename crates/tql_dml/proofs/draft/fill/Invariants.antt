use Rattle.std.proofs.Common.{◌≡◌, drop}
use Rattle.tql_spec.specs.Change.{filled}
use Rattle.tql_dml.specs.Cells.{data_of}
use Rattle.tql_dml.proofs.draft.fill.Given as goal

-- invariant: the columns left, on the row so far, give what all give
abbrev pub invariant-loop-place : goal.invariant-loop-place
invariant-loop-place l =
    filled (data_of l.row) (drop l.place l.columns) (drop l.place (data_of l.values))
    ≡ filled (data_of l.fn.row) l.columns (data_of l.values)
