use Rattle.std.proofs.Common.{◌≡◌, take}
use Rattle.tql_dml.specs.Cells.{data_of}
use Rattle.tql_dml.proofs.draft.views_of.Given as goal

abbrev pub invariant-loop-place : goal.invariant-loop-place
invariant-loop-place l = data_of l.views.items ≡ take l.place l.row
