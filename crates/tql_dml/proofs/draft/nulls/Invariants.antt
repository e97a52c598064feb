use Rattle.std.proofs.Common.{◌≡◌, replicate}
use Rattle.tql_spec.specs.Datum.{Null}
use Rattle.tql_dml.specs.Cells.{data_of}
use Rattle.tql_dml.proofs.draft.nulls.Given as goal

abbrev pub invariant-loop : goal.invariant-loop
invariant-loop l = data_of l.row.items ≡ replicate l.counter Null
