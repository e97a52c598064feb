use Rattle.std.proofs.Common.{◌≡◌, take}
use Rattle.tql_spec.specs.Query.{cells_at}
use Rattle.tql_exec_join.specs.Tuples.{tuple_row}
use Rattle.tql_exec_numbered.specs.Numbered.{seen}
use Rattle.tql_exec_group.proofs.grouping.put_all.Given as goal

-- invariant: the cells so far are those of the first columns
abbrev pub invariant-loop-column : goal.invariant-loop-column
invariant-loop-column l = seen l.cells.items ≡ cells_at (take l.column-index l.columns) (tuple_row l.row)
