use Rattle.tql_exec_join.specs.Tuples.{tuple_row}
use Rattle.tql_exec_group.proofs.Taking.{Midway}
use Rattle.tql_exec_group.proofs.grouping.take_at.Given as goal

-- invariant: the first accumulators have taken the row
abbrev pub invariant-loop-which : goal.invariant-loop-which
invariant-loop-which l =
    Midway l.terms l.aggregates l.number (tuple_row l.row) l.fn.folds.items l.which-index l.at l.folds.items
