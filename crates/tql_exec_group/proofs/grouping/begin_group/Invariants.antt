use Rattle.std.proofs.Common.{take}
use Rattle.tql_exec_group.specs.Begun.{Begins}
use Rattle.tql_exec_group.proofs.grouping.begin_group.Given as goal

-- invariant: the accumulators so far are those of the first aggregates
abbrev pub invariant-loop-which : goal.invariant-loop-which
invariant-loop-which l = Begins (take l._which-index l.aggregates) l.fn.folds.items l.folds.items
