use Rattle.tql_store.proofs.Pruned.{HavePruned}
use Rattle.tql_store.proofs.pruning.prune_each.Given as goal

-- the first `number` tables are pruned
abbrev pub invariant-loop-number : goal.invariant-loop-number
invariant-loop-number g l = HavePruned l.horizon l.number l.fn.rows l.rows
