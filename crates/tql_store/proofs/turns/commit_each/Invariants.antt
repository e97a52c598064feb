use Rattle.tql_store.specs.Orderly.{HaveEnded, IsCommitted}
use Rattle.tql_store.proofs.turns.commit_each.Given as goal

-- the transaction is committed in the touched tables so far
abbrev pub invariant-loop-number : goal.invariant-loop-number
invariant-loop-number g l = HaveEnded (IsCommitted l.moment) l.number-index l.touched l.fn.rows l.rows
