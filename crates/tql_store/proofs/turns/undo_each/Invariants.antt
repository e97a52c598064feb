use Rattle.tql_store.specs.Orderly.{HaveEnded, IsUndone}
use Rattle.tql_store.proofs.turns.undo_each.Given as goal

-- the transaction is undone in the touched tables so far
abbrev pub invariant-loop-number : goal.invariant-loop-number
invariant-loop-number g l = HaveEnded (IsUndone l.moment) l.number-index l.touched l.fn.rows l.rows
