use Rattle.tql_period.specs.Points.{points_of}
use Rattle.tql_store_index.specs.Basis.{filed}
use Rattle.tql_store_index.proofs.Linking.{HaveTurned, Entered}
use Rattle.tql_store_index.proofs.value_indexes.enter_each.Given as goal

-- the row was entered in the first i indexes
abbrev pub invariant-loop-i : goal.invariant-loop-i
invariant-loop-i g l = HaveTurned (Entered l.place (filed l.row (points_of l.during)) l.seats) l.i
    l.fn.indexes l.indexes
