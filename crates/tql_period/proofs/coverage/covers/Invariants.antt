use Rattle.tql_period.specs.Points.{points_of}
use Rattle.tql_period.proofs.Sweep.{Swept}
use Rattle.tql_period.proofs.coverage.covers.Given as goal

abbrev pub invariant-loop-part : goal.invariant-loop-part
invariant-loop-part l = Swept l.parts (points_of l.whole) l.part-index l.reach
