use Rattle.std.proofs.Common.{arith}
use Rattle.std.proofs.lemmas.Int.{ints, clamps}
use Rattle.tql_period.specs.Points.{points_of}
use Rattle.tql_period.proofs.Sweep.{swept_more, swept_all, swept_gap, answers, in_reach, out_of_reach}
use Rattle.tql_period.proofs.coverage.covers.Goals as goal
use Rattle.tql_period.proofs.coverage.covers.Goals.{else-loop-part-test, then-loop-part-test+then-part-reach}

pub loop-part-preserved : goal.loop-part-preserved
loop-part-preserved c =
    swept_more _ _ _ _ _ c.part-item.result c.loop-part.invariant c.loop-part-test.true c.part-item.is
    (in_reach _ _ _ c.if-part-reach.false (omega (arith, ints)))
    (omega (arith, ints, clamps, c.max-reach.ensures.value))

pub returns : goal.returns
returns c = answers c.args.parts.now (points_of c.args.whole) _ _ (omega (arith, ints))
    (elim c.loop-part-test.branch [
      | else-loop-part-test w ↦ swept_all _ _ _ _ c.loop-part.invariant (omega arith) w.loop-part-test.false
      | then-loop-part-test+then-part-reach w ↦ swept_gap _ _ _ _ w.part-item.result c.loop-part.invariant c.requires
          w.loop-part-test.true w.part-item.is (out_of_reach _ _ _ w.if-part-reach.true (omega (arith, ints)))
    ])
