use Rattle.tql_engine.proofs.PointRuns.{steps_agree}
use Rattle.tql_engine.proofs.points.steps_agree_at_points.Goals as goal

pub returns : goal.returns
returns c = steps_agree
