use Rattle.tql_literal.proofs.PointsRead.{points_read}
use Rattle.tql_literal.proofs.points_read_back.Goals as goal

pub returns : goal.returns
returns c = points_read
