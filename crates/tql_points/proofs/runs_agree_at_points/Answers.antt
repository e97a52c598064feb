use Rattle.tql_points.proofs.PointRuns.{starts_kept, scopes_kept, runs_agree, runs_agree_behind}
use Rattle.tql_points.proofs.runs_agree_at_points.Goals as goal

pub returns-clause-starts : goal.returns-clause-starts
returns-clause-starts c = starts_kept

pub returns-clause-runs : goal.returns-clause-runs
returns-clause-runs c = runs_agree

pub returns-clause-behind : goal.returns-clause-behind
returns-clause-behind c = runs_agree_behind

pub returns-clause-scopes : goal.returns-clause-scopes
returns-clause-scopes c = scopes_kept
