use Rattle.tql_spec.proofs.Horizons.{pruned_answers_stay, only_moments_are_before}
use Rattle.tql_spec.proofs.HorizonRuns.{prunes_are_unseen}
use Rattle.tql_spec.proofs.ReachedHorizons.{reached_horizons}
use Rattle.tql_spec.proofs.pruned_history.Goals as goal

pub returns-clause-tables : goal.returns-clause-tables
returns-clause-tables c = pruned_answers_stay

pub returns-clause-literals : goal.returns-clause-literals
returns-clause-literals c = only_moments_are_before

pub returns-clause-horizons : goal.returns-clause-horizons
returns-clause-horizons c = reached_horizons

pub returns-clause-runs : goal.returns-clause-runs
returns-clause-runs c = prunes_are_unseen
