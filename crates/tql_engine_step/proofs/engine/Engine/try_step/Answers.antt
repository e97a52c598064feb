use Rattle.std.proofs.Common.{refl, rules, tests}
use Rattle.tql_spec.specs.Machine as machine
use Rattle.tql_spec.specs.Syntax.{CommitTree, RollbackTree}
use Rattle.tql_spec.proofs.FirstFaults.{bound_steps}
use Rattle.tql_engine_step.proofs.Ending.{step_answered}
use Rattle.tql_engine_step.proofs.engine.Engine.try_step.Goals as goal

pub returns-in-Some-Commit-clause-answered : goal.returns-in-Some-Commit-clause-answered
returns-in-Some-Commit-clause-answered g c s st =
    step_answered _ s c.args.text.now CommitTree machine.Commit c.commit.result
    (c.transaction_end.ensures.commits.0 (search (rules, tests))) (bound_steps s CommitTree refl)
    (c.commit.ensures.answered s st)

pub returns-in-Some-Rollback-clause-answered : goal.returns-in-Some-Rollback-clause-answered
returns-in-Some-Rollback-clause-answered g c s st =
    step_answered _ s c.args.text.now RollbackTree machine.Rollback c.rollback.result
    (c.transaction_end.ensures.rolls_back.0 (search (rules, tests))) (bound_steps s RollbackTree refl)
    (c.rollback.ensures.answered s st)
