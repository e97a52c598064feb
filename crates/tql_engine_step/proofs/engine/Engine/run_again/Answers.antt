use Rattle.tql_spec.specs.Run.{finished}
use Rattle.tql_engine_step.proofs.Stepping.{unchanged}
use Rattle.tql_engine_step.proofs.engine.Engine.run_again.Goals as goal

pub returns-in-Err-OutOfMemory-clause-answered : goal.returns-in-Err-OutOfMemory-clause-answered
returns-in-Err-OutOfMemory-clause-answered g c s st =
    c.run_lent.ensures.answered s
    (unchanged c.refused_statements.ensures c.run_once.new.self s (finished c.args.text.now) _
    (c.in-Err-OutOfMemory.ensures.answered s st))
