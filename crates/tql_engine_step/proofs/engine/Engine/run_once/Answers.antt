use Rattle.tql_syntax_tree.specs.Trees.{tree_of}
use Rattle.tql_engine_step.proofs.Stepping.{result_answered, unread_answered}
use Rattle.tql_engine_step.proofs.engine.Engine.run_once.Goals as goal

pub returns-in-Ok-clause-answered : goal.returns-in-Ok-clause-answered
returns-in-Ok-clause-answered g c s st =
    result_answered _ s c.args.text.now (tree_of c.in-Ok.tree) c.execute.result c.in-Ok.ensures
    (c.execute.ensures.answered s st)

pub returns-in-Err-clause-answered : goal.returns-in-Err-clause-answered
returns-in-Err-clause-answered g c s st =
    unread_answered c.args.self.now s st c.args.text.now c.in-Err.refusal c.in-Err.ensures
