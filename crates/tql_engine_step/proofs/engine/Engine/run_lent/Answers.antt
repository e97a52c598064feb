use Rattle.tql_syntax_tree.specs.Trees.{tree_of}
use Rattle.tql_engine_step.proofs.Stepping.{result_answered, unread_answered}
use Rattle.tql_engine_step.proofs.Borrowing.{lent_text}
use Rattle.tql_engine_step.proofs.engine.Engine.run_lent.Goals as goal

pub returns-in-Ok-clause-answered : goal.returns-in-Ok-clause-answered
returns-in-Ok-clause-answered g c s st =
    result_answered _ s c.args.text.now (tree_of c.in-Ok.tree) c.execute_lent.result c.in-Ok.ensures
    (c.execute_lent.ensures.answered s st)

pub returns-in-Ok-clause-lent : goal.returns-in-Ok-clause-lent
returns-in-Ok-clause-lent g c =
    lent_text c.args.text.now (tree_of c.in-Ok.tree) c.execute_lent.result c.in-Ok.ensures c.execute_lent.ensures.lent

pub returns-in-Err-clause-answered : goal.returns-in-Err-clause-answered
returns-in-Err-clause-answered g c s st =
    unread_answered c.args.self.now s st c.args.text.now c.in-Err.refusal c.in-Err.ensures
