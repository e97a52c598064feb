use Rattle.tql_check.proofs.check.CheckerResponder.answer.Goals as goal

pub returns-clause-answered : goal.returns-clause-answered
returns-clause-answered c s st = record { state = s; answers = c.check.ensures.answered s; stands = st }
