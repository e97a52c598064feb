use Rattle.tql_engine_step.proofs.engine.EngineResponder.answer.Goals as goal

pub returns-clause-answered : goal.returns-clause-answered
returns-clause-answered g c s st = let a = c.step.ensures.answered s st in record {
  state = a.state;
  answers = (a.answers, λ whole short ends. c.step.ensures.ends ends);
  stands = a.stands;
}
