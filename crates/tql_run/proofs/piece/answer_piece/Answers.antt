use Rattle.std.proofs.Common.{subst}
use Rattle.tql_splitter.specs.Pieces.{StandsFor}
use Rattle.tql_run.proofs.Faults.{text_answered, long_answered, memory_answered, cut_answered}
use Rattle.tql_run.proofs.piece.answer_piece.Goals as goal

pub returns-in-Text-clause-answered : goal.returns-in-Text-clause-answered
returns-in-Text-clause-answered g c s p st e = let w =
    subst (λ q. StandsFor q p) c.in-Text.is e in text_answered _ s p _ _ _ w.0 w.1 (c.answer.ensures.answered s st)

pub returns-in-TooLong-clause-answered : goal.returns-in-TooLong-clause-answered
returns-in-TooLong-clause-answered g c s p st e = let w =
    subst (λ q. StandsFor q p) c.in-TooLong.is e in long_answered _ g.met.R.Responder.refuses s p _ st w

pub returns-in-Unfinished-clause-answered : goal.returns-in-Unfinished-clause-answered
returns-in-Unfinished-clause-answered g c s p st e =
    let w = subst (λ q. StandsFor q p) c.in-Unfinished.is e in cut_answered _ g.met.R.Responder.refuses s p _ _ _ st
    w.0 w.1 w.2 c.cut_fault.ensures

pub returns-in-NoMemory-clause-answered : goal.returns-in-NoMemory-clause-answered
returns-in-NoMemory-clause-answered g c s p st e =
    let w = subst (λ q. StandsFor q p) c.in-NoMemory.is e in memory_answered _ g.met.R.Responder.refuses s p _ st w
