use Rattle.std.proofs.Common.{refl, subst, Option}
use Rattle.tql_splitter.specs.declared.piece.Piece.{Piece}
use Rattle.tql_splitter.specs.Pieces.{Gives, StandsFor}
use Rattle.tql_splitter.proofs.HoldLemmas.{given_as}
use Rattle.tql_run.proofs.Kept.{kept_one, kept_none}
use Rattle.tql_run.proofs.runner.answer_whole.Goals as goal

pub returns-in-Some-clause-answers : goal.returns-in-Some-clause-answers
returns-in-Some-clause-answers g c =
    let gives = subst (λ (o : Option Piece). Gives c.args.splitter.now o c.next_statement.follows.lender-at-none)
    c.in-Some.is c.next_statement.follows.holds-at-none in
    record {
      one = given_as (StandsFor c.in-Some.piece) _ _ _ _ gives refl
          (λ p says s st. c.answer_piece-answer.ensures.answered s p st says);
      printable = c.answer_piece-answer.ensures.printable;
    }

pub returns-in-Some-clause-kept : goal.returns-in-Some-clause-kept
returns-in-Some-clause-kept g c =
    let gives = subst (λ (o : Option Piece). Gives c.args.splitter.now o c.next_statement.follows.lender-at-none)
    c.in-Some.is c.next_statement.follows.holds-at-none in
    kept_one _ c.in-Some.piece _ _ _ _ _ _ _ gives c.answer_piece-answer.ensures.answered
    c.answer_piece-answer.ensures.kept c.keep.ensures.kept

pub returns-in-None-clause-kept : goal.returns-in-None-clause-kept
returns-in-None-clause-kept g c =
    let gives = subst (λ (o : Option Piece). Gives c.args.splitter.now o c.next_statement.follows.lender-at-none)
    c.in-None.is c.next_statement.follows.holds-at-none in
    kept_none _ _ _ _ _ _ _ (record { none = gives; stands = λ s st. st }) refl
