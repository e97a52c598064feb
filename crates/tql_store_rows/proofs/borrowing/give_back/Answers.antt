use Rattle.std.proofs.Common.{◌∙◌, rules, arith}
use Rattle.std.proofs.lemmas.Grind.{common_steps}
use Rattle.tql_store_rows.proofs.Owing.{owing_end, owing_step, swap_even}
use Rattle.tql_store_rows.proofs.borrowing.give_back.Goals as goal

pub loop-loan-preserved : goal.loop-loan-preserved
loop-loan-preserved c = record {
  even = swap_even _ _ c.loop-loan.seats c.swap.new.self c.swap.ensures.swapped c.swap.ensures.same
      ∙ c.loop-loan.invariant.even;
  given = λ base from to kept indexes rows h.
      owing_step c.args.loans.now c.loop-loan.loan-index _ c.loop-loan.seats c.swap.new.self
      c.loop-loan-test.true c.swap.ensures.swapped base from to kept indexes rows
      (c.loop-loan.invariant.given base from to kept indexes rows h);
}

pub returns-clause-given : goal.returns-clause-given
returns-clause-given c = λ base from to kept indexes rows h.
    owing_end c.args.loans.now c.loop-loan.loan-index base from to kept c.loop-loan.seats indexes rows
    (first_of (search rules, grind (arith, common_steps)))
    (c.loop-loan.invariant.given base from to kept indexes rows h)
