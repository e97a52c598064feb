use Rattle.tql_store_rows.proofs.Hits.{lender_step}
use Rattle.tql_store_rows.proofs.finding.push_loans.Goals as goal

pub loop-loan-preserved : goal.loop-loan-preserved
loop-loan-preserved c =
    lender_step c.args.loans.now c.loop-loan.loan-index _ c.loop-loan.places.items c.push.new.self.items _
    c.loop-loan-test.true c.in_ok-push.ensures.items c.loop-loan.invariant
