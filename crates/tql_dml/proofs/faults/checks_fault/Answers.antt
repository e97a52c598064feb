use Rattle.std.proofs.Common.{arith, ◌∙◌, ap}
use Rattle.std.specs.Prelude.{[], option_map}
use Rattle.tql_spec.specs.Refusal.{first}
use Rattle.tql_spec.specs.Expression.{judge}
use Rattle.tql_spec.specs.Change.{check_fault}
use Rattle.tql_expr.specs.Meaning.{cond}
use Rattle.tql_expr.specs.Shown.{shown_by}
use Rattle.tql_value.specs.Refusals.{refusal_of}
use Rattle.tql_dml.proofs.FaultLaws.{find_at, found_all}
use Rattle.tql_dml.proofs.faults.checks_fault.Goals as goal

pub loop-check-preserved : goal.loop-check-preserved
loop-check-preserved c =
    find_at (λ x. check_fault (judge [] (shown_by c.args.row.now) x)) (cond c.args.terms.now) c.args.checks.now
    c.loop-check.check-index _ (option_map refusal_of c.loop-check.found)
    (option_map refusal_of c.truth_fault.result) (option_map refusal_of c.sooner-found.result) (omega arith)
    (c.truth_fault.ensures ∙ ap (λ t. first (check_fault t)) c.holds.ensures.truth) c.sooner-found.ensures
    c.loop-check.invariant

pub returns : goal.returns
returns c =
    found_all (λ x. check_fault (judge [] (shown_by c.args.row.now) x)) (cond c.args.terms.now) c.args.checks.now
    c.loop-check.check-index (option_map refusal_of c.loop-check.found) (omega arith) c.loop-check.invariant
