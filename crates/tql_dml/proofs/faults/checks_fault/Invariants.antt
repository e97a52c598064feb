use Rattle.std.specs.Prelude.{[], option_map}
use Rattle.tql_spec.specs.Expression.{judge}
use Rattle.tql_spec.specs.Change.{check_fault}
use Rattle.tql_expr.specs.Meaning.{cond}
use Rattle.tql_expr.specs.Shown.{shown_by}
use Rattle.tql_value.specs.Refusals.{refusal_of}
use Rattle.tql_dml.proofs.FaultLaws.{Finds}
use Rattle.tql_dml.proofs.faults.checks_fault.Given as goal

abbrev pub invariant-loop-check : goal.invariant-loop-check
invariant-loop-check l =
    Finds (λ x. check_fault (judge [] (shown_by l.row) x)) (cond l.terms) l.checks (option_map refusal_of l.found)
    l.check-index
