use Rattle.std.proofs.Common.{◌≡◌}
use Rattle.tql_expr.specs.Meaning.{cond, HasCond}
use Rattle.tql_plan_access.specs.Choices.{is_choice}
use Rattle.tql_plan_access.proofs.alternatives.is_choice.Given as goal

-- the part that is left decides
abbrev pub invariant-loop-parts : goal.invariant-loop-parts
invariant-loop-parts l = record {
  there : HasCond l.terms l.here;
  decides : is_choice l.column (cond l.terms l.here) ≡ is_choice l.column (cond l.terms l.fn.c);
}

abbrev pub decreases-loop-parts : goal.decreases-loop-parts
decreases-loop-parts l = l.here.place
