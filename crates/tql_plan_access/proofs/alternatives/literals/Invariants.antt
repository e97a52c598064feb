use Rattle.std.proofs.Common.{◌≡◌, true, false, map}
use Rattle.std.specs.Prelude.{◌||◌}
use Rattle.std.specs.List.{list_any}
use Rattle.tql_spec.specs.Datum.{Datum, is_null}
use Rattle.tql_expr.specs.Meaning.{cond, HasCond}
use Rattle.tql_plan_laws.specs.Equalities.{agree}
use Rattle.tql_value.specs.Views.{datum_of_view}
use Rattle.tql_plan_access.specs.Choices.{is_choice, is_chosen}
use Rattle.tql_plan_access.proofs.alternatives.literals.Given as goal

-- the values so far, and those of the part that is left
abbrev pub invariant-loop-parts : goal.invariant-loop-parts
invariant-loop-parts l = record {
  there : HasCond l.terms l.here;
  choice : is_choice l.column (cond l.terms l.here) ≡ true;
  each : (x : Datum) → (list_any (agree x) (map datum_of_view l.values.items)
      || is_chosen l.column (cond l.terms l.here) x) ≡ is_chosen l.column (cond l.terms l.fn.c) x;
  known : list_any is_null (map datum_of_view l.values.items) ≡ false;
}

abbrev pub decreases-loop-parts : goal.decreases-loop-parts
decreases-loop-parts l = l.here.place
