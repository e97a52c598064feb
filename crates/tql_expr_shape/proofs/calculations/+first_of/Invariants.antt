use Rattle.std.proofs.Common.{◌≡◌, ◌+◌, ◌*◌, ◌≤◌}
use Rattle.std.specs.Prelude.{option_map, IfSome}
use Rattle.tql_plan_laws.specs.Equalities.{or_else}
use Rattle.tql_expr_shape.specs.Calculations.{first_of}
use Rattle.tql_expr.specs.Trees.{cond_of, term_in}
use Rattle.tql_expr.specs.Meaning.{trees, expr, HasExpr}
use Rattle.tql_expr_shape.proofs.calculations.+first_of.Given as goal

abbrev pub decreases-first_calculation : goal.decreases-first_calculation
decreases-first_calculation l = 2 * l.c.place + 1

abbrev pub decreases-first_in_test : goal.decreases-first_in_test
decreases-first_in_test l = 2 * l.at

-- what is left decides, and where nothing is found in it what was found later
abbrev pub invariant-first_calculation-loop-sides : goal.invariant-first_calculation-loop-sides
invariant-first_calculation-loop-sides l = record {
  before : l.here ≤ l.fn.c.place;
  there : IfSome l.later (HasExpr l.terms);
  decides : or_else (first_of (cond_of (term_in (trees l.terms) l.here))) (option_map (expr l.terms) l.later)
      ≡ first_of (cond_of (term_in (trees l.terms) l.fn.c.place));
}

abbrev pub decreases-first_calculation-loop-sides : goal.decreases-first_calculation-loop-sides
decreases-first_calculation-loop-sides l = l.here
