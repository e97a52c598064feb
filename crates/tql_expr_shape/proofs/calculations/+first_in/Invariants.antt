use Rattle.std.proofs.Common.{◌≡◌, ◌+◌, ◌*◌, ◌≤◌}
use Rattle.tql_expr_shape.specs.Calculations.{first_in}
use Rattle.tql_expr.specs.Trees.{expr_of, term_in}
use Rattle.tql_expr.specs.Meaning.{trees}
use Rattle.tql_expr_shape.proofs.calculations.+first_in.Given as goal

abbrev pub decreases-first_at : goal.decreases-first_at
decreases-first_at l = 2 * l.at + 1

abbrev pub decreases-first_inside : goal.decreases-first_inside
decreases-first_inside l = 2 * l.at

-- what is left decides
abbrev pub invariant-first_at-loop-inner : goal.invariant-first_at-loop-inner
invariant-first_at-loop-inner l = record {
  before : l.here ≤ l.fn.at;
  decides : first_in (expr_of (term_in (trees l.terms) l.here)) ≡ first_in (expr_of (term_in (trees l.terms) l.fn.at));
}

abbrev pub decreases-first_at-loop-inner : goal.decreases-first_at-loop-inner
decreases-first_at-loop-inner l = l.here
