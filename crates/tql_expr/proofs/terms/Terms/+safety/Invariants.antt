use Rattle.std.proofs.Common.{◌≡◌, ◌+◌, ◌*◌, ◌≤◌}
use Rattle.tql_expr.specs.Trees.{cond_of, term_in}
use Rattle.tql_spec.specs.Expression.{is_safe}
use Rattle.tql_expr.specs.Meaning.{trees}
use Rattle.tql_expr.proofs.terms.Terms.+safety.Given as goal

abbrev pub decreases-is_safe : goal.decreases-is_safe
decreases-is_safe l = 2 * l.c.place + 1

abbrev pub decreases-is_safe_test : goal.decreases-is_safe_test
decreases-is_safe_test l = 2 * l.at

-- the remaining part decides
abbrev pub invariant-is_safe-loop-parts : goal.invariant-is_safe-loop-parts
invariant-is_safe-loop-parts l = record {
  before : l.here ≤ l.fn.c.place;
  decides : is_safe (cond_of (term_in (trees l.self) l.here)) ≡ is_safe (cond_of (term_in (trees l.self) l.fn.c.place));
}

abbrev pub decreases-is_safe-loop-parts : goal.decreases-is_safe-loop-parts
decreases-is_safe-loop-parts l = l.here
