use Rattle.std.proofs.Common.{◌≡◌, ◌+◌, ◌*◌, ◌≤◌}
use Rattle.tql_spec.specs.Creation.{has_expr}
use Rattle.tql_expr.specs.Trees.{cond_of, term_in}
use Rattle.tql_expr.specs.Meaning.{trees}
use Rattle.tql_expr.specs.Searches.{sought}
use Rattle.tql_expr.proofs.terms.Terms.+finds_in.Given as goal

abbrev pub decreases-finds_in : goal.decreases-finds_in
decreases-finds_in l = 2 * l.c.place + 1

abbrev pub decreases-finds_in_test : goal.decreases-finds_in_test
decreases-finds_in_test l = 2 * l.at

-- the remaining part decides
abbrev pub invariant-finds_in-loop-parts : goal.invariant-finds_in-loop-parts
invariant-finds_in-loop-parts l = record {
  before : l.here ≤ l.fn.c.place;
  decides : has_expr (sought l.search) (cond_of (term_in (trees l.self) l.here)) ≡ has_expr (sought l.search)
      (cond_of (term_in (trees l.self) l.fn.c.place));
}

abbrev pub decreases-finds_in-loop-parts : goal.decreases-finds_in-loop-parts
decreases-finds_in-loop-parts l = l.here
