use Rattle.std.proofs.Common.{◌≡◌, ◌+◌, ◌*◌, ◌≤◌}
use Rattle.tql_expr.specs.Trees.{expr_of, term_in}
use Rattle.tql_expr.specs.Meaning.{trees}
use Rattle.tql_expr.specs.Searches.{sought}
use Rattle.tql_expr.proofs.terms.Terms.+finds.Given as goal

abbrev pub decreases-finds : goal.decreases-finds
decreases-finds l = 2 * l.x.place + 1

abbrev pub decreases-finds_at : goal.decreases-finds_at
decreases-finds_at l = 2 * l.at

-- the remaining part decides
abbrev pub invariant-finds-loop-operands : goal.invariant-finds-loop-operands
invariant-finds-loop-operands l = record {
  before : l.here ≤ l.fn.x.place;
  decides : sought l.search (expr_of (term_in (trees l.self) l.here)) ≡ sought l.search
      (expr_of (term_in (trees l.self) l.fn.x.place));
}

abbrev pub decreases-finds-loop-operands : goal.decreases-finds-loop-operands
decreases-finds-loop-operands l = l.here
