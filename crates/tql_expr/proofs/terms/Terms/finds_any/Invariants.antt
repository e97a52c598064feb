use Rattle.std.proofs.Common.{◌≡◌, drop, map}
use Rattle.std.specs.List.{list_any}
use Rattle.tql_expr.specs.Meaning.{expr}
use Rattle.tql_expr.specs.Searches.{sought}
use Rattle.tql_expr.proofs.terms.Terms.finds_any.Given as goal

-- the remaining expressions decide
abbrev pub invariant-loop-item : goal.invariant-loop-item
invariant-loop-item l =
    list_any (sought l.search) (map (expr l.self) (drop l.item-index l.items)) ≡ list_any (sought l.search)
    (map (expr l.self) l.items)
