use Rattle.std.proofs.Common.{◌≡◌, drop, map}
use Rattle.tql_expr.specs.Trees.{plain_operation}
use Rattle.tql_expr.specs.Meaning.{expr, HasExpr, Stays, chain}
use Rattle.tql_expr.proofs.terms.Terms.push_chain.Given as goal

-- the expression so far and the remaining operations give the whole
abbrev pub invariant-loop-op : goal.invariant-loop-op
invariant-loop-op l = record {
  stays : Stays l.fn.self l.self;
  within : HasExpr l.self l.so_far;
  is : chain (expr l.self l.so_far) (map (λ x. (plain_operation x.0, expr l.fn.self x.1)) (drop l.op-index l.rest)) ≡
      chain (expr l.fn.self l.fn.first) (map (λ x. (plain_operation x.0, expr l.fn.self x.1)) l.rest);
}
