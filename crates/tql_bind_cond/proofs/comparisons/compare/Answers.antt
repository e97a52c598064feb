use Rattle.std.proofs.Common.{IfOk, subst}
use Rattle.tql_spec.specs.Datum.{Comparison}
use Rattle.tql_spec.specs.Expression as bound
use Rattle.tql_spec.specs.Names as names
use Rattle.tql_expr.specs.Meaning.{cond}
use Rattle.tql_syntax_tree.specs.Conditions.{comparison_of}
use Rattle.tql_syntax_tree.specs.Expressions.{expr_of}
use Rattle.tql_bind_expr.specs.Bounds.{typed_of}
use Rattle.tql_bind_expr.specs.Gathered.{Gathers}
use Rattle.tql_bind_expr.specs.Scopes.{scope_of}
use Rattle.tql_bind_expr.proofs.Gathering.{bound_ok}
use Rattle.tql_bind_cond.proofs.comparisons.compare.Goals as goal

pub returns-clause-bound : goal.returns-clause-bound
returns-clause-bound c =
    let s = scope_of c.args.scope.now in
    let right = expr_of c.args.right.now in
    let left = typed_of c.sum.new.terms c.in_ok-left.left in
    bound_ok (names.expr s (expr_of c.args.left.now))
    (λ x. names.compared right s x (bound.Compare (comparison_of c.args.sign))) (cond c.compared.new.terms) _ _ _
    _ _
    c.in_ok-left.ensures.bound
    (subst (λ (op : Comparison). IfOk c.compared.result
    (λ y. Gathers (names.compared right s left (bound.Compare op)) c.sum.new.faults c.compared.new.faults
    (cond c.compared.new.terms y))) c.comparison.ensures
    c.compared.ensures.bound)
