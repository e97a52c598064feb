use Rattle.tql_spec.specs.Names.{operand, contained, sole_name}
use Rattle.tql_expr.specs.Meaning.{cond}
use Rattle.tql_syntax_tree.specs.Conditions.{operand_of}
use Rattle.tql_syntax_tree.specs.Expressions.{expr_of}
use Rattle.tql_bind_expr.specs.Scopes.{scope_of}
use Rattle.tql_bind_expr.proofs.Gathering.{bound_ok}
use Rattle.tql_bind_cond.proofs.relations.contains_point.Goals as goal

pub returns-clause-bound : goal.returns-clause-bound
returns-clause-bound c =
    let s = scope_of c.args.scope.now in
    let e = expr_of c.args.right.now in
    bound_ok (operand s (operand_of c.args.left.now)) (λ a. contained s a e (sole_name e))
    (cond c.contained.new.terms) _ _ _ _ _
    c.in_ok-left.ensures.bound c.contained.ensures.bound
