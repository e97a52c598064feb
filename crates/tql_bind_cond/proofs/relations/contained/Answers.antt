use Rattle.std.proofs.Common.{IfOk, Option, option_map, subst, sym, ap, ◌∙◌}
use Rattle.tql_spec.specs.Names.{contained}
use Rattle.tql_spec.specs.Syntax as tree
use Rattle.tql_expr.specs.Meaning.{cond}
use Rattle.tql_syntax_tree.specs.Expressions.{expr_of, named_of}
use Rattle.tql_bind_expr.specs.Gathered.{Gathers}
use Rattle.tql_bind_expr.specs.Scopes.{scope_of}
use Rattle.tql_bind_cond.specs.Ends.{ends_of}
use Rattle.tql_bind_cond.proofs.relations.contained.Goals as goal

pub returns-in-None-clause-bound : goal.returns-in-None-clause-bound
returns-in-None-clause-bound c =
    let s = scope_of c.args.scope.now in
    let x = ends_of c.args.terms.now c.args.period in
    let e = expr_of c.args.right.now in
    let v = c.contained_point.new.terms in
    subst (λ (o : Option tree.Named). IfOk c.contained_point.result
    (λ y. Gathers (contained s x e o) c.args.faults.now c.contained_point.new.faults (cond v y)))
    (ap (option_map named_of) (sym c.in-None.is) ∙ c.sole_name.ensures) c.contained_point.ensures.bound

pub returns-in-Some-clause-bound : goal.returns-in-Some-clause-bound
returns-in-Some-clause-bound c =
    let s = scope_of c.args.scope.now in
    let x = ends_of c.args.terms.now c.args.period in
    let e = expr_of c.args.right.now in
    let v = c.contained_named.new.terms in
    subst (λ (o : Option tree.Named). IfOk c.contained_named.result
    (λ y. Gathers (contained s x e o) c.args.faults.now c.contained_named.new.faults (cond v y)))
    (ap (option_map named_of) (sym c.in-Some.is) ∙ c.sole_name.ensures) c.contained_named.ensures.bound
