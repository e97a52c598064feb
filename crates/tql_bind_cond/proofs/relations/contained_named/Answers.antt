use Rattle.std.proofs.Common.{◌≡◌, IfOk, subst, sym, ap, ◌∙◌, option_map, Some, None}
use Rattle.tql_spec.specs.Expression.{Cond}
use Rattle.tql_spec.specs.Names.{Checked, things, ends_at}
use Rattle.tql_expr.specs.Meaning.{cond}
use Rattle.tql_syntax_tree.specs.Expressions.{expr_of, named_of}
use Rattle.tql_value.specs.Views.{plain_kind}
use Rattle.tql_bind_expr.specs.Gathered.{Gathers}
use Rattle.tql_bind_expr.specs.Scopes.{scope_of}
use Rattle.tql_bind_cond.specs.Ends.{ends_of, period_of, sole_period}
use Rattle.tql_bind_cond.proofs.PeriodLaws.{named_period_is, named_point_is}
use Rattle.tql_bind_cond.proofs.relations.contained_named.Goals as goal

pub returns-in-Some-clause-bound : goal.returns-in-Some-clause-bound
returns-in-Some-clause-bound c =
    let s = scope_of c.args.scope.now in
    let x = ends_of c.args.terms.now c.args.period in
    let all = things s (named_of c.args.named) in
    let y = ends_at c.in-Some.start c.in-Some.end (plain_kind c.in-Some.kind) in
    let v = c.contained_period.new.terms in
    let found : sole_period all ≡ Some y = sym c.in_ok-found.ensures ∙ ap (option_map period_of) c.in-Some.is in
    subst (λ (d : Checked Cond). IfOk c.contained_period.result
    (λ z. Gathers d c.args.faults.now c.contained_period.new.faults (cond v z)))
    (sym (named_period_is s x (expr_of c.args.right.now) all y found)) c.contained_period.ensures.bound

pub returns-in-None-clause-bound : goal.returns-in-None-clause-bound
returns-in-None-clause-bound c =
    let s = scope_of c.args.scope.now in
    let x = ends_of c.args.terms.now c.args.period in
    let e = expr_of c.args.right.now in
    let all = things s (named_of c.args.named) in
    let v = c.contained_point.new.terms in
    let found : sole_period all ≡ None = sym c.in_ok-found.ensures ∙ ap (option_map period_of) c.in-None.is in
    subst (λ (d : Checked Cond). IfOk c.contained_point.result
    (λ z. Gathers d c.args.faults.now c.contained_point.new.faults (cond v z)))
    (sym (named_point_is s x e all found)) c.contained_point.ensures.bound
