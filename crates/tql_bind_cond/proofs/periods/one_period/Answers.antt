use Rattle.std.proofs.Common.{◌≡◌, ap, sym, ◌∙◌, option_map, Some, None}
use Rattle.tql_syntax_tree.specs.Expressions.{named_of}
use Rattle.tql_spec.specs.Names.{things, one_period, ends_at}
use Rattle.tql_value.specs.Views.{plain_kind}
use Rattle.tql_bind_expr.proofs.Gathering.{sound_ok}
use Rattle.tql_bind_expr.specs.Scopes.{scope_of}
use Rattle.tql_bind_cond.specs.Ends.{ends_of, period_of, sole_period}
use Rattle.tql_bind_cond.proofs.PeriodLaws.{a_period, no_period_is}
use Rattle.tql_bind_cond.proofs.periods.one_period.Goals as goal

pub returns-in-Some-clause-bound : goal.returns-in-Some-clause-bound
returns-in-Some-clause-bound c =
    let all = things (scope_of c.args.scope.now) (named_of c.args.named) in
    let x = ends_at c.in-Some.start c.in-Some.end (plain_kind c.in-Some.kind) in
    let found : sole_period all ≡ Some x = sym c.in_ok-found.ensures ∙ ap (option_map period_of) c.in-Some.is in
    sound_ok (one_period all) x (ends_of c.ends_at.new.terms) _ c.ends_at.result (a_period all x found)
    c.ends_at.ensures.bound

pub returns-in-None-clause-bound : goal.returns-in-None-clause-bound
returns-in-None-clause-bound c =
    let all = things (scope_of c.args.scope.now) (named_of c.args.named) in
    let found : sole_period all ≡ None = sym c.in_ok-found.ensures ∙ ap (option_map period_of) c.in-None.is in
    no_period_is c.no_ends.new.terms c.no_ends.result all _ _ found c.refuse_if.ensures c.no_ends.ensures.bound
