use Rattle.std.proofs.Common.{ℕ, sym, ap, ◌∙◌, subst}
use Rattle.tql_spec.specs.Creation.{or_first}
use Rattle.tql_spec.specs.Names.{Checked, things}
use Rattle.tql_syntax_tree.specs.Expressions.{named_of}
use Rattle.tql_bind_expr.specs.Gathered.{Gathers}
use Rattle.tql_bind_expr.specs.Scopes.{scope_of, things_of}
use Rattle.tql_bind_query.specs.Grouped.{sole_number}
use Rattle.tql_bind_query.proofs.OneOf.{grouped_is}
use Rattle.tql_bind_query.proofs.grouping.group_column.Goals as goal

pub returns : goal.returns
returns c =
    let all = things (scope_of c.args.scope.now) (named_of c.args.named.now) in
    let found = c.sole_number.ensures ∙ ap (λ ts. sole_number (things_of ts)) c.deref.ensures.value
    ∙ ap sole_number c.in_ok-found.ensures in
    subst (λ (d : Checked ℕ). Gathers d c.args.faults.now c.or_first.new.self c.or_first.result)
    (ap or_first found ∙ sym (grouped_is all)) c.or_first.ensures
