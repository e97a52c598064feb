use Rattle.std.proofs.Common.{◌≡◌, Bool, ℕ, List, map, ap, sym, subst, ◌∙◌}
use Rattle.std.specs.Prelude.{Option}
use Rattle.tql_spec.specs.Binding as binding
use Rattle.tql_spec.specs.Expression.{Cond, Expr}
use Rattle.tql_spec.specs.Names.{check_each, optional_conjuncts, refuse_if}
use Rattle.tql_spec.specs.Refusal.{FormNotAllowedHere}
use Rattle.tql_expr.specs.Meaning.{cond, expr}
use Rattle.tql_syntax_tree.specs.Expressions.{named_of}
use Rattle.tql_syntax_tree.specs.Statements.{select_of}
use Rattle.tql_syntax_tree.specs.declared.expression.Named.{Named}
use Rattle.tql_bind_expr.specs.Gathered.{Gathers}
use Rattle.tql_bind_expr.specs.Scopes.{scope_of}
use Rattle.tql_bind_expr.proofs.Arena.{stays_along}
use Rattle.tql_bind_cond.proofs.Lists.{conds_kept}
use Rattle.tql_bind_query.specs.Selecting.{clauses}
use Rattle.tql_bind_query.specs.Shown.{outputs_of}
use Rattle.tql_bind_query.proofs.QueryLaws.{clauses_bound}
use Rattle.tql_bind_query.proofs.clauses.bound_clauses.Goals as goal

pub returns-clause-bound : goal.returns-clause-bound
returns-clause-bound c =
    let scope = scope_of c.args.scope.now in
    let s = select_of c.args.select.now in
    let t = c.outputs.new.terms in
    let old = c.args.faults.now in
    let a = c.plain_filter.new.faults in
    let b = c.group_columns.new.faults in
    let j = c.optional_conjuncts.new.faults in
    let d = c.outputs.new.faults in
    let new = c.refuse_if.new.self in
    let filter = c.in_ok-filter.filter.items in
    let groups = c.in_ok-groups.groups.items in
    let having = c.in_ok-having.having.items in
    let items = c.in_ok-list.list.items.items in
    let es : List Expr = map (expr t) items in
    let hs : List Cond = map (cond t) having in
    let filtered = subst (λ (cs : List Cond). Gathers (binding.plain_filter scope s.filter) old a cs)
    (sym (conds_kept (stays_along c.optional_conjuncts.ensures.stays c.outputs.ensures.stays) filter
    c.in_ok-filter.ensures.held)) c.in_ok-filter.ensures.bound in
    let grouped = subst (λ (ns : List Named). Gathers (check_each (binding.group_column scope) (map named_of ns)) a b
    groups) c.deref.ensures.value c.in_ok-groups.ensures in
    let judged = subst (λ (cs : List Cond). Gathers (optional_conjuncts scope s.having) b j cs)
    (sym (conds_kept c.outputs.ensures.stays having c.in_ok-having.ensures.held)) c.in_ok-having.ensures.bound in
    let is : c.is_grouped-grouped.result ≡ binding.is_grouped s es hs =
    c.is_grouped-grouped.ensures
    ∙ (λ i. binding.is_grouped s (map (expr t) (c.deref-2.ensures.value i))
    (map (cond t) (c.deref-3.ensures.value i))) in
    let among : binding.grouping_faults c.is_grouped-grouped.result c.deref-4.result.now s
    (map (expr t) c.deref-5.result.now) (map (cond t) c.deref-6.result.now)
    ≡ binding.grouping_faults (binding.is_grouped s es hs) groups s es hs =
    λ i. binding.grouping_faults (is i) (c.deref-4.ensures.value i) s (map (expr t) (c.deref-5.ensures.value i))
    (map (cond t) (c.deref-6.ensures.value i)) in
    let faulty = c.in_ok-is_faulty.ensures ∙ among in
    let refused = subst (λ (x : Bool). Gathers (refuse_if x FormNotAllowedHere) d new tt) faulty c.refuse_if.ensures in
    let grouping = c.grouping_of.ensures ∙ ap (λ (x : Bool). binding.grouping_of x groups) is in
    subst (λ (g : Option (List ℕ)). Gathers (clauses scope s) old new (record {
      filter = map (cond t) filter;
      grouping = g;
      having = hs;
      what = outputs_of t c.in_ok-list.list;
    })) (sym grouping)
    (clauses_bound scope s old a b j d new (map (cond t) filter) groups hs (outputs_of t c.in_ok-list.list) filtered
    grouped judged c.in_ok-list.ensures.bound refused)
