use Rattle.std.proofs.Common.{◌≡◌, subst, List, map}
use Rattle.tql_spec.specs.Binding.{select}
use Rattle.tql_spec.specs.Machine.{AnswerQuery}
use Rattle.tql_spec.specs.Names.{sound}
use Rattle.tql_bound.specs.Queries.{bound_query_of}
use Rattle.tql_catalog.specs.Tables.{definitions_of}
use Rattle.tql_bind_expr.specs.Gathered.{Gathers}
use Rattle.tql_bind_expr.proofs.Gathering.{bound, sound_here}
use Rattle.tql_bind_query.specs.Selecting.{typed_query_of}
use Rattle.tql_syntax_tree.specs.Statements.{boxed_select_of, order_of, orders_of, select_of}
use Rattle.tql_syntax_tree.specs.declared.statement.OrderTree.{OrderTree}
use Rattle.tql_syntax_tree.specs.declared.statement.SelectTree.{SelectTree}
use Rattle.tql_bind.proofs.queries.bind_query.Goals as goal

pub returns : goal.returns
returns c =
    let defs = definitions_of c.args.tables.now in
    let old = c.args.faults.now in
    let new = c.bound_query.new.faults in
    let q = typed_query_of c.in_ok-query.field-0 in
    let x = AnswerQuery (bound_query_of c.in_ok-query.field-0.query) in
    let inside : c.deref.result.now ≡ c.args.query.now.select.value = cc (c.deref.ensures) in
    let at_select = subst
    (λ (s : SelectTree). Gathers (select defs (select_of s) (map order_of c.deref-2.result.now)) old new q) inside
    c.in_ok-query.ensures in
    let at_keys = subst (λ (ks : List OrderTree). Gathers
    (select defs (boxed_select_of c.args.query.now.select) (map order_of ks)) old new q) c.deref-2.ensures.value
    at_select in
    bound (select defs (boxed_select_of c.args.query.now.select) (orders_of c.args.query.now.ordering))
    (λ q. sound (AnswerQuery q.query)) old new new q x at_keys (sound_here x new)
