use Rattle.std.proofs.Common.{◌≡◌, subst, sym, List, map}
use Rattle.tql_spec.specs.Binding as binding
use Rattle.tql_spec.specs.Binding.{bind}
use Rattle.tql_spec.specs.Machine.{ChangeRows}
use Rattle.tql_bound.specs.Changes.{query_insertion_of}
use Rattle.tql_catalog.specs.Tables.{definitions_of}
use Rattle.tql_bind_expr.specs.Gathered.{Gathers}
use Rattle.tql_syntax_tree.specs.Expressions.{name_of}
use Rattle.tql_syntax_tree.specs.Statements.{insert_by, names_of, select_of}
use Rattle.tql_syntax_tree.specs.declared.expression.Name.{Name}
use Rattle.tql_syntax_tree.specs.declared.statement.RowSource.{RowSource}
use Rattle.tql_syntax_tree.specs.declared.statement.SelectTree.{SelectTree}
use Rattle.tql_bind.proofs.insertions.insert.Goals as goal

pub returns-in_ok-insertion-in-Select-clause-bound : goal.returns-in_ok-insertion-in-Select-clause-bound
returns-in_ok-insertion-in-Select-clause-bound c =
    let defs = definitions_of c.args.tables.now in
    let i = c.args.insert.now in
    let n = name_of i.table in
    let old = c.args.faults.now in
    let new = c.insert_select.new.faults in
    let x = ChangeRows (query_insertion_of c.in_ok-insertion-in-Select.insertion) in
    let inside : c.deref-in-Select-2.result.now ≡ c.in-Select.select.value = cc (c.deref-in-Select-2.ensures) in
    let at_names = subst
    (λ (ns : List Name). Gathers
    (binding.insert_select defs n (map name_of ns) (select_of c.deref-in-Select-2.result.now)) old new x)
    c.deref-in-Select.ensures.value c.in_ok-insertion-in-Select.ensures in
    let at_select = subst
    (λ (s : SelectTree). Gathers (binding.insert_select defs n (names_of i.columns) (select_of s)) old new x) inside
    at_names in
    subst (λ (rows : RowSource). Gathers (bind defs (insert_by n (names_of i.columns) rows)) old new x)
    (sym c.in-Select.is) at_select
