use Rattle.std.proofs.Common.{List, map, subst}
use Rattle.std.specs.Prelude.{option_map}
use Rattle.tql_spec.specs.Binding as binding
use Rattle.tql_spec.specs.Expression.{Cond}
use Rattle.tql_spec.specs.Names.{Known}
use Rattle.tql_catalog.specs.Tables.{definitions_of}
use Rattle.tql_expr.specs.Meaning.{cond}
use Rattle.tql_period.specs.Points.{points_of}
use Rattle.tql_syntax_tree.specs.Expressions.{name_of}
use Rattle.tql_syntax_tree.specs.Statements.{filter_of, portion_of}
use Rattle.tql_bind_expr.specs.Gathered.{Gathers}
use Rattle.tql_bind_change.proofs.ChangeLaws.{delete_bound}
use Rattle.tql_bind_change.proofs.delete.delete_rows.Goals as goal

pub returns : goal.returns
returns c =
    let x = c.args.delete.now in
    let filter = filter_of x.filter in
    let conds : List Cond = map (cond c.plain_filter.new.terms) c.in_ok-conjuncts.conjuncts.items in
    delete_bound (definitions_of c.args.catalog.now) (name_of x.table) (option_map portion_of x.portion) filter
    c.args.faults.now c.table_number.new.faults c.portion.new.faults c.plain_filter.new.faults
    c.in_ok-table.table c.definition_or-definition.result.now (option_map points_of c.in_ok-portion.portion) conds
    c.in_ok-table.ensures c.definition_or-definition.ensures c.in_ok-portion.ensures
    (subst (λ (k : List Known). Gathers (binding.plain_filter k filter) c.portion.new.faults
    c.plain_filter.new.faults conds)
    c.own_reference.ensures c.in_ok-conjuncts.ensures.bound)
