use Rattle.std.proofs.Common.{ap, map}
use Rattle.std.specs.Prelude.{option_map}
use Rattle.tql_catalog.specs.Tables.{definitions_of}
use Rattle.tql_bind_query.specs.Selecting.{typed_query_of}
use Rattle.tql_syntax_tree.specs.Expressions.{name_of}
use Rattle.tql_syntax_tree.specs.Statements.{select_of}
use Rattle.tql_value.specs.Views.{plain_kind}
use Rattle.tql_bind_change.proofs.InsertLaws.{insert_query_bound}
use Rattle.tql_bind_change.proofs.insert_query.insert_select.Goals as goal

pub returns : goal.returns
returns c =
    insert_query_bound (definitions_of c.args.catalog.now) (name_of c.args.table) (map name_of c.args.names.now)
    (select_of c.args.select.now)
    c.args.faults.now c.table_number.new.faults c.insert_columns.new.faults c.bound_query.new.faults
    c.refuse_if.new.self c.in_ok-place.place c.definition_or-definition.result.now c.in_ok-columns.columns.items
    c.deref.result.now
    c.in_ok-wanted.wanted.items c.deref-2.result.now (typed_query_of c.in_ok-query.field-0) c.deref-3.result.now
    c.cells_misfit.result
    c.in_ok-place.ensures c.definition_or-definition.ensures c.in_ok-columns.ensures c.deref.ensures.value
    c.in_ok-wanted.ensures c.in_ok-query.ensures c.deref-2.ensures.value
    (ap (map (option_map plain_kind)) c.deref-3.ensures.value) c.cells_misfit.ensures c.refuse_if.ensures
