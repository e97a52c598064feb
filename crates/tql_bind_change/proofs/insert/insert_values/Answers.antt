use Rattle.std.proofs.Common.{◌∷◌, map}
use Rattle.tql_bound.specs.Changes as bound
use Rattle.tql_catalog.specs.Tables.{definitions_of}
use Rattle.tql_syntax_tree.specs.Expressions.{name_of}
use Rattle.tql_syntax_tree.specs.Statements.{tuple_of}
use Rattle.tql_bind_change.proofs.InsertLaws.{insert_bound}
use Rattle.tql_bind_change.proofs.insert.insert_values.Goals as goal

pub returns : goal.returns
returns c =
    insert_bound (definitions_of c.args.catalog.now) (name_of c.args.table) (map name_of c.args.names.now)
    (tuple_of c.args.first.now ∷ map tuple_of c.args.more.now)
    c.args.faults.now c.table_number.new.faults c.insert_columns.new.faults c.tuples.new.faults c.in_ok-place.place
    c.definition_or-definition.result.now c.in_ok-columns.columns.items c.deref.result.now
    c.in_ok-kinds.kinds.items c.deref-2.result.now (map (bound.tuple_of c.tuples.new.terms) c.in_ok-tuples.tuples.items)
    c.in_ok-place.ensures c.definition_or-definition.ensures c.in_ok-columns.ensures c.deref.ensures.value
    c.in_ok-kinds.ensures c.deref-2.ensures.value c.in_ok-tuples.ensures.bound
