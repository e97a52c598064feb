use Rattle.std.proofs.Common.{rules, ◌<◌, length, map, refl}
use Rattle.tql_spec.specs.Binding as binding
use Rattle.tql_catalog.specs.Definitions.{column_of}
use Rattle.tql_bind_query.proofs.ShownLaws.{column_next}
use Rattle.tql_bind_query.proofs.outputs.push_columns.Goals as goal

pub loop-index-preserved : goal.loop-index-preserved
loop-index-preserved c =
    let k = c.args.known.now in
    let columns = k.columns.now in
    let within : c.loop-index.index < length columns = search rules in
    let all = map column_of k.columns.now in
    column_next column_of c.args.terms.now c.args.outputs.now (binding.all_columns_from k.offset all) k.offset
    c.loop-index.terms c.push_column.new.terms c.loop-index.outputs c.push_column.new.outputs columns all
    c.loop-index.index c.index-columns-index.result refl within c.index-columns-index.is c.loop-index.invariant
    c.in_ok-push_column.ensures.pushes
