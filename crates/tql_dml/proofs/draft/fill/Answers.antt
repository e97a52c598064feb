use Rattle.std.proofs.Common.{◌∙◌, ap, sym, arith, slice_set, slice_index_or}
use Rattle.std.proofs.lemmas.List.{length-map, get_or-map}
use Rattle.tql_spec.specs.Datum.{Null}
use Rattle.tql_value.specs.Views.{datum_of_view}
use Rattle.tql_value.specs.declared.value.View.TheVariants as view
use Rattle.tql_dml.specs.Cells.{data_of}
use Rattle.tql_dml.proofs.Removals.{one_more_filled, all_filled}
use Rattle.tql_dml.proofs.draft.fill.Goals as goal

pub loop-place-preserved : goal.loop-place-preserved
loop-place-preserved c =
    let columns = c.args.columns.now in
    let values = data_of c.args.values.now in
    let place = c.loop-place.place in
    let wide = length-map c.args.values.now datum_of_view in
    let here = c.put.ensures
    ∙ ap (slice_set (data_of c.loop-place.row) (slice_index_or columns place 0))
    (sym (get_or-map datum_of_view c.args.values.now place view.Null Null (omega arith))) in
    one_more_filled (data_of c.loop-place.row) (data_of c.put.new.row) columns values place _ (omega arith)
    (omega (arith, wide)) here c.loop-place.invariant

pub returns : goal.returns
returns c =
    let wide = length-map c.args.values.now datum_of_view in
    all_filled (data_of c.loop-place.row) c.args.columns.now (data_of c.args.values.now) c.loop-place.place _
    (omega (arith, wide)) c.loop-place.invariant
