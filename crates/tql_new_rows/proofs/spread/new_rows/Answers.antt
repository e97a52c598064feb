use Rattle.std.proofs.Common.{◌≡◌, ◌∙◌, ap, length, map, sym, arith}
use Rattle.std.proofs.lemmas.List.{length-map, with_items_is}
use Rattle.tql_catalog.proofs.Rests.{rest_step, rest_end}
use Rattle.tql_dml.specs.Cells.{stored_cells}
use Rattle.tql_new_rows.proofs.spread.new_rows.Goals as goal

pub loop-row-preserved : goal.loop-row-preserved
loop-row-preserved c =
    rest_step (stored_cells c.args.definition.now c.args.columns.now) c.loop-row.row-index c.loop-row.row-items
    c.store.new.row c.row-item.result (omega arith) c.in_ok-store.ensures.row ∙ c.loop-row.invariant

pub returns-clause-rows : goal.returns-clause-rows
returns-clause-rows c =
    let f = stored_cells c.args.definition.now c.args.columns.now in
    let is : c.loop-row.row-items ≡ map f c.args.rows.items =
    sym (rest_end f c.loop-row.row-index c.loop-row.row-items (omega arith)) ∙ c.loop-row.invariant in
    with_items_is c.args.rows c.loop-row.row-items
    (omega (arith, ap length is, length-map c.args.rows.items f, c.deref_mut-row-items.ensures.len)) ∙ is
