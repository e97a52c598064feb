use Rattle.std.proofs.Common.{Some}
use Rattle.tql_dml.specs.Alters.{tuples_in}
use Rattle.tql_dml.specs.Cells.{stored_cells}
use Rattle.tql_dml.proofs.Altering.{values_print, of_values, insert_fails}
use Rattle.tql_dml.proofs.PointChanges.{inserts_where_ok}
use Rattle.tql_dml.proofs.PointRefusals.{insert_as_points}
use Rattle.tql_new_rows.proofs.TupleRows.{there_mapped, lacks_mapped}
use Rattle.tql_new_rows.proofs.insertion.insert_tuples.Goals as goal

pub returns-in_err-added-clause-alters : goal.returns-in_err-added-clause-alters
returns-in_err-added-clause-alters c =
    let d = c.args.table.now.definition in
    let x = c.args.insertion.now in
    let e = c.in_err-added.field-0.0 in
    insert_fails d c.args.table.now.id x e c.from_residual.result c.from_residual.ensures
    (lacks_mapped (stored_cells d x.columns.items) (tuples_in x) e c.in_err-added.ensures)

pub returns-in_err-added-clause-refusals : goal.returns-in_err-added-clause-refusals
returns-in_err-added-clause-refusals c =
    insert_as_points c.args.table.now.definition c.args.table.now.id c.args.insertion.now c.from_residual.result
    (returns-in_err-added-clause-alters c)

pub returns-clause-alters : goal.returns-clause-alters
returns-clause-alters c =
    let d = c.args.table.now.definition in
    let x = c.args.insertion.now in
    let t = there_mapped (stored_cells d x.columns.items) (tuples_in x) c.in_ok-added.added.items
    c.in_ok-added.ensures in
    of_values d c.args.table.now.id x (tuples_in x) (Some t.0) c.adding.result t.1.0
    (c.adding.ensures.alters x.columns.items t.0 t.1.1)

pub returns-clause-fits : goal.returns-clause-fits
returns-clause-fits c =
    let d = c.args.table.now.definition in
    let x = c.args.insertion.now in
    let t = there_mapped (stored_cells d x.columns.items) (tuples_in x) c.in_ok-added.added.items
    c.in_ok-added.ensures in
    c.adding.ensures.fits x.columns.items t.0 t.1.1 (values_print x t.0 t.1.0)

pub returns-clause-points : goal.returns-clause-points
returns-clause-points c =
    inserts_where_ok c.args.table.now.definition c.args.table.now.id c.args.insertion.now c.adding.result
    (returns-clause-alters c)

pub returns-clause-refusals : goal.returns-clause-refusals
returns-clause-refusals c =
    insert_as_points c.args.table.now.definition c.args.table.now.id c.args.insertion.now c.adding.result
    (returns-clause-alters c)
