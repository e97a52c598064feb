use Rattle.tql_dml.proofs.PointChanges.{modifies_where_ok}
use Rattle.tql_dml.proofs.PointRefusals.{modify_as_points}
use Rattle.tql_dml.proofs.modification.modify.Goals as goal

pub returns-clause-alters : goal.returns-clause-alters
returns-clause-alters c =
    c.tested.ensures.alters c.args.modification.now c.args.found.now c.requires c.changes.ensures

pub returns-clause-fits : goal.returns-clause-fits
returns-clause-fits c =
    c.tested.ensures.fits c.args.modification.now c.args.found.now c.requires c.changes.ensures

pub returns-clause-points : goal.returns-clause-points
returns-clause-points c =
    modifies_where_ok c.args.table.now.definition c.args.table.now.id c.args.found.now
    c.args.modification.now c.tested.result (returns-clause-alters c)

pub returns-clause-refusals : goal.returns-clause-refusals
returns-clause-refusals c =
    modify_as_points c.args.table.now.definition c.args.table.now.id c.args.found.now
    c.args.modification.now c.tested.result (returns-clause-alters c)
