use Rattle.tql_new_rows.proofs.insertion.insert_rows.Goals as goal

pub returns-clause-alters : goal.returns-clause-alters
returns-clause-alters c =
    c.adding.ensures.alters c.args.columns.now c.args.rows.items c.in_ok-added.ensures.rows

pub returns-clause-fits : goal.returns-clause-fits
returns-clause-fits c =
    c.adding.ensures.fits c.args.columns.now c.args.rows.items c.in_ok-added.ensures.rows c.requires
