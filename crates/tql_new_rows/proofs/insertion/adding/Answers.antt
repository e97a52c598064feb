use Rattle.std.proofs.Common.{rules, ◌∙◌, ap}
use Rattle.tql_spec.specs.Refusal.{first}
use Rattle.tql_dml.specs.Cells.{rows_faults}
use Rattle.tql_dml.proofs.Altering.{insert_refused, insert_adds, insert_fits}
use Rattle.tql_new_rows.proofs.insertion.adding.Goals as goal

pub returns-in-Some-clause-alters : goal.returns-in-Some-clause-alters
returns-in-Some-clause-alters c columns tuples is =
    let d = c.args.table.now.definition in
    insert_refused d c.args.table.now.id columns tuples c.args.added.items c.in-Some.refusal
    c.first_fault.ensures.right is
    (c.in-Some.ensures.fault ∙ ap (λ rows. first (rows_faults d rows)) c.deref.ensures.value)

pub returns-in-None-clause-alters : goal.returns-in-None-clause-alters
returns-in-None-clause-alters c columns tuples is =
    let d = c.args.table.now.definition in
    insert_adds d c.args.table.now.id columns tuples _ c.first_fault.ensures.right
    (search rules) c.new.ensures.items is (search rules)
    (c.in-None.ensures.fault ∙ ap (λ rows. first (rows_faults d rows)) c.deref.ensures.value)

pub returns-in-None-clause-fits : goal.returns-in-None-clause-fits
returns-in-None-clause-fits c columns tuples is prints =
    let d = c.args.table.now.definition in
    insert_fits d columns tuples c.args.added.items c.first_fault.ensures.right prints is
    (c.in-None.ensures.fault ∙ ap (λ rows. first (rows_faults d rows)) c.deref.ensures.value)
