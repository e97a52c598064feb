use Rattle.std.proofs.Common.{ap, subst, ◌∙◌}
use Rattle.tql_expr.specs.Evaluated.{Evaluated}
use Rattle.tql_spec.specs.Refusal.{first}
use Rattle.tql_dml.specs.Cells.{rows_faults}
use Rattle.tql_dml.specs.Parts.{parts_in}
use Rattle.tql_dml.proofs.Altering.{modify_fails, modify_refused, modify_gives, modify_fits, parts_of}
use Rattle.tql_dml.proofs.modification.tested.Goals as goal

pub returns-in_err-changed-clause-alters : goal.returns-in_err-changed-clause-alters
returns-in_err-changed-clause-alters c x found wide e =
    let d = c.args.table.now.definition in
    modify_fails d c.args.table.now.id found x c.in_err-changed.field-0.0 c.from_residual.result c.from_residual.ensures
    (subst (Evaluated parts_in (parts_of d found x)) c.in_err-changed.was e)

pub returns-in-Some-clause-alters : goal.returns-in-Some-clause-alters
returns-in-Some-clause-alters c x found wide e =
    let d = c.args.table.now.definition in
    modify_refused d c.args.table.now.id found x (parts_in c.in_ok-changed.changed) c.in-Some.refusal
    c.first_fault.ensures.right wide (subst (Evaluated parts_in (parts_of d found x)) c.in_ok-changed.was e)
    (c.in-Some.ensures.fault ∙ ap (λ rs. first (rows_faults d rs)) c.deref.ensures.value)

pub returns-in-None-clause-alters : goal.returns-in-None-clause-alters
returns-in-None-clause-alters c x found wide e =
    let d = c.args.table.now.definition in
    modify_gives d c.args.table.now.id found x (parts_in c.in_ok-changed.changed) c.of_table.result
    c.first_fault.ensures.right wide (subst (Evaluated parts_in (parts_of d found x)) c.in_ok-changed.was e)
    c.of_table.ensures.table c.of_table.ensures.removed c.of_table.ensures.added c.of_table.ensures.count
    (c.in-None.ensures.fault ∙ ap (λ rs. first (rows_faults d rs)) c.deref.ensures.value)

pub returns-in-None-clause-fits : goal.returns-in-None-clause-fits
returns-in-None-clause-fits c x found wide e =
    let d = c.args.table.now.definition in
    modify_fits d found x (parts_in c.in_ok-changed.changed) c.of_table.result.added.items
    c.first_fault.ensures.right wide (subst (Evaluated parts_in (parts_of d found x)) c.in_ok-changed.was e)
    c.of_table.ensures.added
    (c.in-None.ensures.fault ∙ ap (λ rs. first (rows_faults d rs)) c.deref.ensures.value)
