use Rattle.std.proofs.Common.{◌≡◌, length, ap, sym, ◌∙◌}
use Rattle.std.proofs.lemmas.List.{length-map}
use Rattle.tql_catalog.specs.Definitions.{column_of}
use Rattle.tql_bind_expr.proofs.WithinLaws.{system_within, applications_within}
use Rattle.tql_bind_expr.proofs.tables.known_table.Goals as goal

pub invariant_of-result-clause-generated : goal.invariant_of-result-clause-generated
invariant_of-result-clause-generated c =
    let d = c.args.table.now in
    let width : length c.columns.result.now ≡ length d.columns =
    sym (length-map c.columns.result.now column_of) ∙ ap length c.columns.ensures.columns in
    system_within d (length c.columns.result.now) c.system.result width c.system.ensures.system c.system.ensures.right

pub invariant_of-result-clause-ends : goal.invariant_of-result-clause-ends
invariant_of-result-clause-ends c =
    let d = c.args.table.now in
    let width : length c.columns.result.now ≡ length d.columns =
    sym (length-map c.columns.result.now column_of) ∙ ap length c.columns.ensures.columns in
    applications_within d.columns d.system d.application (length c.columns.result.now) c.applications.result.now width
    c.applications.ensures.applications c.applications.ensures.right.application
