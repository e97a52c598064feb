use Rattle.std.proofs.Common.{rules, tests, ◌≡◌, ap, sym, ◌∙◌, false}
use Rattle.tql_spec.specs.Datum.{is_null}
use Rattle.tql_spec.specs.Definition.{cell, with_generated}
use Rattle.tql_expr.specs.Generated.{generated}
use Rattle.tql_expr.proofs.Inserted.{shown_in_place}
use Rattle.tql_expr.proofs.stored.StoredRow.value.Goals as goal

pub returns-then-not-is_null : goal.returns-then-not-is_null
returns-then-not-is_null c =
    let shown = c.args.self.now in
    let row = shown.row.now in
    let place = c.args.place in
    let null : is_null (cell row place) ≡ false = search (rules, tests) in
    c.column-value.ensures
    ∙ shown_in_place (record { start = c.in-Some.start; end = c.in-Some.end }) row shown.start shown.end place
    c.if-place-start.true c.if-place-end.true null
    ∙ ap (λ o. cell (with_generated (generated o) row shown.start shown.end) place) (sym c.in-Some.is)
