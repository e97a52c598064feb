use Rattle.std.proofs.Common.{◌≡◌, ◌++◌, ◌∙◌, List, map}
use Rattle.std.specs.Prelude.{pos, option_map}
use Rattle.tql_spec.specs.Calendar.{high}
use Rattle.tql_spec.specs.Datum.{Row}
use Rattle.tql_spec.specs.Refusal.{Refusal, PeriodNotRising, first, fault_if}
use Rattle.tql_spec.specs.Definition.{with_generated}
use Rattle.tql_spec.specs.Change.{cell_faults}
use Rattle.tql_catalog.specs.Definitions.{checks_of}
use Rattle.tql_expr.specs.Meaning.{cond}
use Rattle.tql_value.specs.Refusals.{refusal_of}
use Rattle.tql_dml.specs.Cells.{stored_columns, falls_by, unstamped, checks_faults}
use Rattle.tql_dml.proofs.FaultLaws.{first_of_both}
use Rattle.tql_dml.proofs.faults.row_fault.Goals as goal

pub returns : goal.returns
returns c =
    let d = c.args.definition.now in
    let checks = c.args.checks.now in
    let cells : Row = c.args.row.now in
    let own : List Refusal = cell_faults (stored_columns d) cells in
    let fallen : List Refusal = fault_if (falls_by d.application (unstamped d cells)) PeriodNotRising in
    let broken : List Refusal = checks_faults (checks_of checks) (unstamped d cells) in
    let fell : option_map refusal_of c.period_fault.result ≡ first fallen =
    c.period_fault.ensures
    ∙ (λ i. first (fault_if
    (falls_by d.application (with_generated (c.generated.ensures i) cells (pos 0) high)) PeriodNotRising)) in
    let broke : option_map refusal_of c.checks_fault-checked.result ≡ first broken =
    c.checks_fault-checked.ensures
    ∙ (λ i. first (checks_faults (map (cond checks.terms) (c.deref.ensures.value i))
    (with_generated (c.generated.ensures i) cells (pos 0) high))) in
    c.sooner.ensures
    ∙ first_of_both (own ++ fallen) broken (option_map refusal_of c.sooner-plain.result)
    (option_map refusal_of c.checks_fault-checked.result)
    (c.sooner-plain.ensures ∙ first_of_both own fallen (option_map refusal_of c.cell_fault-cell.result)
    (option_map refusal_of c.period_fault.result) c.cell_fault-cell.ensures fell) broke
