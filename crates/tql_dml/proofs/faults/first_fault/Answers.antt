use Rattle.std.proofs.Common.{arith, ap, ◌∙◌}
use Rattle.std.specs.Prelude.{option_map}
use Rattle.tql_spec.specs.Refusal.{first}
use Rattle.tql_value.specs.Refusals.{refusal_of}
use Rattle.tql_dml.specs.Cells.{stored_columns, stored_faults, faults_by, rows_faults}
use Rattle.tql_dml.proofs.FaultLaws.{itself, as_they_are, find_one, found_all}
use Rattle.tql_dml.proofs.faults.first_fault.Goals as goal

pub loop-row-preserved : goal.loop-row-preserved
loop-row-preserved c =
    let d = c.args.definition.now in
    find_one (stored_faults d) itself c.args.rows.now
    c.loop-row.row-index c.row-item.result (option_map refusal_of c.loop-row.found)
    (option_map refusal_of c.row_fault.result) (option_map refusal_of c.sooner-found.result) (omega arith) c.row-item.is
    (c.row_fault.ensures
    ∙ (λ i. first (faults_by (stored_columns d) (c.checks-checks.ensures.checks i) d c.row-item.result)))
    c.sooner-found.ensures c.loop-row.invariant

pub returns-clause-fault : goal.returns-clause-fault
returns-clause-fault c =
    let d = c.args.definition.now in
    found_all (stored_faults d) itself c.args.rows.now c.loop-row.row-index (option_map refusal_of c.loop-row.found)
    (omega arith) c.loop-row.invariant
    ∙ ap (λ rows. first (rows_faults d rows)) (as_they_are c.args.rows.now)
