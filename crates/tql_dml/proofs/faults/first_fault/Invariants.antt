use Rattle.std.specs.Prelude.{option_map}
use Rattle.tql_value.specs.Refusals.{refusal_of}
use Rattle.tql_dml.specs.Cells.{stored_faults}
use Rattle.tql_dml.proofs.FaultLaws.{Finds, itself}
use Rattle.tql_dml.proofs.faults.first_fault.Given as goal

abbrev pub invariant-loop-row : goal.invariant-loop-row
invariant-loop-row l =
    Finds (stored_faults l.definition) itself l.rows (option_map refusal_of l.found) l.row-index
