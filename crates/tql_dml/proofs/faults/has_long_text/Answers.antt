use Rattle.std.proofs.Common.{◌∙◌, sym, arith, map}
use Rattle.tql_catalog.specs.Definitions.{column_of}
use Rattle.tql_dml.proofs.FaultLaws.{past_long}
use Rattle.tql_dml.proofs.faults.has_long_text.Goals as goal

pub returns : goal.returns
returns c =
    sym (past_long (map column_of c.args.columns.now) c.args.stored.now c.args.row.now c.loop-place.place (omega arith))
    ∙ c.loop-place.invariant
