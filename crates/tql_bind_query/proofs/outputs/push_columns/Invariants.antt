use Rattle.std.proofs.Common.{◌+◌, drop, map}
use Rattle.tql_spec.specs.Binding.{all_columns_from}
use Rattle.tql_catalog.specs.Definitions.{column_of}
use Rattle.tql_bind_query.proofs.ShownLaws.{OutputsLead}
use Rattle.tql_bind_query.proofs.outputs.push_columns.Given as goal

-- the columns so far and the remaining ones
abbrev pub invariant-loop-index : goal.invariant-loop-index
invariant-loop-index l =
    OutputsLead l.fn.terms l.fn.outputs (all_columns_from l.known.offset (map column_of l.known.columns.now)) l.terms
    l.outputs (all_columns_from (l.known.offset + l.index) (drop l.index (map column_of l.known.columns.now)))
