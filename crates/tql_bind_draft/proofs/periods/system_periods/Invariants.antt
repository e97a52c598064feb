use Rattle.std.proofs.Common.{drop, map}
use Rattle.tql_catalog.specs.Definitions.{system_of}
use Rattle.tql_bind_expr.proofs.Gathering.{EachLeads}
use Rattle.tql_bind_draft.specs.Drafts.{column_of, system_part, system_in}
use Rattle.tql_bind_draft.proofs.periods.system_periods.Given as goal

-- the periods so far and the remaining ones
abbrev pub invariant-loop-period : goal.invariant-loop-period
invariant-loop-period l =
    EachLeads (system_in (map column_of l.columns)) (map system_part l.periods) l.fn.faults
    (map system_of l.systems.items) (map system_part (drop l.period-index l.periods)) l.faults
