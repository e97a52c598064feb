use Rattle.std.proofs.Common.{drop, map}
use Rattle.tql_catalog.specs.Definitions.{application_of}
use Rattle.tql_bind_expr.proofs.Gathering.{EachLeads}
use Rattle.tql_bind_draft.specs.Drafts.{column_of, application_part, application_in}
use Rattle.tql_bind_draft.proofs.periods.application_periods.Given as goal

-- the periods so far and the remaining ones
abbrev pub invariant-loop-period : goal.invariant-loop-period
invariant-loop-period l =
    EachLeads (application_in (map column_of l.columns)) (map application_part l.periods) l.fn.faults
    (map application_of l.applications.items) (map application_part (drop l.period-index l.periods)) l.faults
