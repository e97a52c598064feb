use Rattle.std.proofs.Common.{drop, map}
use Rattle.tql_bind_draft.specs.Drafts.{application_part, names_of_periods}
use Rattle.tql_bind_draft.proofs.PeriodLaws.{NamesSo}
use Rattle.tql_bind_draft.proofs.period_names.period_names.Given as goal

-- the names so far and those of the remaining periods
abbrev pub invariant-loop-place : goal.invariant-loop-place
invariant-loop-place l =
    NamesSo l.names l.place (names_of_periods (map application_part (drop l.place l.periods)))
    (names_of_periods (map application_part l.periods))
