use Rattle.std.proofs.Common.{◌≡◌, ◌++◌, map, length}
use Rattle.tql_spec.specs.Creation.{repeats}
use Rattle.tql_bind_draft.specs.Drafts.{column_of, names_in, names_of_periods, columns_in, applications_in}
use Rattle.tql_bind_draft.proofs.names.repeated_name.Given as goal

abbrev pub invariant-loop-left : goal.invariant-loop-left
invariant-loop-left l =
    repeats (names_in (columns_in l.fn.draft) ++ names_of_periods (applications_in l.fn.draft))
    ≡ repeats (names_in (map column_of l.left) ++ names_of_periods (applications_in l.fn.draft))

abbrev pub decreases-loop-left : goal.decreases-loop-left
decreases-loop-left l = length l.left
