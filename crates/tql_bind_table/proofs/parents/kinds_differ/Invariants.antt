use Rattle.std.proofs.Common.{◌≡◌, drop, map}
use Rattle.tql_spec.specs.Creation.{kinds_differ, kinds_at, kinds_of}
use Rattle.tql_bind_draft.specs.Drafts.{column_of, kinds_in}
use Rattle.tql_bind_table.proofs.parents.kinds_differ.Given as goal

-- the remaining columns decide the result
abbrev pub invariant-loop-number : goal.invariant-loop-number
invariant-loop-number l =
    kinds_differ (kinds_at (kinds_in (map column_of l.columns)) (drop l.number-index l.numbers))
    (kinds_at (kinds_of l.definition) l.left)
    ≡ kinds_differ (kinds_at (kinds_in (map column_of l.columns)) l.numbers) (kinds_at (kinds_of l.definition) l.others)
