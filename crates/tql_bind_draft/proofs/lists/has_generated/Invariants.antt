use Rattle.std.proofs.Common.{◌≡◌, drop, map}
use Rattle.std.specs.List.{list_any}
use Rattle.tql_bind_draft.specs.Drafts.{column_of, is_generated_in}
use Rattle.tql_bind_draft.proofs.lists.has_generated.Given as goal

abbrev pub invariant-loop-number : goal.invariant-loop-number
invariant-loop-number l =
    list_any (is_generated_in (map column_of l.columns)) (drop l.number-index l.numbers)
    ≡ list_any (is_generated_in (map column_of l.columns)) l.numbers
