use Rattle.std.proofs.Common.{◌≡◌, ◌++◌, map, drop}
use Rattle.std.specs.Prelude.{is_some}
use Rattle.tql_spec.specs.Creation.{numbers_where}
use Rattle.tql_bind_draft.specs.Drafts.{column_of}
use Rattle.tql_bind_table.specs.NewTables.{generated_in}
use Rattle.tql_bind_table.proofs.checks.generated_numbers.Given as goal

-- the numbers so far and those among the remaining columns are all
abbrev pub invariant-loop-number : goal.invariant-loop-number
invariant-loop-number l =
    l.numbers.items
    ++ numbers_where (λ c. is_some c.generated) l.number (map column_of (drop l.number l.columns))
    ≡ generated_in (map column_of l.columns)
