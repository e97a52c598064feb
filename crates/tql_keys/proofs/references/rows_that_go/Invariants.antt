use Rattle.std.proofs.Common.{◌≡◌, Bool, drop, map}
use Rattle.std.specs.Prelude.{◌&&◌}
use Rattle.std.specs.List.{list_all}
use Rattle.tql_spec.specs.Datum.{Row}
use Rattle.tql_spec.specs.Definition.{shown}
use Rattle.tql_expr.specs.Shown.{shown_by}
use Rattle.tql_key_rows.specs.Asked.{row_named}
use Rattle.tql_keys.specs.Named.{of_named}
use Rattle.tql_keys.proofs.references.rows_that_go.Given as goal

-- a test of the rows added so far, and of those named by the remaining ids, is a test of all
abbrev pub invariant-loop-id : goal.invariant-loop-id
invariant-loop-id g l =
    (test : Row → Bool) → list_all test (map shown_by l.rows.items)
    && list_all (λ id. of_named (λ r. test (shown l.table.definition r)) (row_named l.store l.table.id id))
    (drop l.id-index l.change.removed.now)
    ≡ list_all (λ id. of_named (λ r. test (shown l.table.definition r)) (row_named l.store l.table.id id))
    l.change.removed.now
