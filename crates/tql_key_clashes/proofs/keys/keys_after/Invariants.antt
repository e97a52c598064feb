use Rattle.std.proofs.Common.{◌≡◌, Bool, true, List, drop}
use Rattle.std.specs.List.{list_all}
use Rattle.tql_spec.specs.Constraint.{key_holds, shown_rows}
use Rattle.tql_spec.specs.Definition.{Stamped}
use Rattle.tql_catalog.specs.Definitions.{key_of}
use Rattle.tql_store.specs.Changes.{rows_after}
use Rattle.tql_key_rows.specs.Asked.{AreRowsOf, row_named}
use Rattle.tql_key_clashes.specs.Named.{IsJudged}
use Rattle.tql_key_clashes.specs.Free.{keys_hold_of}
use Rattle.tql_key_clashes.proofs.keys.keys_after.Given as goal

-- the result depends on the remaining keys
abbrev pub invariant-loop-key : goal.invariant-loop-key
invariant-loop-key g l =
    (rows : List Stamped) (gone : Stamped → Bool) → AreRowsOf l.store l.table rows
    → IsJudged (row_named l.store l.table.id) gone l.change.removed.now
    → keys_hold_of l.table.definition (shown_rows l.table.definition rows) ≡ true
    → list_all (λ k. key_holds l.table.definition
    (shown_rows l.table.definition (rows_after l.change.moment gone l.change.added.now rows)) (key_of k))
    (drop l.key-index l.key-items)
    ≡ list_all (λ k. key_holds l.table.definition
    (shown_rows l.table.definition (rows_after l.change.moment gone l.change.added.now rows)) (key_of k))
    l.key-items
