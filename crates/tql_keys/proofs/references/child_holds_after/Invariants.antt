use Rattle.std.proofs.Common.{◌≡◌, List, drop}
use Rattle.std.specs.List.{list_all}
use Rattle.tql_spec.specs.Constraint.{is_met, shown_rows}
use Rattle.tql_spec.specs.Definition.{Stamped}
use Rattle.tql_catalog.specs.Definitions.{reference_of}
use Rattle.tql_key_rows.specs.Asked.{AreRowsOf, new_rows}
use Rattle.tql_keys.proofs.references.child_holds_after.Given as goal

-- the result depends on the remaining new rows
abbrev pub invariant-loop-row : goal.invariant-loop-row
invariant-loop-row g l =
    (rows : List Stamped) → AreRowsOf l.store l.parent rows
    → list_all (is_met l.child l.parent.definition (reference_of l.reference) (shown_rows l.parent.definition rows))
    (new_rows l.child l.change.moment (drop l.row-index l.change.added.now))
    ≡ list_all (is_met l.child l.parent.definition (reference_of l.reference) (shown_rows l.parent.definition rows))
    (new_rows l.child l.change.moment l.change.added.now)
