use Rattle.std.proofs.Common.{◌≡◌, Bool, List, drop, map}
use Rattle.tql_spec.specs.Constraint.{shown_rows}
use Rattle.tql_spec.specs.Definition.{Stamped}
use Rattle.tql_catalog.specs.Definitions.{reference_of}
use Rattle.tql_expr.specs.Shown.{shown_by}
use Rattle.tql_store.specs.Changes.{rows_after}
use Rattle.tql_key_rows.specs.Asked.{AreRowsOf, row_named}
use Rattle.tql_key_clashes.specs.Named.{IsJudged}
use Rattle.tql_keys.specs.Spared.{are_spared}
use Rattle.tql_keys.proofs.references.are_spared.Given as goal

-- the result depends on the remaining removed rows
abbrev pub invariant-loop-place : goal.invariant-loop-place
invariant-loop-place g l =
    (rows others : List Stamped) (gone : Stamped → Bool) → AreRowsOf l.store l.parents.table.now rows
    → IsJudged (row_named l.store l.parents.table.now.id) gone l.change.removed.now
    → AreRowsOf l.store l.children.table.now others
    → are_spared l.children.table.now.definition l.parents.table.now.definition (reference_of l.reference)
    (shown_rows l.parents.table.now.definition (rows_after l.change.moment gone l.change.added.now rows))
    (shown_rows l.children.table.now.definition others) (map shown_by (drop l.place l.going))
    ≡ are_spared l.children.table.now.definition l.parents.table.now.definition (reference_of l.reference)
    (shown_rows l.parents.table.now.definition (rows_after l.change.moment gone l.change.added.now rows))
    (shown_rows l.children.table.now.definition others) (map shown_by l.going)
