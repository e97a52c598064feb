use Rattle.std.proofs.Common.{◌≡◌, Bool, List, drop, map}
use Rattle.std.specs.Prelude.{◌||◌}
use Rattle.std.specs.List.{list_all}
use Rattle.tql_spec.specs.Constraint.{is_met, shown_rows}
use Rattle.tql_spec.specs.Definition.{Stamped, shown}
use Rattle.tql_catalog.specs.Definitions.{reference_of}
use Rattle.tql_expr.specs.Shown.{shown_by}
use Rattle.tql_store.specs.Changes.{rows_after}
use Rattle.tql_key_rows.specs.Asked.{AreRowsOf, row_found, row_named}
use Rattle.tql_key_clashes.specs.Named.{IsJudged}
use Rattle.tql_keys.specs.Spared.{is_child_of_first}
use Rattle.tql_keys.proofs.references.is_spared.Given as goal

-- the result depends on the remaining child rows
abbrev pub invariant-loop-other : goal.invariant-loop-other
invariant-loop-other g l =
    (rows : List Stamped) (gone : Stamped → Bool) → AreRowsOf l.store l.parents.table.now rows
    → IsJudged (row_named l.store l.parents.table.now.id) gone l.change.removed.now
    → list_all (λ x. is_child_of_first l.children.table.now.definition l.parents.table.now.definition
    (reference_of l.reference) (map shown_by l.behind) (shown l.children.table.now.definition (row_found x))
    || is_met l.children.table.now.definition l.parents.table.now.definition (reference_of l.reference)
    (shown_rows l.parents.table.now.definition (rows_after l.change.moment gone l.change.added.now rows))
    (shown l.children.table.now.definition (row_found x))) (drop l.other-index l.others)
    ≡ list_all (λ x. is_child_of_first l.children.table.now.definition l.parents.table.now.definition
    (reference_of l.reference) (map shown_by l.behind) (shown l.children.table.now.definition (row_found x))
    || is_met l.children.table.now.definition l.parents.table.now.definition (reference_of l.reference)
    (shown_rows l.parents.table.now.definition (rows_after l.change.moment gone l.change.added.now rows))
    (shown l.children.table.now.definition (row_found x))) l.others
