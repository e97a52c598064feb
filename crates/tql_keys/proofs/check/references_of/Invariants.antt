use Rattle.std.proofs.Common.{◌≡◌, Bool, true, drop}
use Rattle.std.specs.List.{list_all}
use Rattle.tql_spec.specs.Definition.{Stamped}
use Rattle.tql_spec.specs.History.{Copy}
use Rattle.tql_catalog.specs.Definitions.{reference_of}
use Rattle.tql_catalog.specs.Tables.{definitions_of}
use Rattle.tql_keys.specs.Checked.{AreJudged, IsCopyOf, copy_after, references_hold_of}
use Rattle.tql_keys.proofs.Tested.{reference_in}
use Rattle.tql_keys.proofs.check.references_of.Given as goal

-- the result depends on the remaining references
abbrev pub invariant-loop-reference : goal.invariant-loop-reference
invariant-loop-reference g l =
    (copy : Copy) (gone : Stamped → Bool) → IsCopyOf l.store l.catalog copy
    → AreJudged l.store l.catalog l.place gone l.change.removed.now
    → references_hold_of (definitions_of l.catalog) copy l.child ≡ true
    → list_all (λ x. reference_in (definitions_of l.catalog)
    (copy_after l.change.moment l.place gone l.change.added.now copy) l.child (reference_of x))
    (drop l.reference-index l.reference-items)
    ≡ list_all (λ x. reference_in (definitions_of l.catalog)
    (copy_after l.change.moment l.place gone l.change.added.now copy) l.child (reference_of x))
    l.reference-items
