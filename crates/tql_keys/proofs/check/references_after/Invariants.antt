use Rattle.std.proofs.Common.{◌≡◌, Bool, true, drop}
use Rattle.std.specs.List.{list_all}
use Rattle.tql_spec.specs.Constraint.{references_hold}
use Rattle.tql_spec.specs.Definition.{Stamped}
use Rattle.tql_spec.specs.History.{Copy}
use Rattle.tql_catalog.specs.Tables.{definitions_of}
use Rattle.tql_keys.specs.Checked.{AreJudged, IsCopyOf, copy_after, references_hold_of}
use Rattle.tql_keys.proofs.check.references_after.Given as goal

-- the result depends on the remaining tables
abbrev pub invariant-loop-child : goal.invariant-loop-child
invariant-loop-child g l =
    (copy : Copy) (gone : Stamped → Bool) → IsCopyOf l.store l.catalog copy
    → AreJudged l.store l.catalog l.place gone l.change.removed.now
    → references_hold (definitions_of l.catalog) copy ≡ true
    → list_all (references_hold_of (definitions_of l.catalog)
    (copy_after l.change.moment l.place gone l.change.added.now copy)) (drop l.child-index l.child-items)
    ≡ list_all (references_hold_of (definitions_of l.catalog)
    (copy_after l.change.moment l.place gone l.change.added.now copy)) l.child-items
