use Rattle.std.proofs.Common.{◌≡◌, drop, map}
use Rattle.std.specs.List.{find}
use Rattle.tql_spec.specs.Definition.{Reference}
use Rattle.tql_catalog.specs.Definitions.{reference_of}
use Rattle.tql_catalog.specs.Sought.{reference_columns}
use Rattle.tql_plan_access.specs.Access.{are_marked}
use Rattle.tql_plan_access.proofs.given.marked_reference.Given as goal

-- the first marked reference of the remaining references is the first of all references
abbrev pub invariant-loop-reference : goal.invariant-loop-reference
invariant-loop-reference l =
    find (are_marked l.marks)
    (map (λ (f : Reference). f.columns) (map reference_of (drop l.reference-index l.reference-items)))
    ≡ find (are_marked l.marks) (reference_columns l.definition)
