use Rattle.std.proofs.Common.{◌++◌, List, ℕ, map, take}
use Rattle.tql_catalog.specs.Definitions.{reference_of}
use Rattle.tql_catalog.specs.declared.constraint.Reference.{Reference as Kept}
use Rattle.tql_plan_access.specs.Choices.{FindsSame}
use Rattle.tql_plan_access.proofs.singles.add_references.Given as goal

-- the columns of the references so far
abbrev pub invariant-loop-reference : goal.invariant-loop-reference
invariant-loop-reference l =
    (lists : List (List ℕ)) → FindsSame lists l.initial.found.items
    → FindsSame (lists ++ map (λ (k : Kept). (reference_of k).columns) (take l.reference-index l.reference-items))
    l.found.items
