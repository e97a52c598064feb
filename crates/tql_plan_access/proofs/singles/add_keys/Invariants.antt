use Rattle.std.proofs.Common.{◌++◌, List, ℕ, map, take}
use Rattle.tql_catalog.specs.Definitions.{key_of}
use Rattle.tql_catalog.specs.declared.constraint.Key.{Key as Kept}
use Rattle.tql_plan_access.specs.Choices.{FindsSame}
use Rattle.tql_plan_access.proofs.singles.add_keys.Given as goal

-- the columns of the keys so far
abbrev pub invariant-loop-key : goal.invariant-loop-key
invariant-loop-key l =
    (lists : List (List ℕ)) → FindsSame lists l.initial.found.items
    → FindsSame (lists ++ map (λ (k : Kept). (key_of k).columns) (take l.key-index l.key-items)) l.found.items
