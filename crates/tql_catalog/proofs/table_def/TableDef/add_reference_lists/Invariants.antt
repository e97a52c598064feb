use Rattle.std.proofs.Common.{◌++◌, take, map, List, ℕ}
use Rattle.std.specs.List.{AllZip}
use Rattle.tql_spec.specs.Definition.{Reference}
use Rattle.tql_catalog.specs.Definitions.{reference_of}
use Rattle.tql_catalog.specs.Rows.{AreStoredAt}
use Rattle.tql_catalog.specs.Sought.{lists_of}
use Rattle.tql_catalog.proofs.table_def.TableDef.add_reference_lists.Given as goal

-- the lists of the references so far
abbrev pub invariant-loop-reference : goal.invariant-loop-reference
invariant-loop-reference l =
    (before : List (List ℕ)) → AllZip (AreStoredAt l.self) before (lists_of l.fn.lists.items)
    → AllZip (AreStoredAt l.self)
    (before ++ map (λ (f : Reference). f.columns) (map reference_of (take l.reference-index l.reference-items)))
    (lists_of l.lists.items)
