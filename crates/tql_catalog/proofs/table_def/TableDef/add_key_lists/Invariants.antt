use Rattle.std.proofs.Common.{◌++◌, take, map, List, ℕ}
use Rattle.std.specs.List.{AllZip}
use Rattle.tql_spec.specs.Definition.{Key}
use Rattle.tql_catalog.specs.Definitions.{key_of}
use Rattle.tql_catalog.specs.Rows.{AreStoredAt}
use Rattle.tql_catalog.specs.Sought.{lists_of}
use Rattle.tql_catalog.proofs.table_def.TableDef.add_key_lists.Given as goal

-- the lists of the keys so far
abbrev pub invariant-loop-key : goal.invariant-loop-key
invariant-loop-key l =
    (before : List (List ℕ)) → AllZip (AreStoredAt l.self) before (lists_of l.fn.lists.items)
    → AllZip (AreStoredAt l.self)
    (before ++ map (λ (k : Key). k.columns) (map key_of (take l.key-index l.key-items)))
    (lists_of l.lists.items)
