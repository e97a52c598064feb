use Rattle.std.proofs.Common.{◌≡◌, ◌++◌, drop, map}
use Rattle.std.specs.List.{flat_map}
use Rattle.tql_catalog.specs.Definitions.{key_of}
use Rattle.tql_bind_table.specs.KeyLists.{columns_in, listed_key}
use Rattle.tql_bind_table.proofs.parent_keys.key_lists.Given as goal

-- the lists so far, and those of the keys that are left
abbrev pub invariant-loop-key : goal.invariant-loop-key
invariant-loop-key l =
    map columns_in l.lists.items ++ flat_map (listed_key l.by_period) (map key_of (drop l.key-index l.key-items))
    ≡ flat_map (listed_key l.by_period) l.definition.keys
