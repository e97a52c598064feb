use Rattle.std.proofs.Common.{◌≡◌, ◌++◌, map, drop}
use Rattle.tql_versions.specs.declared.version.Version.{Version}
use Rattle.test_stores.proofs.tests.stores.ids_of.Given as goal

-- the ids so far, followed by those of the remaining versions, are all ids
abbrev pub invariant-loop-version : goal.invariant-loop-version
invariant-loop-version l =
    l.ids.items ++ map (λ (v : Version). v.id) (drop l.version-index l.found) ≡ map (λ (v : Version). v.id) l.found
