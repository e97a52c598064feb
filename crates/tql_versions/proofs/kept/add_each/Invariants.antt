use Rattle.std.proofs.Common.{◌≡◌, ◌≤◌, ◌+◌, ◌++◌, List, map, length}
use Rattle.std.specs.Prelude.{vec_len, vec_capacity, ℤ}
use Rattle.std.specs.Vec.Iter.{into_iter_items}
use Rattle.tql_spec.specs.Datum as pure
use Rattle.tql_spec.specs.Definition.{Version}
use Rattle.tql_versions.specs.Changes.{fresh}
use Rattle.tql_versions.specs.Views.{versions_of}
use Rattle.tql_versions.proofs.kept.add_each.Given as goal

-- the versions of the new rows
abbrev pub fresh_versions : ℤ → List pure.Row → List Version
fresh_versions moment rows = map (fresh moment) rows

-- the versions added so far, and those of the rest, are all; there is room for the rest
abbrev pub invariant-loop-row : goal.invariant-loop-row
invariant-loop-row l = record {
  slots : versions_of l.versions.items ++ fresh_versions l.moment (into_iter_items l.row-iterator) ≡ versions_of
      l.fn.versions.items ++ fresh_versions l.moment l.fn.added.items;
  room : vec_len l.versions + length (into_iter_items l.row-iterator) ≤ vec_capacity l.versions;
}
