use Rattle.std.proofs.Common.{◌≡◌, ℕ, length, take}
use Rattle.std.specs.Prelude.{List}
use Rattle.std.specs.List.{AllZip}
use Rattle.tql_exec_group.specs.Places.{ArePlaces}
use Rattle.tql_exec_group.specs.Sources.{IsSource}
use Rattle.tql_exec_group.proofs.direct.sources_of.Given as goal

-- invariant: the sources so far are those of the first items
abbrev pub invariant-loop-item : goal.invariant-loop-item
invariant-loop-item l = record {
  long : length l.sources.items ≡ l.item-index;
  each : (columns : List ℕ) → ArePlaces columns l.places
      → AllZip (IsSource l.terms columns) l.sources.items (take l.item-index l.items);
}
