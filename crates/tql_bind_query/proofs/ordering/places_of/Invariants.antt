use Rattle.std.proofs.Common.{◌≡◌, ◌++◌, map, drop}
use Rattle.std.specs.Prelude.{string_bytes}
use Rattle.tql_spec.specs.Binding.{places_of}
use Rattle.tql_bind_query.proofs.ordering.places_of.Given as goal

-- the indexes found so far, followed by those among the remaining headings, are all
abbrev pub invariant-loop-index : goal.invariant-loop-index
invariant-loop-index l =
    l.found.items ++ places_of l.name l.index (map string_bytes (drop l.index l.headings)) ≡ places_of l.name 0
    (map string_bytes l.headings)
