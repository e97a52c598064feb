use Rattle.std.proofs.Common.{◌≡◌, ◌++◌, drop, map}
use Rattle.tql_value.specs.Views.{datum_of_view}
use Rattle.tql_places.specs.Places.{filled}
use Rattle.tql_places.proofs.places.push_filled.Given as goal

abbrev pub invariant-loop-value : goal.invariant-loop-value
invariant-loop-value l = l.fn.bytes.items ++ filled l.text (map datum_of_view l.values)
    ≡ l.bytes.items ++ filled l.rest (map datum_of_view (drop l.value-index l.values))
