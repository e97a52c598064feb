use Rattle.std.proofs.Common.{◌≡◌, drop}
use Rattle.tql_spec.specs.Script.{Outside}
use Rattle.tql_splitter.specs.Cutting.{state_of}
use Rattle.tql_places.specs.Places.{first_from}
use Rattle.tql_places.proofs.Filling.{plus}
use Rattle.tql_places.proofs.places.first_place.Given as goal

abbrev pub invariant-loop-index : goal.invariant-loop-index
invariant-loop-index l =
    first_from Outside l.text ≡ plus l.index (first_from (state_of l.state) (drop l.index l.text))
