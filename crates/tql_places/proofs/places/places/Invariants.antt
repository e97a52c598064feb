use Rattle.tql_splitter.specs.Cutting.{state_of}
use Rattle.tql_places.proofs.Filling.{Counted}
use Rattle.tql_places.proofs.places.places.Given as goal

abbrev pub invariant-loop-byte : goal.invariant-loop-byte
invariant-loop-byte l = Counted l.count l.byte-index (state_of l.state) l.text
