-- What a host is told of the places for values.
use Rattle.std.specs.Prelude.{ℕ, List}
use Rattle.tql_host_cells.specs.declared.requests.Told.{Told}
use Rattle.tql_host_cells.specs.Texts.{signed}
use Rattle.tql_places.specs.Places.{places}

-- the number of places in a text
abbrev pub told_places : List ℕ → Told
told_places text = record { kind = 1; code = 0; number = signed (places text); length = 0 }
