-- The names of open readers.
use Rattle.std.specs.Prelude.{List, map, string_bytes}
use Rattle.tql_spec.specs.Definition.{Name}
use Rattle.tql_bound.specs.declared.reader.Reader.{Reader}

-- the names, in the order in which the readers were opened
abbrev pub names_of : List Reader → List Name
names_of rs = map (λ (r : Reader). string_bytes r.name) rs
