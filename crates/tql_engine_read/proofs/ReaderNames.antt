-- The names of open readers, from the code's list of them.
use Rattle.std.proofs.Common.{◌≡◌, refl, ap, List, [], ◌∷◌, map}
use Rattle.std.specs.Prelude.{string_bytes}
use Rattle.tql_spec.specs.Definition.{Name}
use Rattle.tql_bound.specs.Readers.{names_of}
use Rattle.tql_bound.specs.declared.reader.Reader.{Reader}
use Rattle.tql_engine_state.specs.Readers.{KeptReader, reader_of}

pub names_kept : (rs : List Reader) → names_of rs ≡ map (λ (k : KeptReader). k.name) (map reader_of rs)
names_kept [] = refl
names_kept (r ∷ rs) = ap {B = List Name} (λ ns. string_bytes r.name ∷ ns) (names_kept rs)
