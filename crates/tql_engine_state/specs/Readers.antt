-- The open readers of an engine. Each has a name and a pin, in place of the copies that the reference model sets aside.
use Rattle.std.specs.Prelude.{◌≡◌, refl, ℕ, ℤ, Bool, true, int_lt, List, [], ◌∷◌, map, Option, Some, None, string_bytes}
use Rattle.std.specs.Prelude.{if◌then◌else◌}
use Rattle.std.specs.Coded.{Coded, code_by, coded×, coded_list, coded_option, coded_ℕ, coded_ℤ}
use Rattle.tql_spec.specs.Bag.{In}
use Rattle.tql_spec.specs.Definition.{Name}
use Rattle.tql_spec.specs.Machine.{State}
use Rattle.tql_spec.specs.ReaderLaws as laws
use Rattle.tql_spec.specs.ReaderLaws.{ReadsTheHistory}
use Rattle.tql_spec.specs.Readers as machine
use Rattle.tql_spec.specs.Words.{same_text}
use Rattle.tql_bound.specs.declared.reader.Reader.{Reader}

-- a reader: its name, and the moment of the last commit before it was opened, if there was one
pub record KeptReader : Type 0 where
  pub name : Name
  pub pin : Option ℤ

-- how the logic encodes readers
abbrev pub readers_code : Coded (List KeptReader)
readers_code =
    coded_list (code_by (Name × Option ℤ) (coded× (coded_list coded_ℕ) (coded_option coded_ℤ))
    (λ r. (r.name, r.pin)) (λ p. record { name = p.0; pin = p.1 }) (λ _. refl))

-- the model of a reader of the code
abbrev pub reader_of : Reader → KeptReader
reader_of r = record { name = string_bytes r.name; pin = r.pin }

-- how a reader of the reference model is kept
abbrev pub told : machine.Reader → KeptReader
told r = record { name = r.name; pin = laws.pin r.pinned }

-- the readers are those of the reference model, and the history still answers what each of them set aside
pub record AreReaders (kept : List KeptReader) (s : State) : Type 0 where
  pub same : kept ≡ map told s.readers
  pub read : (r : machine.Reader) → In r s.readers → ReadsTheHistory s r

-- ---- queries of readers

-- the pin of the reader of this name
abbrev pub pin_of : Name → List KeptReader → Option ℤ
pin_of n [] = None
pin_of n (r ∷ rs) = if same_text n r.name then r.pin else pin_of n rs

-- whether a horizon would pass a pin
abbrev pub is_passed : ℤ → Option ℤ → Bool
is_passed h None = true
is_passed h (Some p) = int_lt p h
