-- Which tables may be dropped.
use Rattle.std.specs.Prelude.{◌≡◌, ℕ, List, false, Some}
use Rattle.tql_spec.specs.Binding.{is_referenced}
use Rattle.tql_spec.specs.Definition.{Name, TableDef, place_of}

-- the table at an index, which is found by its name, and which no reference names
pub record IsDropped (defs : List TableDef) (t : ℕ) : Type 0 where
  pub name : Name
  pub there : place_of name defs ≡ Some t
  pub free : is_referenced name defs ≡ false
