-- The columns of periods, by their indexes, in a table of a given width.
use Rattle.std.specs.Prelude.{◌≤◌, ℕ}
use Rattle.tql_catalog.specs.declared.definition.Application.{Application}
use Rattle.tql_catalog.specs.declared.definition.System.{System}

-- the indexes of the end columns of the application period are at most the width
pub record HasEnds (width : ℕ) (a : Application) : Type 0 where
  pub start : a.start ≤ width
  pub end : a.end ≤ width

-- the indexes of the generated columns are at most the width
pub record HasSystem (width : ℕ) (s : System) : Type 0 where
  pub start : s.start ≤ width
  pub end : s.end ≤ width
