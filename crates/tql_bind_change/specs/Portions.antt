-- The kinds of a portion's points.
use Rattle.std.specs.Prelude.{ℕ, Bool, ◌||◌, Option, Some, slice_index_or}
use Rattle.tql_spec.specs.Binding.{point_kind}
use Rattle.tql_spec.specs.Creation.{kinds_of}
use Rattle.tql_spec.specs.Datum.{Kind, Days}
use Rattle.tql_spec.specs.Definition.{TableDef}
use Rattle.tql_spec.specs.Names.{differ}
use Rattle.tql_spec.specs.Syntax.{PortionTree}

-- the kind of a period's column
abbrev pub kind_at : TableDef → ℕ → Kind
kind_at d i = slice_index_or (kinds_of d) i Days

-- whether a point is known to be of another kind than the period's
abbrev pub differs : Option Kind → PortionTree → Bool
differs k p = differ k (Some (point_kind p.from)) || differ k (Some (point_kind p.to))
