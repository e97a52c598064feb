-- A reference of the table at an index, tested in a copy.
use Rattle.std.proofs.Common.{ℕ, Bool, List}
use Rattle.tql_spec.specs.AtPoints.{table_rows}
use Rattle.tql_spec.specs.Constraint.{reference_to}
use Rattle.tql_spec.specs.Definition.{TableDef, Reference, table_at, place_of}
use Rattle.tql_spec.specs.History.{Copy}

abbrev pub reference_in : List TableDef → Copy → ℕ → Reference → Bool
reference_in defs copy t f =
    reference_to defs copy (table_at defs t) (table_rows defs copy t) f (place_of f.parent defs)
