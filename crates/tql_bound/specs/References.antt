-- The table references of the reference model that bound ones represent.
use Rattle.tql_spec.specs.Query.{Ref}
use Rattle.tql_value.specs.When.{when_of}
use Rattle.tql_bound.specs.declared.reference.Reference.{Reference}

-- a table reference
abbrev pub reference_of : Reference → Ref
reference_of r = record { table = r.table; when = when_of r.when; width = r.width }
