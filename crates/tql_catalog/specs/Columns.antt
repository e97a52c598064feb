-- Single properties of a table's columns.
use Rattle.std.specs.Prelude.{Bool, List, map}
use Rattle.tql_spec.specs.Datum.{Kind}
use Rattle.tql_spec.specs.Definition as definition
use Rattle.tql_spec.specs.Definition.{Name}
use Rattle.tql_catalog.specs.Definitions.{column_of}
use Rattle.tql_catalog.specs.declared.definition.Column.{Column}

-- their names
abbrev pub names_in : List Column → List Name
names_in columns = map (λ (c : definition.Column). c.name) (map column_of columns)

-- their kinds
abbrev pub kinds_in : List Column → List Kind
kinds_in columns = map (λ (c : definition.Column). c.kind) (map column_of columns)

-- whether they take no null
abbrev pub required_in : List Column → List Bool
required_in columns = map (λ (c : definition.Column). c.required) (map column_of columns)
