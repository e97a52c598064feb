-- The models of the parts of definitions.
use Rattle.std.specs.Prelude.{List, map, string_bytes}
use Rattle.tql_spec.specs.Definition as definition
use Rattle.tql_spec.specs.Expression.{Cond}
use Rattle.tql_value.specs.Views.{plain_kind}
use Rattle.tql_expr.specs.Meaning.{cond}
use Rattle.tql_catalog.specs.declared.definition.Column.{Column}
use Rattle.tql_catalog.specs.declared.definition.System.{System}
use Rattle.tql_catalog.specs.declared.definition.Application.{Application}
use Rattle.tql_catalog.specs.declared.constraint.Key.{Key}
use Rattle.tql_catalog.specs.declared.constraint.Reference.{Reference}
use Rattle.tql_catalog.specs.declared.constraint.Checks.{Checks}

-- the column
abbrev pub column_of : Column → definition.Column
column_of c = record { name = string_bytes c.name; kind = plain_kind c.kind; limit = c.limit; required = c.is_required }

-- the generated columns
abbrev pub system_of : System → definition.System
system_of s = record { start = s.start; end = s.end }

-- the application period
abbrev pub application_of : Application → definition.Application
application_of a = record { name = string_bytes a.name; start = a.start; end = a.end }

-- the key
abbrev pub key_of : Key → definition.Key
key_of k = record { columns = k.columns.items; by_period = k.by_period }

-- the reference
abbrev pub reference_of : Reference → definition.Reference
reference_of f = record {
  columns = f.columns.items;
  by_period = f.by_period;
  parent = string_bytes f.parent;
  parent_columns = f.parent_columns.items;
}

-- the checks
abbrev pub checks_of : Checks → List Cond
checks_of c = map (cond c.terms) c.conditions.items
