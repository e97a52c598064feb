use Rattle.std.proofs.Common.{◌≡◌, ◌+◌, ◌++◌, map, drop}
use Rattle.tql_spec.specs.Names.{columns_named}
use Rattle.tql_catalog.specs.Definitions.{column_of}
use Rattle.tql_bind_expr.specs.Scopes.{things_of}
use Rattle.tql_bind_expr.proofs.names.columns_named.Given as goal

-- the columns found so far, followed by those among the remaining ones, are all of this name
abbrev pub invariant-loop-index : goal.invariant-loop-index
invariant-loop-index l =
    things_of l.found.items ++ columns_named l.name (l.known.offset + l.index) (map column_of (drop l.index l.columns))
    ≡ things_of l.fn.found.items ++ columns_named l.name l.known.offset (map column_of l.known.columns.now)
