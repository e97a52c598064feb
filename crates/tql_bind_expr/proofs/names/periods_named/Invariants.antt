use Rattle.std.proofs.Common.{◌≡◌, ◌++◌, map, drop}
use Rattle.tql_spec.specs.Names.{periods_named}
use Rattle.tql_catalog.specs.Definitions.{column_of, application_of}
use Rattle.tql_bind_expr.specs.Scopes.{things_of}
use Rattle.tql_bind_expr.proofs.names.periods_named.Given as goal

-- the periods found so far, followed by those among the remaining ones, are all of this name
abbrev pub invariant-loop-application : goal.invariant-loop-application
invariant-loop-application l =
    things_of l.found.items ++ periods_named l.name l.known.offset (map column_of l.known.columns.now)
    (map application_of (drop l.application-index l.applications))
    ≡ things_of l.fn.found.items ++ periods_named l.name l.known.offset (map column_of l.known.columns.now)
    (map application_of l.known.applications.now)
