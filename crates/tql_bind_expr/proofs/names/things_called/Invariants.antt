use Rattle.std.proofs.Common.{◌≡◌, ◌++◌, drop, option_map}
use Rattle.tql_spec.specs.Names.{things}
use Rattle.tql_bind_expr.specs.Scopes.{text_of, scope_of, things_of}
use Rattle.tql_bind_expr.proofs.names.things_called.Given as goal

-- what was found so far, followed by what the remaining references have, is all that the name means
abbrev pub invariant-loop-known : goal.invariant-loop-known
invariant-loop-known l =
    things_of l.found.items ++ things (scope_of (drop l.known-index l.scope))
    (record { qualifier = option_map text_of l.qualifier; name = l.name })
    ≡ things (scope_of l.scope) (record { qualifier = option_map text_of l.qualifier; name = l.name })
