use Rattle.std.proofs.Common.{◌≡◌, ◌++◌, drop, option_map}
use Rattle.tql_spec.specs.Names.{system_periods}
use Rattle.tql_bind_expr.specs.Scopes.{text_of, scope_of}
use Rattle.tql_bind_cond.specs.Ends.{periods_of}
use Rattle.tql_bind_cond.proofs.periods.system_periods.Given as goal

-- what was found so far, followed by what the remaining references have, is all
abbrev pub invariant-loop-known : goal.invariant-loop-known
invariant-loop-known l =
    periods_of l.found.items ++ system_periods (scope_of (drop l.known-index l.scope)) (option_map text_of l.qualifier)
    ≡ system_periods (scope_of l.scope) (option_map text_of l.qualifier)
