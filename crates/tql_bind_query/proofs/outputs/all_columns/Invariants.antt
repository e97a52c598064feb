use Rattle.std.proofs.Common.{drop, map}
use Rattle.tql_bind_expr.specs.Scopes.{known_of, scope_of}
use Rattle.tql_bind_query.proofs.ShownLaws.{OutputsLead, columns_of_all}
use Rattle.tql_bind_query.proofs.outputs.all_columns.Given as goal

-- the references so far and the remaining ones
abbrev pub invariant-loop-known : goal.invariant-loop-known
invariant-loop-known l =
    OutputsLead l.fn.terms l.initial.outputs (columns_of_all (scope_of l.scope)) l.terms l.outputs
    (columns_of_all (map known_of (drop l.known-index l.scope)))
