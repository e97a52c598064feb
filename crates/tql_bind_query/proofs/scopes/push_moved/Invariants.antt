use Rattle.std.proofs.Common.{◌≡◌, ◌++◌, drop, map}
use Rattle.tql_spec.specs.Binding as binding
use Rattle.tql_bind_expr.specs.Scopes.{scope_of}
use Rattle.tql_bind_query.proofs.scopes.push_moved.Given as goal

-- the references so far and the remaining ones
abbrev pub invariant-loop-reference : goal.invariant-loop-reference
invariant-loop-reference l =
    scope_of l.scope.items ++ map (binding.moved l.before) (scope_of (drop l.reference-index l.known)) ≡ scope_of
    l.fn.scope.items ++ map (binding.moved l.before) (scope_of l.known)
