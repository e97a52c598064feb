use Rattle.std.proofs.Common.{◌≡◌, ◌++◌, map}
use Rattle.tql_bind_query.proofs.query.without_scopes.Given as goal

-- the chains so far and the remaining ones
abbrev pub invariant-loop-one : goal.invariant-loop-one
invariant-loop-one l =
    l.chains.items ++ map (λ x. x.chain) l.one-iterator.rest.items ≡ map (λ x. x.chain) l.fn.linked.items
