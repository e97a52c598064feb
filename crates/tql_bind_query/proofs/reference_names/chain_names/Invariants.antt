use Rattle.std.proofs.Common.{◌≡◌, ◌++◌, drop, map}
use Rattle.std.specs.Prelude.{string_bytes}
use Rattle.tql_syntax_tree.specs.Statements.{chain_of, join_of}
use Rattle.tql_syntax_tree.specs.declared.statement.JoinTree.{JoinTree}
use Rattle.tql_bind_query.specs.From.{name_in, names_in, reference_in}
use Rattle.tql_bind_query.proofs.reference_names.chain_names.Given as goal

-- the names so far and the remaining ones
abbrev pub invariant-loop-join : goal.invariant-loop-join
invariant-loop-join l =
    map string_bytes l.names.items ++ map (λ (j : JoinTree). name_in (reference_in (join_of j)))
    (drop l.join-index l.join-items) ≡ names_in (chain_of l.written)
