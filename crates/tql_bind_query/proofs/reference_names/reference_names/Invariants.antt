use Rattle.std.proofs.Common.{◌≡◌, ◌++◌, ◌∷◌, drop, map}
use Rattle.tql_syntax_tree.specs.Statements.{chain_of}
use Rattle.tql_syntax_tree.specs.declared.statement.ChainTree.{ChainTree}
use Rattle.tql_bind_query.specs.From.{names_in, names_of}
use Rattle.tql_bind_query.proofs.reference_names.reference_names.Given as goal

-- the names so far and the remaining ones
abbrev pub invariant-loop-written : goal.invariant-loop-written
invariant-loop-written l =
    names_of l.all.items ++ map (λ (c : ChainTree). names_in (chain_of c)) (drop l.written-index l.more) ≡ map names_in
    (chain_of l.first ∷ map chain_of l.more)
