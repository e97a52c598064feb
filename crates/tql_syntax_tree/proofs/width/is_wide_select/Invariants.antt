use Rattle.std.proofs.Common.{◌≡◌, ◌+◌, drop, sum_by}
use Rattle.tql_spec.specs.Syntax.{chain_length}
use Rattle.tql_syntax_tree.specs.Statements.{chain_of}
use Rattle.tql_syntax_tree.proofs.width.is_wide_select.Given as goal

abbrev pub invariant-loop-chain : goal.invariant-loop-chain
invariant-loop-chain l =
    chain_length (chain_of l.select.first) + sum_by (λ c. chain_length (chain_of c)) l.select.more.items
    ≡ l.count + sum_by (λ c. chain_length (chain_of c)) (drop l.chain-index l.chain-items)
