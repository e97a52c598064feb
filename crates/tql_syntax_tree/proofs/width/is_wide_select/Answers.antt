use Rattle.std.proofs.Common.{◌+◌, ap, ◌∙◌, sum_by, drop}
use Rattle.tql_spec.specs.Syntax.{chain_length}
use Rattle.tql_syntax_tree.specs.Statements.{chain_of}
use Rattle.tql_syntax_tree.proofs.Widths.{one_more_counted, all_counted, counted_test, counted_enough}
use Rattle.tql_syntax_tree.proofs.width.is_wide_select.Goals as goal

pub returns-then-count-gt-MOST_REFERENCES : goal.returns-then-count-gt-MOST_REFERENCES
returns-then-count-gt-MOST_REFERENCES c =
    counted_enough chain_of chain_length c.args.select.now.more.items 8
    (chain_length (chain_of c.args.select.now.first)) c.loop-chain.count
    (sum_by (λ x. chain_length (chain_of x)) (drop c.loop-chain.chain-index c.deref-chain-items.result.now))
    c.loop-chain.invariant c.if-count-gt-MOST_REFERENCES.true

pub loop-chain-preserved : goal.loop-chain-preserved
loop-chain-preserved c =
    one_more_counted (λ x. chain_length (chain_of x)) c.deref-chain-items.result.now c.chain-item.result
    _ c.loop-chain.count c.loop-chain.chain-index c.chain_length-count-in-loop-chain.result
    c.loop-chain-test.true c.loop-chain.invariant
    (c.chain_length-count-in-loop-chain.ensures ∙ ap (λ x. chain_length (chain_of x)) c.chain-item.is)

pub returns : goal.returns
returns c =
    let first = chain_length (chain_of c.args.select.now.first) in
    let all = all_counted (λ x. chain_length (chain_of x)) c.deref-chain-items.result.now
    (first + sum_by (λ x. chain_length (chain_of x)) c.args.select.now.more.items) c.loop-chain.count
    c.loop-chain.chain-index
    c.loop-chain-test.false c.loop-chain.invariant in
    counted_test chain_of chain_length c.args.select.now.more.items 8 first c.loop-chain.count all
