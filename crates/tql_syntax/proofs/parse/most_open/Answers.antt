use Rattle.std.proofs.Common.{arith}
use Rattle.tql_syntax.proofs.NestingLemmas.{one_more_token, one_more_open}
use Rattle.tql_syntax.proofs.parse.most_open.Goals as goal

pub loop-token-preserved : goal.loop-token-preserved
loop-token-preserved c =
    let now = c.loop-token in
    let bound = one_more_open now.count c.open_behind-count.result _ c.open_behind-count.ensures in
    record {
      counted = one_more_token c.args.tokens.now _ now.token-index now.count now.most c.open_behind-count.result
          c.max-most.result
          (omega arith) now.invariant.counted now.invariant.seen c.open_behind-count.ensures c.max-most.ensures;
      below = omega (arith, bound);
      seen = omega arith;
    }
