use Rattle.std.proofs.Common.{◌≤◌, arith, refl}
use Rattle.tql_syntax.proofs.NestingLemmas.{one_more_shallow}
use Rattle.tql_syntax.proofs.parse.shallow_count.Goals as goal

pub loop-index-init : goal.loop-index-init
loop-index-init c = record { below = omega arith; opened = refl; shallow = omega arith }

pub loop-index-preserved : goal.loop-index-preserved
loop-index-preserved c =
    let now = c.loop-index in
    let below : c.open_behind-count.result ≤ 64 = omega arith in
    let next = one_more_shallow c.args.tokens.now _ now.index now.count c.open_behind-count.result (omega arith)
    now.invariant.opened now.invariant.shallow c.open_behind-count.ensures below in
    record { below = below; opened = next.0; shallow = next.1 }
