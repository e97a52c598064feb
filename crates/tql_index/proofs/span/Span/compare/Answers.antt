use Rattle.std.proofs.Common.{arith}
use Rattle.std.proofs.lemmas.Int.{ints}
use Rattle.tql_index.proofs.Lines.{IsWord, span_order}
use Rattle.tql_index.proofs.span.Span.compare.Goals as goal

pub returns : goal.returns
returns c =
    let x = c.args.self in
    let y = c.args.other in
    let s : IsWord x.period.start = record { low = omega (arith, ints); high = omega (arith, ints) } in
    let t : IsWord y.period.start = record { low = omega (arith, ints); high = omega (arith, ints) } in
    span_order x.group y.group x.period.start y.period.start x.period.end y.period.end c.cmp-starts.result
    c.cmp.result
    c.then-starts.result c.cmp-2.result c.then.result s t c.cmp-starts.ensures c.cmp.ensures c.then-starts.ensures
    c.cmp-2.ensures c.then.ensures
