use Rattle.std.proofs.Common.{◌≡◌, rules, tests, true}
use Rattle.tql_spec.specs.Definition.{period_of}
use Rattle.tql_expr.specs.Shown.{shown_by}
use Rattle.tql_key_rows.proofs.Sharing.{share_is}
use Rattle.tql_key_rows.proofs.reading.touches.Goals as goal

pub returns : goal.returns
returns c =
    let x = period_of c.args.definition.now (shown_by c.args.r.now) in
    let h : c.args.by_period ≡ true = search (rules, tests) in
    let y = period_of c.args.other.now (shown_by c.args.s.now) in
    share_is x y _ _ c.share.result c.args.by_period c.period.ensures c.period-2.ensures c.share.ensures
    h
