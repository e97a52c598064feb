use Rattle.std.proofs.Common.{◌≡◌, rules, tests, true}
use Rattle.tql_spec.specs.Definition.{period_of}
use Rattle.tql_expr.specs.Shown.{shown_by}
use Rattle.tql_key_clashes.proofs.SortedRivals.{rises_where_some}
use Rattle.tql_key_clashes.proofs.rivals.can_clash.Goals as goal

pub returns : goal.returns
returns c =
    let by_period : c.args.key.now.by_period ≡ true = search (rules, tests) in
    rises_where_some (period_of c.args.definition.now (shown_by c.args.row.now)) c.period.result
    c.args.key.now.by_period c.is_some.result c.period.ensures (search (rules, tests)) by_period
