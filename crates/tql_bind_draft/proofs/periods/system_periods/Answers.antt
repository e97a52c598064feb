use Rattle.std.proofs.Common.{map}
use Rattle.tql_catalog.specs.Definitions.{system_of}
use Rattle.tql_bind_expr.proofs.Gathering.{each_item, each_done}
use Rattle.tql_bind_draft.specs.Drafts.{column_of, system_part, system_in}
use Rattle.tql_bind_draft.proofs.periods.system_periods.Goals as goal

pub loop-period-preserved : goal.loop-period-preserved
loop-period-preserved c =
    each_item (system_in (map column_of c.args.columns.now)) system_part system_of _ c.args.faults.now
    c.loop-period.faults c.system_period.new.faults c.args.periods.now c.loop-period.period-index
    c.period-item.result c.loop-period.systems.items c.push.new.self.items c.system_period.result
    c.loop-period-test.true c.period-item.is c.in_ok-push.ensures.items c.loop-period.invariant
    c.system_period.ensures

pub returns : goal.returns
returns c =
    each_done (system_in (map column_of c.args.columns.now)) system_part system_of _ c.args.faults.now
    c.loop-period.faults c.args.periods.now c.loop-period.period-index c.loop-period.systems.items
    c.loop-period-test.false c.loop-period.invariant
