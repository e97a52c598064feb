use Rattle.std.proofs.Common.{map}
use Rattle.tql_catalog.specs.Definitions.{application_of}
use Rattle.tql_bind_expr.proofs.Gathering.{each_item, each_done}
use Rattle.tql_bind_draft.specs.Drafts.{column_of, application_part, application_in}
use Rattle.tql_bind_draft.proofs.periods.application_periods.Goals as goal

pub loop-period-preserved : goal.loop-period-preserved
loop-period-preserved c =
    each_item (application_in (map column_of c.args.columns.now)) application_part application_of _ c.args.faults.now
    c.loop-period.faults c.application_period.new.faults c.args.periods.now c.loop-period.period-index
    c.period-item.result c.loop-period.applications.items c.push.new.self.items c.in_ok-application_period.field-0
    c.loop-period-test.true c.period-item.is c.in_ok-push.ensures.items c.loop-period.invariant
    c.in_ok-application_period.ensures

pub returns : goal.returns
returns c =
    each_done (application_in (map column_of c.args.columns.now)) application_part application_of _ c.args.faults.now
    c.loop-period.faults c.args.periods.now c.loop-period.period-index c.loop-period.applications.items
    c.loop-period-test.false c.loop-period.invariant
