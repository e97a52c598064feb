use Rattle.tql_store_index.proofs.Slots.{grown_spans}
use Rattle.tql_store_index.proofs.slot_periods.SlotPeriods.grow.Goals as goal

pub returns-then-self-clause-kept : goal.returns-then-self-clause-kept
returns-then-self-clause-kept c =
    grown_spans c.self.inside.is_wide c.self.inside.spans.items c.lengthen_spans.new.spans.items
    c.self.inside.groups.items c.args.self.now c.if-self.true c.self.view_is c.lengthen_spans.ensures.kept
