use Rattle.std.proofs.Common.{sym, ◌∙◌}
use Rattle.tql_spec.specs.Period.{share_a_point}
use Rattle.tql_index.specs.Entry.{Entry}
use Rattle.tql_index.specs.Line.{place_of}
use Rattle.tql_index.specs.Slots.{entry_of}
use Rattle.tql_index.specs.Spans.{points_between}
use Rattle.tql_index.proofs.Finding.{in_period}
use Rattle.tql_index.proofs.Forms.{searched_more, searched_all, searched_late, is_late, late_start}
use Rattle.tql_index.proofs.slots.find_in_spans.Goals as goal

pub loop-slot-preserved : goal.loop-slot-preserved
loop-slot-preserved c =
    let x = points_between c.args.from c.args.to in
    searched_more entry_of (λ (e : Entry). share_a_point e.period x) c.args.spans.now c.loop-slot.slot-index
    c.slot-item.result c.shares.result c.args.found.now.items c.loop-slot.found.items c.push_if.new.found.items
    c.loop-slot.invariant c.slot-item.is c.loop-slot-test.true c.shares.ensures c.in_ok-push_if.ensures.ok

pub returns-then-not-is_before-clause-found : goal.returns-then-not-is_before-clause-found
returns-then-not-is_before-clause-found c =
    let x = points_between c.args.from c.args.to in
    let b = late_start (place_of c.start.result) (place_of c.args.to) (entry_of c.slot-item.result).period.start
    (sym c.is_before.ensures ∙ c.if-not-is_before.true) c.start.ensures in
    searched_late entry_of (λ (e : Entry). share_a_point e.period x) x.end c.args.spans.now c.loop-slot.slot-index
    c.slot-item.result c.args.found.now.items c.loop-slot.found.items ((in_period x).starts_before) c.requires
    c.loop-slot.invariant c.slot-item.is c.loop-slot-test.true b

pub returns-then-not-is_before-clause-late : goal.returns-then-not-is_before-clause-late
returns-then-not-is_before-clause-late c =
    is_late entry_of (place_of c.args.to) c.args.spans.now c.loop-slot.slot-index c.slot-item.result c.slot-item.is
    c.loop-slot-test.true
    (late_start (place_of c.start.result) (place_of c.args.to) (entry_of c.slot-item.result).period.start
    (sym c.is_before.ensures ∙ c.if-not-is_before.true) c.start.ensures)

pub returns-clause-found : goal.returns-clause-found
returns-clause-found c =
    let x = points_between c.args.from c.args.to in
    searched_all entry_of (λ (e : Entry). share_a_point e.period x) c.args.spans.now c.loop-slot.slot-index
    c.args.found.now.items c.loop-slot.found.items c.loop-slot.invariant c.loop-slot-test.false
