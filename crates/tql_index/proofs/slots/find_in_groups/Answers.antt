use Rattle.std.specs.Prelude.{◌++◌, pos}
use Rattle.std.proofs.Common.{ap, get_or, sym, ◌∙◌}
use Rattle.std.proofs.lemmas.List.{get_or_default}
use Rattle.tql_spec.specs.Period.{share_a_point}
use Rattle.tql_index.specs.Entry.{Entry, id_if}
use Rattle.tql_index.specs.Line.{place_of}
use Rattle.tql_index.specs.Slots.{entry_of_group}
use Rattle.tql_index.specs.Spans.{points_between}
use Rattle.tql_index.proofs.Finding.{in_period}
use Rattle.tql_index.proofs.Forms.{searched_more, searched_all, searched_late, is_late, late_start}
use Rattle.tql_index.proofs.slots.find_in_groups.Goals as goal

pub loop-slot-preserved : goal.loop-slot-preserved
loop-slot-preserved c =
    let x = points_between c.args.from c.args.to in
    let ss = c.args.groups.now in
    let n = c.loop-slot.slot-index in
    let s = get_or ss n (record { group = pos 0; id = 0 }) in
    let xs = c.loop-slot.found.items in
    searched_more entry_of_group (λ (e : Entry). share_a_point e.period x) ss n s c.shares.result
    c.args.found.now.items xs c.push_if.new.found.items c.loop-slot.invariant
    (get_or_default ss n _ s c.loop-slot-test.true) c.loop-slot-test.true
    (c.shares.ensures ∙ ap (λ (e : Entry). share_a_point e.period x) c.slot-whole.ensures)
    (c.in_ok-push_if.ensures.ok ∙ ap (λ (e : Entry). xs ++ id_if c.shares.result e.id) c.slot-whole.ensures)

pub returns-then-not-is_before-clause-found : goal.returns-then-not-is_before-clause-found
returns-then-not-is_before-clause-found c =
    let x = points_between c.args.from c.args.to in
    let ss = c.args.groups.now in
    let n = c.loop-slot.slot-index in
    let s = get_or ss n (record { group = pos 0; id = 0 }) in
    let b = late_start (place_of c.start.result) (place_of c.args.to) (entry_of_group s).period.start
    (sym c.is_before.ensures ∙ c.if-not-is_before.true)
    (c.start.ensures ∙ ap (λ (e : Entry). e.period.start) c.slot-whole.ensures) in
    searched_late entry_of_group (λ (e : Entry). share_a_point e.period x) x.end ss n s c.args.found.now.items
    c.loop-slot.found.items ((in_period x).starts_before) c.requires c.loop-slot.invariant
    (get_or_default ss n _ s c.loop-slot-test.true) c.loop-slot-test.true b

pub returns-then-not-is_before-clause-late : goal.returns-then-not-is_before-clause-late
returns-then-not-is_before-clause-late c =
    let ss = c.args.groups.now in
    let n = c.loop-slot.slot-index in
    let s = get_or ss n (record { group = pos 0; id = 0 }) in
    is_late entry_of_group (place_of c.args.to) ss n s (get_or_default ss n _ s c.loop-slot-test.true)
    c.loop-slot-test.true
    (late_start (place_of c.start.result) (place_of c.args.to) (entry_of_group s).period.start
    (sym c.is_before.ensures ∙ c.if-not-is_before.true)
    (c.start.ensures ∙ ap (λ (e : Entry). e.period.start) c.slot-whole.ensures))

pub returns-clause-found : goal.returns-clause-found
returns-clause-found c =
    let x = points_between c.args.from c.args.to in
    searched_all entry_of_group (λ (e : Entry). share_a_point e.period x) c.args.groups.now c.loop-slot.slot-index
    c.args.found.now.items c.loop-slot.found.items c.loop-slot.invariant c.loop-slot-test.false
