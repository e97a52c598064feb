-- The first empty slot is here, later or nowhere.
use borrow.Author.Tests.{ltb-true, ltb-false}
use Rattle.std.proofs.Common.{◌≡◌, ◌+◌, ◌-◌, ◌<◌, ap, arith, length, refl, sym, ◌∙◌}
use Rattle.std.specs.Prelude.{Some, slice_get}
use Rattle.std.proofs.lemmas.Option.{slice_get_past, slice_get_read}
use Rattle.tql_exec_numbered.specs.Slots.{free_from}
use Rattle.tql_exec_numbered.proofs.Slots.{free_here, free_later, free_nowhere, one_less}
use Rattle.tql_exec_numbered.proofs.numbered.free_place.Goals as goal

pub returns-in_default-clause-found : goal.returns-in_default-clause-found
returns-in_default-clause-found c =
    let slots = c.args.slots.now in
    let at = c.loop-step.at in
    let more = 32 - c.loop-step._step in
    let some : 0 < more = omega (arith, c.loop-step-test.true) in
    let k = c.in_default.ensures.lookup in
    sym (free_nowhere slots more at some (slice_get_past slots at (ltb-false at (length slots) (sym k.0))))
    ∙ c.loop-step.invariant

pub returns-then-slot-eq0-clause-found : goal.returns-then-slot-eq0-clause-found
returns-then-slot-eq0-clause-found c =
    let slots = c.args.slots.now in
    let at = c.loop-step.at in
    let more = 32 - c.loop-step._step in
    let some : 0 < more = omega (arith, c.loop-step-test.true) in
    let k = c.in-Some.ensures.lookup in
    let here : slice_get slots at ≡ Some c.in-Some.slot.now =
    slice_get_read slots (length slots) at c.in-Some.slot.now refl (ltb-true at (length slots) (sym k.0)) k.1 in
    sym (free_here slots more at some (here ∙ ap Some c.if-slot-eq0.true)) ∙ c.loop-step.invariant

pub loop-step-preserved : goal.loop-step-preserved
loop-step-preserved c =
    let slots = c.args.slots.now in
    let at = c.loop-step.at in
    let slot = c.in-Some.slot.now in
    let more = 32 - c.loop-step._step in
    let some : 0 < more = omega (arith, c.loop-step-test.true) in
    let full : 0 < slot = omega (arith, c.if-slot-eq0.false) in
    let k = c.in-Some.ensures.lookup in
    let here : slice_get slots at ≡ Some slot =
    slice_get_read slots (length slots) at slot refl (ltb-true at (length slots) (sym k.0)) k.1 in
    let less : 32 - (c.loop-step._step + 1) ≡ more - 1 = omega arith in
    ap (λ m. free_from m slots (at + 1)) less
    ∙ sym (free_later slots more at (slot - 1) some (here ∙ ap Some (one_less slots slot full))) ∙ c.loop-step.invariant
