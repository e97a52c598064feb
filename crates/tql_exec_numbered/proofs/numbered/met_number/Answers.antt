-- A slot is empty, or has the number of another row.
use borrow.Author.Tests.{ltb-true, ltb-false}
use Rattle.std.proofs.Common.{◌≡◌, ◌+◌, ◌-◌, ◌<◌, ap, arith, length, refl, subst, sym, ◌∙◌}
use Rattle.std.specs.Prelude.{Some, false, slice_get, true}
use Rattle.std.proofs.lemmas.Option.{slice_get_past, slice_get_read}
use Rattle.tql_exec_numbered.specs.Numbered.{seen}
use Rattle.tql_exec_numbered.specs.Slots.{is_reached}
use Rattle.tql_exec_numbered.proofs.Slots.{end_reached, next_reached, none_reached, one_less}
use Rattle.tql_exec_numbered.proofs.numbered.met_number.Goals as goal

pub returns-in_default-clause-none : goal.returns-in_default-clause-none
returns-in_default-clause-none c = λ n got.
    let slots = c.args.slots.now in
    let at = c.loop-step.at in
    let more = 32 - c.loop-step._step in
    let some : 0 < more = omega (arith, c.loop-step-test.true) in
    let k = c.in_default.ensures.lookup in
    c.loop-step.invariant n got
    ∙ end_reached slots more at n some (slice_get_past slots at (ltb-false at (length slots) (sym k.0)))

pub returns-then-slot-eq0-clause-none : goal.returns-then-slot-eq0-clause-none
returns-then-slot-eq0-clause-none c = λ n got.
    let slots = c.args.slots.now in
    let at = c.loop-step.at in
    let more = 32 - c.loop-step._step in
    let some : 0 < more = omega (arith, c.loop-step-test.true) in
    let k = c.in-Some.ensures.lookup in
    let here : slice_get slots at ≡ Some c.in-Some.slot.now =
    slice_get_read slots (length slots) at c.in-Some.slot.now refl (ltb-true at (length slots) (sym k.0)) k.1 in
    c.loop-step.invariant n got ∙ none_reached slots more at n some (here ∙ ap Some c.if-slot-eq0.true)

pub loop-step-preserved : goal.loop-step-preserved
loop-step-preserved c = λ n got.
    let slots = c.args.slots.now in
    let at = c.loop-step.at in
    let slot = c.in-Some.slot.now in
    let more = 32 - c.loop-step._step in
    let some : 0 < more = omega (arith, c.loop-step-test.true) in
    let full : 0 < slot = omega (arith, c.if-slot-eq0.false) in
    let k = c.in-Some.ensures.lookup in
    let here : slice_get slots at ≡ Some slot =
    slice_get_read slots (length slots) at slot refl (ltb-true at (length slots) (sym k.0)) k.1 in
    let less : more - 1 ≡ 32 - (c.loop-step._step + 1) = omega arith in
    c.loop-step.invariant n got
    ∙ next_reached slots more at (slot - 1) n some (here ∙ ap Some (one_less slots slot full))
    (λ same.
    let there : c.agrees_at.result ≡ true =
    c.agrees_at.ensures.1
    (subst (λ m. slice_get c.args.rows.now m ≡ Some (seen c.args.row.now)) (sym same) got) in
    let not : c.agrees_at.result ≡ false = c.if-agrees_at.false in
    cc)
    ∙ ap (λ m. is_reached m slots (at + 1) n) less
