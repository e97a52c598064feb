-- The first empty slot is filled, or a run takes the number.
use Rattle.std.proofs.Common.{◌≡◌, ◌∙◌, ap, length, arith, set, subst, sym, suc, true}
use Rattle.std.specs.Prelude.{Some}
use Rattle.tql_exec_numbered.specs.Runs.{numbers_in}
use Rattle.tql_exec_numbered.specs.Slots.{first_place, free_from, is_kept}
use Rattle.std.proofs.lemmas.Result.{on_ok_weaker}
use Rattle.tql_exec_numbered.proofs.Placed.{kept_in_run, kept_in_slot, kept_more, still_kept}
use Rattle.tql_exec_numbered.proofs.numbered.file.Goals as goal

pub returns-in-Some-Ok-clause-filed : goal.returns-in-Some-Ok-clause-filed
returns-in-Some-Ok-clause-filed c =
    let slots = c.args.slots.now.items in
    let runs = numbers_in c.args.runs.now.items in
    let from = first_place (length slots) c.args.digest in
    let found : free_from 32 slots from ≡ Some c.in-Some-Ok.at =
    ap (λ xs. free_from 32 xs (first_place (length xs) c.args.digest)) (sym c.as_slice.ensures.value)
    ∙ sym c.free_place.ensures.found ∙ c.in-Some-Ok.is-0 in
    let more : suc c.args.number ≡ c.in-Some-Ok.slot = omega (arith, c.in-Some-Ok.ensures'.1) in
    subst (λ v. is_kept (set slots c.in-Some-Ok.at v) runs from c.args.number ≡ true) more
    (kept_in_slot slots runs from c.in-Some-Ok.at c.args.number found)

pub returns-in-Some-Ok-clause-kept : goal.returns-in-Some-Ok-clause-kept
returns-in-Some-Ok-clause-kept c = λ at n h.
    let slots = c.args.slots.now.items in
    let runs = numbers_in c.args.runs.now.items in
    let from = first_place (length slots) c.args.digest in
    let found : free_from 32 slots from ≡ Some c.in-Some-Ok.at =
    ap (λ xs. free_from 32 xs (first_place (length xs) c.args.digest)) (sym c.as_slice.ensures.value)
    ∙ sym c.free_place.ensures.found ∙ c.in-Some-Ok.is-0 in
    let more : suc c.args.number ≡ c.in-Some-Ok.slot = omega (arith, c.in-Some-Ok.ensures'.1) in
    subst (λ v. is_kept (set slots c.in-Some-Ok.at v) runs at n ≡ true) more
    (still_kept slots runs from c.in-Some-Ok.at c.args.number found at n h)

pub returns-in_default-clause-filed : goal.returns-in_default-clause-filed
returns-in_default-clause-filed c =
    let slots = c.args.slots.now.items in
    on_ok_weaker c.add.result
    (kept_in_run slots (numbers_in c.add.new.runs.items) (first_place (length slots) c.args.digest) c.args.number)
    c.add.ensures.added

pub returns-in_default-clause-kept : goal.returns-in_default-clause-kept
returns-in_default-clause-kept c = λ at n.
    let slots = c.args.slots.now.items in
    kept_more slots slots (numbers_in c.args.runs.now.items) (numbers_in c.add.new.runs.items) at n (λ e. e)
    (c.add.ensures.kept n)
