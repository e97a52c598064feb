use Rattle.std.specs.Prelude.{◌∷◌, ◌<◌, List, length, Contains}
use Rattle.std.proofs.Common.{arith, ap, refl, sym, subst, ◌∙◌}
use Rattle.tql_spec.specs.Bag.{SameBag}
use Rattle.tql_index.specs.Entry.{Entry}
use Rattle.tql_index.specs.Line.{place_of}
use Rattle.tql_index.specs.Slots.{entry_of}
use Rattle.tql_index.proofs.Bags.{length_of_one_more}
use Rattle.tql_index.proofs.Runs.{is_found, not_found, not_placed, removed_bag, removed_order}
use Rattle.tql_index.proofs.run.Run.remove.Goals.{then-place-len-via-then-place-len}
use Rattle.tql_index.proofs.run.Run.remove.Goals.{then-place-len-via-else-place-len+then-not-is_eq}
use Rattle.tql_index.proofs.run.Run.remove.Goals as goal

pub returns-then-place-len : goal.returns-then-place-len
returns-then-place-len g c =
    let es = c.self.inside.slots in
    let k = c.place_in-place.result in
    let e = entry_of c.args.slot in
    elim c.then-place-len.branch [
      | then-place-len-via-then-place-len w ↦ (
        refl,
        λ m. not_placed e es k c.place_in-place.ensures c.self.invariant.0.in_order
            (λ l f. absurd (omega (arith, l, w.if-place-len.true, c.len.ensures)))
            (subst (λ (z : List Entry). Contains z e) (sym c.self.view_is) m),
      )
      | then-place-len-via-else-place-len+then-not-is_eq w ↦ (
        refl,
        λ m. not_placed e es k c.place_in-place.ensures c.self.invariant.0.in_order
            (λ l f. not_found es k (entry_of w.at.result) e w.compare.result (w.at.ensures e)
            w.compare.ensures (sym w.is_eq.ensures ∙ w.if-not-is_eq.true) f)
            (subst (λ (z : List Entry). Contains z e) (sym c.self.view_is) m),
      )
    ]

pub invariant_of-self : goal.invariant_of-self
invariant_of-self g c =
    let es = c.self.inside.slots in
    let fs = c.remove.new.self in
    let k = c.place_in-place.result in
    let e = entry_of c.args.slot in
    let w = c.place_in-place.ensures.within in
    let l : k < length es = first_of (
      omega (arith, w, c.if-place-len.false, c.len.ensures),
      grind (arith, w, c.if-place-len.false, c.len.ensures),
    ) in
    let f = is_found es k (entry_of c.at.result) e c.compare.result (c.at.ensures e) c.compare.ensures
    (sym c.is_eq.ensures ∙ c.if-not-is_eq.false) in
    let s : SameBag es (e ∷ fs) = rw c.remove.ensures (removed_bag e es k l f) in (
      record {
        in_order = rw c.remove.ensures (removed_order es k e l c.self.invariant.0.in_order);
        few = omega (arith, length_of_one_more e es fs s, c.self.invariant.0.few);
        greatest_is = ap place_of c.ends_of-self-inside.ensures.greatest ∙ c.last_end.ensures;
      },
      c.ends_of-self-inside.ensures.ends,
    )

pub returns : goal.returns
returns g c =
    let es = c.self.inside.slots in
    let k = c.place_in-place.result in
    let e = entry_of c.args.slot in
    let w = c.place_in-place.ensures.within in
    let l : k < length es = first_of (
      omega (arith, w, c.if-place-len.false, c.len.ensures),
      grind (arith, w, c.if-place-len.false, c.len.ensures),
    ) in
    let f = is_found es k (entry_of c.at.result) e c.compare.result (c.at.ensures e) c.compare.ensures
    (sym c.is_eq.ensures ∙ c.if-not-is_eq.false) in
    subst (λ (z : List Entry). SameBag z (e ∷ c.remove.new.self)) c.self.view_is
    (rw c.remove.ensures (removed_bag e es k l f))
