use Rattle.std.specs.Prelude.{◌≡◌, ◌∷◌, ◌++◌, List, length}
use Rattle.std.specs.List.{remove}
use Rattle.std.proofs.Common.{arith, ap, length-append, subst, sym, ◌∙◌}
use Rattle.tql_spec.specs.Bag.{SameBag}
use Rattle.tql_index.specs.Entry.{Entry}
use Rattle.tql_index.specs.Line.{place_of}
use Rattle.tql_index.specs.Slots.{entry_of, HasEnds}
use Rattle.tql_index.specs.Tree.{IsInOrder, IsRun}
use Rattle.tql_index.proofs.Bags.{length_of_one_more}
use Rattle.tql_index.proofs.Inversions.{order_left, order_right}
use Rattle.tql_index.proofs.Runs.{inserted_order, inserted_bag, remove-insert}
use Rattle.tql_index.proofs.run.Run.put_halved.Goals as goal

pub returns-clause-added : goal.returns-clause-added
returns-clause-added g c =
    let es = c.self.inside.slots in
    let e = entry_of c.args.slot in
    let s : SameBag c.insert.new.self (e ∷ es) =
    rw c.in_ok-insert.ensures.inserted (inserted_bag e es c.place_in-place.result) in
    subst (λ (z : List Entry). SameBag (c.halve.new.self ++ c.in-Ok.half) (e ∷ z)) c.self.view_is
    (subst (λ (z : List Entry). SameBag z (e ∷ es)) c.in-Ok.ensures.halved s)

pub returns-clause-in_order : goal.returns-clause-in_order
returns-clause-in_order g c =
    let es = c.self.inside.slots in
    let e = entry_of c.args.slot in
    let k = c.place_in-place.result in
    let o : IsInOrder c.insert.new.self = rw c.in_ok-insert.ensures.inserted
    (inserted_order e es k c.place_in-place.ensures c.self.invariant.0.in_order) in
    subst (λ (z : List Entry). IsInOrder z) c.in-Ok.ensures.halved o

pub invariant_of-self-2 : goal.invariant_of-self-2
invariant_of-self-2 g c =
    let es = c.self.inside.slots in
    let ts = c.insert.new.self in
    let low = c.halve.new.self in
    let up = c.in-Ok.half in
    let e = entry_of c.args.slot in
    let k = c.place_in-place.result in
    let s : SameBag ts (e ∷ es) = rw c.in_ok-insert.ensures.inserted (inserted_bag e es k) in
    let o : IsInOrder ts = rw c.in_ok-insert.ensures.inserted
    (inserted_order e es k c.place_in-place.ensures c.self.invariant.0.in_order) in (
      record {
        in_order = order_left low up (subst (λ (z : List Entry). IsInOrder z) c.in-Ok.ensures.halved o);
        few = omega (arith, length_of_one_more e ts es s, c.in-Ok.ensures.lower, c.self.invariant.0.few);
        greatest_is = ap place_of c.ends_of-self-inside.ensures.greatest ∙ c.last_end.ensures;
      },
      c.ends_of-self-inside.ensures.ends,
    )

pub invariant_of-upper : goal.invariant_of-upper
invariant_of-upper g c =
    let es = c.self.inside.slots in
    let ts = c.insert.new.self in
    let low = c.halve.new.self in
    let up = c.in-Ok.half in
    let e = entry_of c.args.slot in
    let k = c.place_in-place.result in
    let s : SameBag ts (e ∷ es) = rw c.in_ok-insert.ensures.inserted (inserted_bag e es k) in
    let o : IsInOrder ts = rw c.in_ok-insert.ensures.inserted
    (inserted_order e es k c.place_in-place.ensures c.self.invariant.0.in_order) in (
      record {
        in_order = order_right low up (subst (λ (z : List Entry). IsInOrder z) c.in-Ok.ensures.halved o);
        few = omega (
          arith,
          length_of_one_more e ts es s,
          c.in-Ok.ensures.lower,
          c.self.invariant.0.few,
          ap length c.in-Ok.ensures.halved,
          length-append low up,
        );
        greatest_is = ap place_of c.ends_of-upper-inside.ensures.greatest ∙ c.last_end-2.ensures;
      },
      c.ends_of-upper-inside.ensures.ends,
    )

pub invariant_of-self-in-Err : goal.invariant_of-self-in-Err
invariant_of-self-in-Err g c =
    let es = c.self.inside.slots in
    let k = c.place_in-place.result in
    let same : c.remove.new.self ≡ es =
    c.remove.ensures
    ∙ ap (λ (z : List Entry). remove z k) (c.in-Err.ensures.unchanged ∙ c.in_ok-insert.ensures.inserted)
    ∙ remove-insert es k (entry_of c.args.slot) c.place_in-place.ensures.within in
    subst (λ (z : List Entry). IsRun z (place_of c.self.inside.ends.greatest)
    × HasEnds z (entry_of c.self.inside.ends.first) (entry_of c.self.inside.ends.last)) (sym same) c.self.invariant

pub returns-in-Err-clause-unchanged : goal.returns-in-Err-clause-unchanged
returns-in-Err-clause-unchanged g c =
    let es = c.self.inside.slots in
    let k = c.place_in-place.result in
    c.remove.ensures
    ∙ ap (λ (z : List Entry). remove z k) (c.in-Err.ensures.unchanged ∙ c.in_ok-insert.ensures.inserted)
    ∙ remove-insert es k (entry_of c.args.slot) c.place_in-place.ensures.within ∙ c.self.view_is
