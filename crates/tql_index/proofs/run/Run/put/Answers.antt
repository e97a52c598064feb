use Rattle.std.specs.Prelude.{◌∷◌, List, length}
use Rattle.std.proofs.Common.{arith, ap, subst, ◌∙◌}
use Rattle.tql_spec.specs.Bag.{SameBag}
use Rattle.tql_index.specs.Entry.{Entry}
use Rattle.tql_index.specs.Line.{place_of}
use Rattle.tql_index.specs.Slots.{entry_of}
use Rattle.tql_index.proofs.Bags.{length_of_one_more}
use Rattle.tql_index.proofs.Greatest.{greatest_more}
use Rattle.tql_index.proofs.Runs.{inserted_order, inserted_bag}
use Rattle.tql_index.proofs.run.Run.put.Goals as goal

pub invariant_of-self-2 : goal.invariant_of-self-2
invariant_of-self-2 g c =
    let es = c.self.inside.slots in
    let fs = c.insert.new.self in
    let e = entry_of c.args.slot in
    let k = c.place_in-place.result in
    let s : SameBag fs (e ∷ es) = rw c.in_ok-insert.ensures.inserted (inserted_bag e es k) in (
      record {
        in_order = rw c.in_ok-insert.ensures.inserted
            (inserted_order e es k c.place_in-place.ensures c.self.invariant.0.in_order);
        few = omega (arith, length_of_one_more e fs es s, ap length c.self.view_is, c.requires);
        greatest_is = ap place_of c.ends_of-self-inside.ensures.greatest ∙ c.later-greatest.ensures
            ∙ greatest_more e es fs (place_of c.self.inside.ends.greatest) (place_of c.end.result)
            c.self.invariant.0.greatest_is c.end.ensures s;
      },
      c.ends_of-self-inside.ensures.ends,
    )

pub returns-clause-added : goal.returns-clause-added
returns-clause-added g c =
    let es = c.self.inside.slots in
    let e = entry_of c.args.slot in
    subst (λ (z : List Entry). SameBag c.insert.new.self (e ∷ z)) c.self.view_is
    (rw c.in_ok-insert.ensures.inserted (inserted_bag e es c.place_in-place.result))
