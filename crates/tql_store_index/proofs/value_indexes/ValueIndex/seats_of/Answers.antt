use Rattle.std.proofs.Common.{ap, sym, subst, IfOk, option_map}
use Rattle.tql_spec.specs.Bag.{SameBag}
use Rattle.tql_period.specs.Points.{points_of}
use Rattle.tql_store_index.specs.Basis.{Sought, meets, sought_of}
use Rattle.tql_store_index.specs.Standing.{passes, seats_if}
use Rattle.tql_store_index.specs.declared.basis.Sought as asked
use Rattle.tql_store_index.proofs.value_indexes.ValueIndex.seats_of.Goals as goal

pub returns-in-WithIn : goal.returns-in-WithIn
returns-in-WithIn g c =
    subst (λ (s : Sought). IfOk c.seats_within.result (λ seats. SameBag seats.items (seats_if
    (passes (meets c.args.self.now.basis s (option_map points_of c.args.during))) 0 c.args.self.now.standing)))
    (sym (ap (λ (s : asked.Sought). sought_of s) c.in-WithIn.is)) c.seats_within.ensures
