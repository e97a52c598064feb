use Rattle.std.specs.Prelude.{◌-◌, List, length}
use Rattle.std.specs.declared.cmp.Ordering.TheVariants.{Less, Equal, Greater}
use Rattle.std.proofs.Common.{arith, ap, sym, subst, ◌∙◌}
use Rattle.tql_index.specs.Entry.{Entry}
use Rattle.tql_index.specs.Slots.{entry_of}
use Rattle.tql_index.specs.Tree.{IsSide}
use Rattle.tql_index.proofs.Runs.{side_less, side_greater, side_within}
use Rattle.tql_index.proofs.run.Run.side.Goals as goal

pub returns-then-is_lt : goal.returns-then-is_lt
returns-then-is_lt g c =
    let e = entry_of c.args.slot in
    subst (λ (es : List Entry). IsSide Less e es) c.self.view_is
    (side_less e c.self.inside.slots (entry_of c.self.inside.ends.first) c.compare.result
    c.self.invariant.0.in_order c.self.invariant.1.first_is c.compare.ensures
    (sym c.is_lt.ensures ∙ c.if-is_lt.true))

pub returns-then-is_lt-2 : goal.returns-then-is_lt-2
returns-then-is_lt-2 g c =
    let es = c.self.inside.slots in
    let e = entry_of c.args.slot in
    subst (λ (z : List Entry). IsSide Greater e z) c.self.view_is
    (side_greater e es (entry_of c.self.inside.ends.last) (length es - 1) c.compare-else-is_lt.result
    c.self.invariant.0.in_order c.self.invariant.1.last_is (omega (arith, c.requires, ap length c.self.view_is))
    c.compare-else-is_lt.ensures (sym c.is_lt-else-is_lt.ensures ∙ c.if-is_lt-2.true))

pub returns-else-is_lt-2 : goal.returns-else-is_lt-2
returns-else-is_lt-2 g c =
    let es = c.self.inside.slots in
    let e = entry_of c.args.slot in
    subst (λ (z : List Entry). IsSide Equal e z) c.self.view_is
    (side_within e es (entry_of c.self.inside.ends.first) (entry_of c.self.inside.ends.last) (length es - 1)
    c.compare.result c.compare-else-is_lt.result c.self.invariant.1.first_is c.self.invariant.1.last_is
    (omega (arith, c.requires, ap length c.self.view_is)) c.compare.ensures
    (sym c.is_lt.ensures ∙ c.if-is_lt.false) c.compare-else-is_lt.ensures
    (sym c.is_lt-else-is_lt.ensures ∙ c.if-is_lt-2.false))
