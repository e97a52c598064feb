use Rattle.std.proofs.Common.{arith}
use Rattle.tql_index.proofs.Bags.{length_of_one_more}
use Rattle.tql_tree_index.proofs.tree_index.TreeIndexIntervalIndex.add_span.Goals as goal

pub insert-requires : goal.insert-requires
insert-requires c =
    let h = c.know.ensures.shallow 64 (omega (arith, c.self.invariant)) in
    omega (arith, h)

pub invariant_of-self-2 : goal.invariant_of-self-2
invariant_of-self-2 c =
    omega (arith, length_of_one_more _ _ _ c.in_ok-insert.ensures.added, c.self.invariant, c.in_ok-counted.ensures)
