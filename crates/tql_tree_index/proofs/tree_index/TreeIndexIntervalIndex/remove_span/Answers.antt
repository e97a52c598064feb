use Rattle.std.proofs.Common.{arith, ap, sym, ◌∙◌, length}
use Rattle.tql_index.proofs.Bags.{length_of_one_more}
use Rattle.tql_tree_index.proofs.tree_index.TreeIndexIntervalIndex.remove_span.Goals.{then-found, else-found}
use Rattle.tql_tree_index.proofs.tree_index.TreeIndexIntervalIndex.remove_span.Goals as goal

pub remove-found-requires : goal.remove-found-requires
remove-found-requires c =
    let h = c.know.ensures.shallow 64 (omega (arith, c.self.invariant)) in
    omega (arith, h)

pub overflow_sub-count : goal.overflow_sub-count
overflow_sub-count c =
    let e = rw c.if-found.true at c.remove-found.ensures.entries in
    omega (arith, length_of_one_more _ _ _ e, c.self.invariant)

pub invariant_of-self-2 : goal.invariant_of-self-2
invariant_of-self-2 c = elim c.if-found.branch [
  | then-found w ↦
      let e = rw w.if-found.true at c.remove-found.ensures.entries in
      rw w.self-inside-is (omega (arith, length_of_one_more _ _ _ e, c.self.invariant))
  | else-found w ↦
      let e = rw w.if-found.false at c.remove-found.ensures.entries in
      rw w.self-inside-is (c.self.invariant ∙ ap length (sym e.0))
]
