use Rattle.tql_index.proofs.Branches.{made}
use Rattle.tql_tree_index.proofs.tree.hold.Goals as goal

pub invariant_of-result : goal.invariant_of-result
invariant_of-result g c =
    made _ _ _ _ _ c.requires.some (rw c.deref-2.ensures at c.know-2.ensures.few) c.requires.in_order
    c.requires.balanced (rw c.deref.ensures at c.know.ensures.shallow)
    (rw c.deref-3.ensures at c.know-3.ensures.shallow) (rw c.deref.ensures at c.know.ensures.deep)
    (rw c.deref-3.ensures at c.know-3.ensures.deep) c.requires.height c.requires.greatest
