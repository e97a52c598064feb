-- A branch that is taken out of a tree and changed.
use Rattle.std.specs.Prelude.{◌≡◌}
use Rattle.std.proofs.Common.{sym, subst}
use Rattle.tql_index.specs.Tree.{Contents}
use Rattle.tql_tree_index.specs.Nodes.{IsTop}
use Rattle.tql_tree_index.specs.declared.tree.Branch.{Branch}

-- the same branch under another name
pub named_top : {A : Type 0} (tree : Contents) (a b : Branch A) → b ≡ a → IsTop tree a → IsTop tree b
named_top {A} tree a b e h = subst (λ (x : Branch A). IsTop tree x) (sym e) h
