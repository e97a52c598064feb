-- The model of the trees of the code, level by level.
use Rattle.std.specs.Prelude.{◌≡◌, ◌+◌, ◌<◌, max, List, [], ◌++◌, length}
use Rattle.tql_index.specs.Entry.{Entry}
use Rattle.tql_index.specs.Line.{place_of}
use Rattle.tql_index.specs.Tree.{Contents, IsBranch, DifferByAtMost}
use Rattle.tql_tree_index.specs.declared.tree.Branch.{Branch}
use Rattle.tql_tree_index.specs.declared.tree.Parts.{Parts}
use Rattle.tql_tree_index.specs.declared.tree.Root.{Root}
use Rattle.tql_tree_index.specs.declared.tree.Root.TheVariants.{Empty, At}

-- the entries of a branch and its sides, in order
abbrev pub entries_below : {A : Type 0} → Branch A → List Entry
entries_below b = b.left.entries ++ (b.run ++ b.right.entries)

-- the entries and the height of a tree with this root
abbrev pub contents_of : {A : Type 0} → Root A → Contents
contents_of Empty = record { entries = []; height = 0 }
contents_of (At h b) = record { entries = entries_below b.value; height = h }

-- the invariant of the root of a tree
abbrev pub IsTree : {A : Type 0} → Root A → Type 0
IsTree Empty = Unit {0}
IsTree (At h b) = IsBranch b.value.left b.value.run h (place_of b.value.greatest) b.value.right

-- the parts of a tree that was split at its top
pub record IsParted {A : Type 0} (tree : Contents) (parts : Parts A) : Type 0 where
  pub entries : tree.entries ≡ parts.left.entries ++ (parts.top.value.run ++ parts.right.entries)
  pub height : tree.height ≡ max parts.left.height parts.right.height + 1
  pub some : 0 < length parts.top.value.run
  pub balanced : DifferByAtMost 1 parts.left.height parts.right.height

-- the top branch of a tree
pub record IsTop {A : Type 0} (tree : Contents) (top : Branch A) : Type 0 where
  pub entries : tree.entries ≡ entries_below top
  pub branch : IsBranch top.left top.run tree.height (place_of top.greatest) top.right
