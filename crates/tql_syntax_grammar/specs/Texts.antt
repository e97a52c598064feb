-- The law of a text: it spells at most one statement.
use Rattle.std.specs.Prelude.{◌≡◌, ℕ, List}
use Rattle.tql_spec.specs.Syntax as tree
use Rattle.tql_spec.specs.Run.{IsDeep, IsTextOf}

-- the law: a text that spells a statement spells no other, and is not nested too deep
pub record SpellsAlone (text : List ℕ) (s : tree.Statement) : Type 0 where
  pub shallow : ¬ IsDeep text
  pub alone : (t : tree.Statement) → IsTextOf text t → t ≡ s

abbrev pub HasOneStatement : Type 0
HasOneStatement = (text : List ℕ) (s : tree.Statement) → IsTextOf text s → SpellsAlone text s
