-- What the result of parsing says about the tokens.
use Rattle.std.specs.Prelude.{◌≤◌, ◌<◌, IsTrue, IsFalse, List, Result, Ok, Err, ⊤}
use Rattle.tql_spec.specs.Token.{Token, depth}
use Rattle.tql_spec.specs.Syntax as tree
use Rattle.tql_spec.specs.Syntax.{is_too_wide}
use Rattle.tql_spec.specs.Grammar.{IsStatement}
use Rattle.tql_value.specs.declared.refusal.Refusal.{Refusal}
use Rattle.tql_value.specs.declared.refusal.Refusal.TheVariants.{NestedTooDeep, NotAStatement, TooManyColumnsOrTables}
use Rattle.tql_value.specs.declared.refusal.Refusal.TheVariants.{OutOfMemory}
use Rattle.tql_syntax_tree.specs.Trees.{tree_of}
use Rattle.tql_syntax_tree.specs.declared.tree.Tree.{Tree}

-- the whole token list spells the statement, which is within the limits
pub record IsParsed (ts : List Token) (s : tree.Statement) : Type 0 where
  pub shallow : depth ts ≤ 64
  pub spelled : IsStatement s ts
  pub narrow : IsFalse (is_too_wide s)

-- the tokens spell no statement
abbrev pub SpellsNone : List Token → Type 0
SpellsNone ts = (s : tree.Statement) → IsStatement s ts → ⊥

-- the tokens spell a statement that is too wide
abbrev pub SpellsWide : List Token → Type 0
SpellsWide ts = (s : tree.Statement) × IsStatement s ts × IsTrue (is_too_wide s)

-- what the result says about the tokens, without limits on the width
abbrev pub Spells : List Token → Result Tree Refusal → Type 0
Spells ts (Ok s) = (depth ts ≤ 64) × IsStatement (tree_of s) ts
Spells ts (Err NestedTooDeep) = 64 < depth ts
Spells ts (Err NotAStatement) = (depth ts ≤ 64) × SpellsNone ts
Spells ts (Err OutOfMemory) = ⊤
Spells ts (Err _) = ⊥

-- what the result says about the tokens
abbrev pub Parses : List Token → Result Tree Refusal → Type 0
Parses ts (Ok s) = IsParsed ts (tree_of s)
Parses ts (Err NestedTooDeep) = 64 < depth ts
Parses ts (Err NotAStatement) = (depth ts ≤ 64) × SpellsNone ts
Parses ts (Err TooManyColumnsOrTables) = (depth ts ≤ 64) × SpellsWide ts
Parses ts (Err OutOfMemory) = ⊤
Parses ts (Err _) = ⊥
