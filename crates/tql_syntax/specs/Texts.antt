-- What the result of parsing says about a statement's text.
use Rattle.std.specs.Prelude.{◌≤◌, ◌<◌, ℕ, List, length, Result, Ok, Err, IsUtf8, ⊤}
use Rattle.tql_spec.specs.Syntax as tree
use Rattle.tql_spec.specs.Run.{IsWhole, IsDeep, IsTextOf, finished}
use Rattle.tql_value.specs.declared.refusal.Refusal.{Refusal}
use Rattle.tql_value.specs.declared.refusal.Refusal.TheVariants.{StatementTooLong, NotUtf8, NestedTooDeep}
use Rattle.tql_value.specs.declared.refusal.Refusal.TheVariants.{NotAStatement, OutOfMemory}
use Rattle.tql_syntax_tree.specs.Trees.{tree_of}
use Rattle.tql_syntax_tree.specs.declared.tree.Tree.{Tree}

-- the text spells no statement
abbrev pub SpellsNoStatement : List ℕ → Type 0
SpellsNoStatement text = (s : tree.Statement) → IsTextOf text s → ⊥

-- the result is the statement that the text spells, or says that it is nested too deep or spells none, or that memory
-- ran out
abbrev pub SpellsText : List ℕ → Result Tree Refusal → Type 0
SpellsText text (Ok s) = IsTextOf text (tree_of s)
SpellsText text (Err NestedTooDeep) = IsDeep text
SpellsText text (Err NotAStatement) = ¬ IsDeep text × SpellsNoStatement text
SpellsText text (Err OutOfMemory) = ⊤
SpellsText text (Err _) = ⊥

-- the same for any bytes; a fault is reported only if none of the earlier faults is present
abbrev pub ReadsText : List ℕ → Result Tree Refusal → Type 0
ReadsText text (Ok s) = IsWhole (finished text) × IsTextOf text (tree_of s)
ReadsText text (Err StatementTooLong) = 1_048_576 < length text
ReadsText text (Err NotUtf8) = (length text ≤ 1_048_576) × ¬ IsUtf8 text
ReadsText text (Err NestedTooDeep) = IsWhole (finished text) × IsDeep text
ReadsText text (Err NotAStatement) = IsWhole (finished text) × ¬ IsDeep text × SpellsNoStatement text
ReadsText text (Err OutOfMemory) = ⊤
ReadsText text (Err _) = ⊥
