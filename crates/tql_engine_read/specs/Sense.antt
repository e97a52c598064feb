-- The meaning of a statement's text.
use Rattle.std.specs.Prelude.{ℕ, List, Result, Ok, Err, ⊤}
use Rattle.tql_spec.specs.Run.{Says, Faulty, HasSense, finished}
use Rattle.tql_syntax_tree.specs.Trees.{tree_of}
use Rattle.tql_syntax_tree.specs.declared.tree.Tree.{Tree}
use Rattle.tql_value.specs.Refusals.{refusal_of}
use Rattle.tql_value.specs.declared.refusal.Refusal.{Refusal}
use Rattle.tql_value.specs.declared.refusal.Refusal.TheVariants.{OutOfMemory}

-- the statement of a finished text, or the fault of the text
abbrev pub ReadsAs : List ℕ → Result Tree Refusal → Type 0
ReadsAs text (Ok s) = HasSense (finished text) (Says (tree_of s))
ReadsAs text (Err OutOfMemory) = ⊤
ReadsAs text (Err e) = HasSense (finished text) (Faulty (refusal_of e))
