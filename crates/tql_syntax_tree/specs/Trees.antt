-- The pure tree that a whole statement represents.
use Rattle.tql_spec.specs.Syntax as tree
use Rattle.tql_syntax_tree.specs.Statements.{statement_of}
use Rattle.tql_syntax_tree.specs.declared.tree.Tree.{Tree}

abbrev pub tree_of : Tree → tree.Statement
tree_of t = statement_of t.statement
