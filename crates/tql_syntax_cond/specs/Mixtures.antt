-- What the code's `Mixed` values represent.
use Rattle.tql_syntax_grammar.specs.ReadingExpressions as reading
use Rattle.tql_syntax_tree.specs.Expressions.{boxed_expr_of}
use Rattle.tql_syntax_tree.specs.Conditions.{boxed_cond_of}
use Rattle.tql_syntax_cond.specs.declared.conditions.Mixed.{Mixed}
use Rattle.tql_syntax_cond.specs.declared.conditions.Mixed.TheVariants as mixed

abbrev pub mixed_of : Mixed → reading.Mixed
mixed_of (mixed.Cond c) = reading.WholeCondition (boxed_cond_of c)
mixed_of (mixed.Expr e) = reading.WholeExpr (boxed_expr_of e)
