-- The test that consists of an operand and the part after it.
use Rattle.tql_spec.specs.Syntax as tree
use Rattle.tql_syntax_tree.specs.Expressions.{boxed_expr_of}
use Rattle.tql_syntax_tree.specs.Conditions.{relation_of, marked_of, operand_of}
use Rattle.tql_syntax_operand.specs.declared.operands.Tail.{Tail}
use Rattle.tql_syntax_operand.specs.declared.operands.Tail.TheVariants.{Related, ContainsPeriod, ContainsPoint}

abbrev pub tail_test : tree.Operand → Tail → tree.Test
tail_test x (Related r y) = tree.RelationTest x (relation_of r) (operand_of y)
tail_test x (ContainsPeriod m) = tree.ContainsPeriod x (marked_of m)
tail_test x (ContainsPoint e) = tree.ContainsPoint x (boxed_expr_of e)
