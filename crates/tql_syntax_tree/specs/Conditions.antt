-- The pure trees that the code's conditions represent.
use Rattle.std.specs.Prelude.{Bool, true, false, List, map, Option, option_map, Box, Vec}
use Rattle.tql_spec.specs.Datum as datum
use Rattle.tql_spec.specs.Period as period
use Rattle.tql_spec.specs.Syntax as tree
use Rattle.tql_spec.specs.Parts.{tests_of, conjs_of}
use Rattle.tql_syntax_tree.specs.Expressions.{name_of, named_of, boxed_expr_of}
use Rattle.tql_syntax_tree.specs.declared.expression.ExprIn.{ExprIn}
use Rattle.tql_syntax_tree.specs.declared.condition.Comparison.{Comparison}
use Rattle.tql_syntax_tree.specs.declared.condition.Comparison.TheVariants as comparison
use Rattle.tql_syntax_tree.specs.declared.condition.Relation.{Relation}
use Rattle.tql_syntax_tree.specs.declared.condition.Relation.TheVariants as relation
use Rattle.tql_syntax_tree.specs.declared.condition.MarkedIn.{MarkedIn}
use Rattle.tql_syntax_tree.specs.declared.condition.MarkedIn.TheVariants as marked
use Rattle.tql_syntax_tree.specs.declared.condition.OperandIn.{OperandIn}
use Rattle.tql_syntax_tree.specs.declared.condition.OperandIn.TheVariants as operand
use Rattle.tql_syntax_tree.specs.declared.condition.CondIn.{CondIn}
use Rattle.tql_syntax_tree.specs.declared.condition.ConjIn.{ConjIn}
use Rattle.tql_syntax_tree.specs.declared.condition.FactorIn.{FactorIn}
use Rattle.tql_syntax_tree.specs.declared.condition.TestIn.{TestIn}
use Rattle.tql_syntax_tree.specs.declared.condition.TestIn.TheOpen.{TestIn-F, CondIn-F, ConjIn-F, FactorIn-F, Grouped}
use Rattle.tql_syntax_tree.specs.declared.condition.TestIn.TheOpen.{Compared, Null, Between, In, Related}
use Rattle.tql_syntax_tree.specs.declared.condition.TestIn.TheOpen.{ContainsPeriod}
use Rattle.tql_syntax_tree.specs.declared.condition.TestIn.TheOpen.{ContainsPoint}
use Rattle.tql_syntax_tree.specs.declared.condition.TestIn.TheFolds.{fold-TestIn, fold-CondIn, fold-ConjIn}
use Rattle.tql_syntax_tree.specs.declared.condition.TestIn.TheFolds.{fold-FactorIn}

abbrev pub comparison_of : Comparison → datum.Comparison
comparison_of comparison.Equals = datum.Equals
comparison_of comparison.Differs = datum.Differs
comparison_of comparison.Below = datum.Below
comparison_of comparison.AtMost = datum.AtMost
comparison_of comparison.Above = datum.Above
comparison_of comparison.AtLeast = datum.AtLeast

abbrev pub relation_of : Relation → period.Relation
relation_of relation.Overlaps = period.Overlaps
relation_of relation.Equals = period.SameAs
relation_of relation.Precedes = period.Precedes
relation_of relation.Succeeds = period.Succeeds
relation_of relation.ImmediatelyPrecedes = period.ImmediatelyPrecedes
relation_of relation.ImmediatelySucceeds = period.ImmediatelySucceeds

abbrev pub marked_of : {A : Type 0} → MarkedIn A → tree.Marked
marked_of (marked.FromEnds s e) = tree.FromEnds (boxed_expr_of s) (boxed_expr_of e)
marked_of (marked.SystemTime q) = tree.SystemTime (option_map name_of q)

abbrev pub operand_of : {A : Type 0} → OperandIn A → tree.Operand
operand_of (operand.ByMark m) = tree.ByMark (marked_of m)
operand_of (operand.ByName r) = tree.ByName (named_of r)

-- a factor, with or without NOT
abbrev pub factor_by : Bool → tree.Test → tree.Factor
factor_by true t = tree.Negated t
factor_by false t = tree.Straight t

-- the expressions of a list
abbrev pub exprs_of : {A B C : Type 0} → Vec (Box (ExprIn A) B) C → List tree.Sum
exprs_of es = map boxed_expr_of es.items

-- ---- one layer of a tree, whose recursive parts are already pure trees

abbrev pub test_step : {A : Type 0} → TestIn-F A tree.Test tree.Condition tree.Conj tree.Factor → tree.Test
test_step (Grouped c) = tree.Grouped c.value
test_step (Compared op a b) = tree.Compared (comparison_of op) (boxed_expr_of a) (boxed_expr_of b)
test_step (Null b e) = tree.NullTest b (boxed_expr_of e)
test_step (Between b e low high) = tree.BetweenTest b (boxed_expr_of e) (boxed_expr_of low) (boxed_expr_of high)
test_step (In b e x xs) = tree.InTest b (boxed_expr_of e) (boxed_expr_of x) (exprs_of xs)
test_step (Related x r y) = tree.RelationTest (operand_of x) (relation_of r) (operand_of y)
test_step (ContainsPeriod x m) = tree.ContainsPeriod (operand_of x) (marked_of m)
test_step (ContainsPoint x e) = tree.ContainsPoint (operand_of x) (boxed_expr_of e)

abbrev pub cond_step : {A : Type 0} → CondIn-F A tree.Test tree.Condition tree.Conj tree.Factor → tree.Condition
cond_step c = tree.AnyOf c.first (conjs_of c.more.items)

abbrev pub conj_step : {A : Type 0} → ConjIn-F A tree.Test tree.Condition tree.Conj tree.Factor → tree.Conj
conj_step c = tree.AllOf c.first (tests_of c.more.items)

abbrev pub factor_step : {A : Type 0} → FactorIn-F A tree.Test tree.Condition tree.Conj tree.Factor → tree.Factor
factor_step f = factor_by f.is_negated f.test.value

-- ---- trees

abbrev pub test_of : {A : Type 0} → TestIn A → tree.Test
test_of {A} t = fold-TestIn A tree.Test tree.Condition tree.Conj tree.Factor test_step cond_step conj_step factor_step t

abbrev pub cond_of : {A : Type 0} → CondIn A → tree.Condition
cond_of {A} c = fold-CondIn A tree.Test tree.Condition tree.Conj tree.Factor test_step cond_step conj_step factor_step c

abbrev pub conj_of : {A : Type 0} → ConjIn A → tree.Conj
conj_of {A} c = fold-ConjIn A tree.Test tree.Condition tree.Conj tree.Factor test_step cond_step conj_step factor_step c

abbrev pub factor_of : {A : Type 0} → FactorIn A → tree.Factor
factor_of {A} f = fold-FactorIn A tree.Test tree.Condition tree.Conj tree.Factor test_step cond_step conj_step
    factor_step f

-- a boxed condition, and a boxed test
abbrev pub boxed_cond_of : {A B : Type 0} → Box (CondIn A) B → tree.Condition
boxed_cond_of b = cond_of b.value

abbrev pub boxed_test_of : {A B : Type 0} → Box (TestIn A) B → tree.Test
boxed_test_of b = test_of b.value

-- the conjunctions, and the factors, of a list
abbrev pub conj_list : {A B : Type 0} → Vec (ConjIn A) B → List tree.Conj
conj_list cs = map conj_of cs.items

abbrev pub factor_list : {A B : Type 0} → Vec (FactorIn A) B → List tree.Factor
factor_list fs = map factor_of fs.items
