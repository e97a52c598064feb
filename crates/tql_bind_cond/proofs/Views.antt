-- The specification's trees of the code's conditions, one layer at a time.
use Rattle.std.proofs.Common.{◌≡◌, map}
use Rattle.tql_spec.specs.Parts.{tests_of, conjs_of}
use Rattle.tql_spec.specs.Syntax.{Condition, AnyOf, Conj, AllOf, Factor, Test}
use Rattle.tql_syntax_tree.specs.Conditions.{cond_of, conj_of, factor_of, test_of, factor_by, test_step, cond_step}
use Rattle.tql_syntax_tree.specs.Conditions.{conj_step, factor_step}
use Rattle.tql_syntax_tree.specs.declared.condition.CondIn.{CondIn}
use Rattle.tql_syntax_tree.specs.declared.condition.ConjIn.{ConjIn}
use Rattle.tql_syntax_tree.specs.declared.condition.FactorIn.{FactorIn}
use Rattle.tql_syntax_tree.specs.declared.condition.TestIn.TheFolds.{fold_out-CondIn, fold_out-ConjIn}
use Rattle.tql_syntax_tree.specs.declared.condition.TestIn.TheFolds.{fold_out-FactorIn}
use Rattle.tql_syntax_tree.specs.declared.condition.TestIn.TheViews.{out-CondIn, out-ConjIn, out-FactorIn}

pub cond_out : {A : Type 0} (c : CondIn A)
    → cond_of c ≡ AnyOf (conj_of (out-CondIn A c).first) (conjs_of (map conj_of (out-CondIn A c).more.items))
cond_out {A} c = fold_out-CondIn A Test Condition Conj Factor test_step cond_step conj_step factor_step c

pub conj_out : {A : Type 0} (c : ConjIn A)
    → conj_of c ≡ AllOf (factor_of (out-ConjIn A c).first) (tests_of (map factor_of (out-ConjIn A c).more.items))
conj_out {A} c = fold_out-ConjIn A Test Condition Conj Factor test_step cond_step conj_step factor_step c

pub factor_out : {A : Type 0} (f : FactorIn A)
    → factor_of f ≡ factor_by (out-FactorIn A f).is_negated (test_of (out-FactorIn A f).test.value)
factor_out {A} f = fold_out-FactorIn A Test Condition Conj Factor test_step cond_step conj_step factor_step f
