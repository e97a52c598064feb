-- Safe conjuncts filter.
use Rattle.std.proofs.Common.{◌≡◌, Bool, true, false, ◌&&◌, IsTrue, List, [], ◌∷◌, ◌++◌, filter, refl, sym, ap, ◌∙◌}
use Rattle.std.proofs.Common.{cond}
use Rattle.std.specs.Prelude.{Option, Some, None}
use Rattle.std.specs.List.{list_all}
use Rattle.std.proofs.lemmas.Bool.{and_parts}
use Rattle.std.proofs.lemmas.List.Folds.{list_all-append}
use Rattle.tql_spec.specs.Words.{◌>>=◌, kept_if}
use Rattle.tql_spec.specs.Datum.{Row}
use Rattle.tql_spec.specs.Truth.{Truth, False, Unknown, True, is_true}
use Rattle.tql_spec.specs.Expression.{Cond, judge, passes, go_on, is_safe, SafeConditionsAreJudged}
use Rattle.tql_spec.specs.Query.{keep}
use Rattle.tql_plan_laws.specs.Conjuncts.{AreSafe, is_sure, meets, SafeConjunctsFilter, ConjunctsSplit}

-- a conjunct with this truth value before the others
by_truth : (t : Truth) (rest : Option Bool) (b : Bool) → rest ≡ Some b → go_on t rest ≡ Some (is_true t && b)
by_truth False rest b e = refl
by_truth Unknown rest b e = refl
by_truth True rest b e = e

-- a row passes safe conjuncts if and only if it meets them all
pub passes_is : SafeConditionsAreJudged → (conds : List Cond) (row : Row) → AreSafe conds
    → passes [] row conds ≡ Some (meets conds row)
passes_is law [] row h = refl
passes_is law (c ∷ cs) row h =
    let p = and_parts (is_safe c) (list_all is_safe cs) h in
    let s = law [] row c p.0 in
    ap (λ o. o >>= λ t. go_on t (passes [] row cs)) s.1
    ∙ by_truth s.0 (passes [] row cs) (meets cs row) (passes_is law cs row p.1)
    ∙ ap (λ o. Some (is_sure o && meets cs row)) (sym s.1)

by_test : (x : Row) (b : Bool) (xs : List Row) → kept_if x (Some b) (Some xs) ≡ Some (cond b (x ∷ xs) xs)
by_test x true xs = refl
by_test x false xs = refl

-- safe conjuncts filter rows
pub keep_is : SafeConditionsAreJudged → SafeConjunctsFilter
keep_is law conds [] h = refl
keep_is law conds (x ∷ xs) h =
    (λ i. kept_if x (passes_is law conds x h i) (keep_is law conds xs h i))
    ∙ by_test x (meets conds x) (filter (meets conds) xs)

pub conjuncts_split : ConjunctsSplit
conjuncts_split cs ds row = list_all-append (λ c. is_sure (judge [] row c)) cs ds
