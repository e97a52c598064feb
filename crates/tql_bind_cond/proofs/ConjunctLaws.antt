-- Conjuncts.
use Rattle.std.specs.Prelude.{vec_len, ◌==◌}
use Rattle.std.proofs.Common.{◌≡◌, refl, ℕ, ◌≤◌, arith, true, false, List, [], ◌∷◌, length, map, drop, All}
use Rattle.std.proofs.Common.{Option, None, sym, ap, subst, ◌∙◌}
use Rattle.std.proofs.lemmas.List.Elements.{All-nil, All-cons}
use Rattle.tql_spec.specs.Expression.{Cond}
use Rattle.tql_spec.specs.Names.{Checked, sound, check_each, Known, factor, factors_of, condition}
use Rattle.tql_spec.specs.Names.{conjuncts, optional_conjuncts}
use Rattle.tql_spec.specs.Parts.{tests_of, conjs_of}
use Rattle.tql_spec.specs.Refusal.{Refusal}
use Rattle.tql_spec.specs.Syntax as tree
use Rattle.tql_spec.specs.Syntax.{AnyOf, NoConj, OrConj, AllOf}
use Rattle.tql_syntax_tree.specs.Conditions.{cond_of, conj_of, factor_of}
use Rattle.tql_syntax_tree.specs.declared.condition.CondIn.{CondIn}
use Rattle.tql_syntax_tree.specs.declared.condition.ConjIn.{ConjIn}
use Rattle.tql_syntax_tree.specs.declared.condition.FactorIn.{FactorIn}
use Rattle.tql_syntax_tree.specs.declared.condition.TestIn.TheViews.{out-CondIn, out-ConjIn}
use Rattle.tql_expr.specs.Meaning.{cond, HasCond}
use Rattle.tql_expr.specs.declared.terms.Terms.{Terms}
use Rattle.tql_expr.specs.declared.terms.CondId.{CondId}
use Rattle.tql_bind_expr.specs.Gathered.{Gathers}
use Rattle.tql_bind_expr.proofs.Gathering.{bound, after_nil}
use Rattle.tql_bind_cond.specs.Conjuncts.{members, as_one}
use Rattle.tql_bind_cond.proofs.Lists.{ConjLeads, conds_done}
use Rattle.tql_bind_cond.proofs.SoleLaws.{empty_items, some_items}
use Rattle.tql_bind_cond.proofs.Views.{cond_out, conj_out}

-- ---- the members of an AND list

factors_back : (fs : List tree.Factor) → factors_of (tests_of fs) ≡ fs
factors_back [] = refl
factors_back (f ∷ fs) = ap (λ (gs : List tree.Factor). f ∷ gs) (factors_back fs)

-- no member remains
pub members_done : {A : Type 0} (s : List Known) (c : ConjIn A) (start t : Terms) (old now : Option Refusal)
    (xs : List (FactorIn A)) (i : ℕ) (ys : List CondId)
    → xs ≡ (out-ConjIn A c).more.items → length xs ≤ i → ConjLeads s c xs start old t ys (drop i xs) now
    → Gathers (check_each (factor s) (members (conj_of c))) old now (map (cond t) ys)
members_done {A} s c start t old now xs i ys more past l =
    let f = factor_of (out-ConjIn A c).first in
    let all : members (conj_of c) ≡ f ∷ map factor_of xs =
    ap members (conj_out c)
    ∙ ap (λ (gs : List tree.Factor). f ∷ gs) (factors_back (map factor_of (out-ConjIn A c).more.items))
    ∙ ap (λ (zs : List (FactorIn A)). f ∷ map factor_of zs) (sym more) in
    subst (λ (gs : List tree.Factor). Gathers (check_each (factor s) gs) old now (map (cond t) ys)) (sym all)
    (conds_done (factor s) factor_of (f ∷ map factor_of xs) start t old now xs i ys past l)

-- ---- a condition that is one conjunct

pub one_is : (c : Checked Cond) (t : Terms) (old now : Option Refusal) (x : CondId) (ys : List CondId)
    → ys ≡ x ∷ [] → Gathers c old now (cond t x) → Gathers (as_one c) old now (map (cond t) ys)
one_is c t old now x ys is g =
    subst (λ (zs : List CondId). Gathers (as_one c) old now (map (cond t) zs)) (sym is)
    (bound c (λ d. sound (d ∷ [])) old now now (cond t x) (cond t x ∷ []) g (record {
      value = refl;
      least = sym (after_nil now);
    }))

pub one_held : (t : Terms) (x : CondId) (ys : List CondId) → ys ≡ x ∷ [] → HasCond t x → All (HasCond t) ys
one_held t x ys is h = subst (All (HasCond t)) (sym is) (All-cons (HasCond t) x [] h (All-nil (HasCond t)))

-- ---- one of the two cases

alone_is : (s : List Known) (d : tree.Conj) → check_each (factor s) (members d) ≡ conjuncts s (AnyOf d NoConj)
alone_is s (AllOf f more) = refl

behind_is : (s : List Known) (d e : tree.Conj) (more : tree.MoreConjs)
    → as_one (condition s (AnyOf d (OrConj e more))) ≡ conjuncts s (AnyOf d (OrConj e more))
behind_is s (AllOf f others) e more = refl

no_conjs : {A : Type 0} (s : List Known) (d : tree.Conj) (xs : List (ConjIn A)) → length xs ≡ 0
    → check_each (factor s) (members d) ≡ conjuncts s (AnyOf d (conjs_of (map conj_of xs)))
no_conjs s d [] none = alone_is s d
no_conjs s d (x ∷ xs) none = absurd (omega arith)

some_conjs : {A : Type 0} (s : List Known) (d : tree.Conj) (xs : List (ConjIn A)) → (length xs ≡ 0 → ⊥)
    → as_one (condition s (AnyOf d (conjs_of (map conj_of xs)))) ≡ conjuncts s (AnyOf d (conjs_of (map conj_of xs)))
some_conjs s d [] some = absurd (some refl)
some_conjs s d (x ∷ xs) some = behind_is s d (conj_of x) (conjs_of (map conj_of xs))

-- no OR
pub conjuncts_alone : {A : Type 0} (s : List Known) (c : CondIn A) → (vec_len (out-CondIn A c).more == 0) ≡ true
    → check_each (factor s) (members (conj_of (out-CondIn A c).first)) ≡ conjuncts s (cond_of c)
conjuncts_alone {A} s c none =
    no_conjs s (conj_of (out-CondIn A c).first) (out-CondIn A c).more.items (empty_items (out-CondIn A c).more none)
    ∙ ap (conjuncts s) (sym (cond_out c))

-- at least one OR
pub conjuncts_behind : {A : Type 0} (s : List Known) (c : CondIn A) → (vec_len (out-CondIn A c).more == 0) ≡ false
    → as_one (condition s (cond_of c)) ≡ conjuncts s (cond_of c)
conjuncts_behind {A} s c some =
    ap (λ (d : tree.Condition). as_one (condition s d)) (cond_out c)
    ∙ some_conjs s (conj_of (out-CondIn A c).first) (out-CondIn A c).more.items (some_items (out-CondIn A c).more some)
    ∙ ap (conjuncts s) (sym (cond_out c))

-- no clause
pub none_is : (s : List Known) (o : Option tree.Condition) (t : Terms) (old : Option Refusal) (ys : List CondId)
    → o ≡ None → ys ≡ [] → Gathers (optional_conjuncts s o) old old (map (cond t) ys)
none_is s o t old ys none empty =
    subst (λ (p : Option tree.Condition). Gathers (optional_conjuncts s p) old old (map (cond t) ys)) (sym none)
    (record { value = ap (map (cond t)) empty; least = sym (after_nil old) })
