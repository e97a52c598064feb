-- Conditions bound in sequence, and how they are joined.
use Rattle.std.proofs.Common.{◌≡◌, refl, ℕ, ◌+◌, ◌<◌, ◌≤◌, List, [], ◌∷◌, ◌++◌, length, map, drop}
use Rattle.std.proofs.Common.{get_or, All, Option, Result, Ok, Err, IfOk, sym, ap, subst, ◌∙◌, append-nil}
use Rattle.std.proofs.lemmas.List.{map-append}
use Rattle.std.proofs.lemmas.List.Elements.{All-nil, All-cons, All-head, All-tail, All-push}
use Rattle.std.specs.declared.alloc.AllocError.{AllocError}
use Rattle.tql_spec.specs.Datum.{Null, Equals}
use Rattle.tql_spec.specs.Expression.{Cond, Compare, IsNull, And, Or, Literal}
use Rattle.tql_spec.specs.Names.{Checked, check_each, Known, Typed, compared, in_list, condition}
use Rattle.tql_spec.specs.Names.{more_conjs, conj, more_tests, factor}
use Rattle.tql_spec.specs.Parts.{tests_of, conjs_of}
use Rattle.tql_spec.specs.Refusal.{Refusal}
use Rattle.tql_spec.specs.Syntax as tree
use Rattle.tql_syntax_tree.specs.Conditions.{cond_of, conj_of, factor_of}
use Rattle.tql_syntax_tree.specs.Expressions.{expr_of}
use Rattle.tql_syntax_tree.specs.declared.expression.ExprIn.{ExprIn}
use Rattle.tql_syntax_tree.specs.declared.condition.CondIn.{CondIn}
use Rattle.tql_syntax_tree.specs.declared.condition.ConjIn.{ConjIn}
use Rattle.tql_syntax_tree.specs.declared.condition.FactorIn.{FactorIn}
use Rattle.tql_syntax_tree.specs.declared.condition.TestIn.TheViews.{out-CondIn, out-ConjIn}
use Rattle.tql_expr.specs.Meaning.{cond, HasExpr, HasCond, Stays, BuildsCond, all_of, any_of, one_of}
use Rattle.tql_expr.specs.declared.terms.Terms.{Terms}
use Rattle.tql_expr.specs.declared.terms.CondId.{CondId}
use Rattle.tql_bind_expr.specs.Bounds.{typed_of}
use Rattle.tql_bind_expr.specs.declared.scope.Typed as code
use Rattle.tql_bind_expr.specs.Gathered.{after, Gathers}
use Rattle.tql_bind_expr.proofs.Arena.{stays_along, cond_there, cond_kept, typed_kept}
use Rattle.tql_bind_expr.proofs.Gathering.{EachLeads, each_on, each_item, each_done, bound}
use Rattle.tql_bind_cond.proofs.Views.{cond_out, conj_out}

-- ---- conditions in the arena

pub conds_kept : {t u : Terms} → Stays t u → (xs : List CondId) → All (HasCond t) xs → map (cond u) xs ≡ map (cond t) xs
conds_kept {t} {u} s [] h = refl
conds_kept {t} {u} s (x ∷ xs) h =
    let here = cond_kept s x (All-head (HasCond t) x xs h) in
    let later = conds_kept s xs (All-tail (HasCond t) x xs h) in
    λ i. here i ∷ later i

pub conds_there : {t u : Terms} → Stays t u → (xs : List CondId) → All (HasCond t) xs → All (HasCond u) xs
conds_there {t} {u} s [] h = All-nil (HasCond u)
conds_there {t} {u} s (x ∷ xs) h =
    All-cons (HasCond u) x xs (cond_there s x (All-head (HasCond t) x xs h))
    (conds_there s xs (All-tail (HasCond t) x xs h))

-- ---- conditions in sequence

-- the bound conditions and the remaining ones give what all give, and all earlier nodes stay
pub record CondsLead {A : Type 0} (f : A
    → Checked Cond) (all : List A) (start : Terms) (old : Option Refusal) (t : Terms) (bound : List CondId)
    (left : List A) (now : Option Refusal) : Type 0 where
  pub stays : Stays start t
  pub held : All (HasCond t) bound
  pub leads : EachLeads f all old (map (cond t) bound) left now

-- the first is bound
pub conds_begun : {A : Type 0} (f : A
    → Checked Cond) (x : A) (left : List A) (start t : Terms) (old now : Option Refusal) (zs : List CondId) (y : CondId)
    → zs ≡ y ∷ [] → Stays start t → Gathers (f x) old now (cond t y) → HasCond t y
    → CondsLead f (x ∷ left) start old t zs left now
conds_begun f x left start t old now zs y pushed stays checked held = record {
  stays = stays;
  held = subst (All (HasCond t)) (sym pushed) (All-cons (HasCond t) y [] held (All-nil (HasCond t)));
  leads =
      subst (λ (ys : List CondId). EachLeads f (x ∷ left) old (map (cond t) ys) left now) (sym pushed)
      (each_on f (x ∷ left) old [] x left old now (cond t y) (record { value = refl; least = refl }) checked);
}

-- one more is bound
pub conds_item : {X A : Type 0} (f : A → Checked Cond) (g : X
    → A) (all : List A) (start t u : Terms) (old mid now : Option Refusal) (xs : List X) (i : ℕ) (x : X)
    (ys zs : List CondId) (y : CondId)
    → i < length xs → x ≡ get_or xs i x → zs ≡ ys ++ y ∷ []
    → CondsLead f all start old t ys (map g (drop i xs)) mid → Stays t u → Gathers (f (g x)) mid now (cond u y)
    → HasCond u y
    → CondsLead f all start old u zs (map g (drop (i + 1) xs)) now
conds_item f g all start t u old mid now xs i x ys zs y within is pushed l stays checked held =
    let before = subst (λ (bs : List Cond). EachLeads f all old bs (map g (drop i xs)) mid)
    (sym (conds_kept stays ys l.held)) l.leads in
    record {
      stays = stays_along l.stays stays;
      held = subst (All (HasCond u)) (sym pushed) (All-push (HasCond u) ys y (conds_there stays ys l.held) held);
      leads = each_item f g (cond u) all old mid now xs i x ys zs y within is pushed before checked;
    }

-- none remains
pub conds_done : {X A : Type 0} (f : A → Checked Cond) (g : X
    → A) (all : List A) (start t : Terms) (old now : Option Refusal) (xs : List X) (i : ℕ) (ys : List CondId)
    → length xs ≤ i → CondsLead f all start old t ys (map g (drop i xs)) now
    → Gathers (check_each f all) old now (map (cond t) ys)
conds_done f g all start t old now xs i ys past l = each_done f g (cond t) all old now xs i ys past l.leads

-- ---- how they are joined

-- the same faults, and a value computed from the other one
pub regathered : {A B : Type 0} (c : Checked A) (d : Checked B) (f : A → B) (old now : Option Refusal) (x : A)
    → d.value ≡ f c.value → d.faults ≡ c.faults → Gathers c old now x → Gathers d old now (f x)
regathered c d f old now x values faults g = record {
  value = ap f g.value ∙ sym values;
  least = g.least ∙ ap (after old) (sym faults);
}

-- a condition that is built is the collected one
pub built_ok : (t u : Terms) (r : Result CondId AllocError) (e : Cond) (d : Checked Cond) (old now : Option Refusal)
    → BuildsCond t u r e → Gathers d old now e → IfOk r (λ c. Gathers d old now (cond u c))
built_ok t u (Ok x) e d old now h g = subst (λ (y : Cond). Gathers d old now y) (sym h.2) g
built_ok t u (Err o) e d old now h g = tt

-- a list joined from its first member on; an arbitrary condition for an empty list
abbrev pub joined : (Cond → List Cond → Cond) → List Cond → Cond
joined f [] = IsNull (Literal Null)
joined f (c ∷ cs) = f c cs

tests_value : (s : List Known) (fs : List tree.Factor) (c : Cond)
    → (more_tests s (tests_of fs) c).value ≡ all_of c (check_each (factor s) fs).value
tests_value s [] c = refl
tests_value s (f ∷ fs) c = tests_value s fs (And c (factor s f).value)

tests_faults : (s : List Known) (fs : List tree.Factor) (c : Cond)
    → (more_tests s (tests_of fs) c).faults ≡ (check_each (factor s) fs).faults
tests_faults s [] c = refl
tests_faults s (f ∷ fs) c =
    ap (λ (es : List Refusal). (factor s f).faults ++ es) (tests_faults s fs (And c (factor s f).value)
    ∙ sym (append-nil (check_each (factor s) fs).faults))

-- the members of an AND list, joined
pub conj_joined : (s : List Known) (f : tree.Factor) (fs : List tree.Factor) (old now : Option Refusal) (c : Cond)
    (cs : List Cond)
    → Gathers (check_each (factor s) (f ∷ fs)) old now (c ∷ cs)
    → Gathers (conj s (tree.AllOf f (tests_of fs))) old now (all_of c cs)
conj_joined s f fs old now c cs g =
    let first = factor s f in
    regathered (check_each (factor s) (f ∷ fs)) (conj s (tree.AllOf f (tests_of fs))) (joined all_of) old now (c ∷ cs)
    (tests_value s fs first.value)
    (ap (λ (es : List Refusal). first.faults ++ es) (tests_faults s fs first.value
    ∙ sym (append-nil (check_each (factor s) fs).faults))) g

conjs_value : (s : List Known) (ds : List tree.Conj) (c : Cond)
    → (more_conjs s (conjs_of ds) c).value ≡ any_of c (check_each (conj s) ds).value
conjs_value s [] c = refl
conjs_value s (d ∷ ds) c = conjs_value s ds (Or c (conj s d).value)

conjs_faults : (s : List Known) (ds : List tree.Conj) (c : Cond)
    → (more_conjs s (conjs_of ds) c).faults ≡ (check_each (conj s) ds).faults
conjs_faults s [] c = refl
conjs_faults s (d ∷ ds) c =
    ap (λ (es : List Refusal). (conj s d).faults ++ es) (conjs_faults s ds (Or c (conj s d).value)
    ∙ sym (append-nil (check_each (conj s) ds).faults))

-- the members of an OR list, joined
pub condition_joined : (s : List Known) (d : tree.Conj) (ds : List tree.Conj) (old now : Option Refusal) (c : Cond)
    (cs : List Cond)
    → Gathers (check_each (conj s) (d ∷ ds)) old now (c ∷ cs)
    → Gathers (condition s (tree.AnyOf d (conjs_of ds))) old now (any_of c cs)
condition_joined s d ds old now c cs g =
    let first = conj s d in
    regathered (check_each (conj s) (d ∷ ds)) (condition s (tree.AnyOf d (conjs_of ds))) (joined any_of) old now
    (c ∷ cs)
    (conjs_value s ds first.value)
    (ap (λ (es : List Refusal). first.faults ++ es) (conjs_faults s ds first.value
    ∙ sym (append-nil (check_each (conj s) ds).faults))) g

-- ---- IN

-- OR nested to the right; an arbitrary condition for an empty list
abbrev pub one_of_all : List Cond → Cond
one_of_all [] = IsNull (Literal Null)
one_of_all (c ∷ []) = c
one_of_all (c ∷ d ∷ ds) = Or c (one_of_all (d ∷ ds))

one_more : (c : Cond) (xs : List Cond) (x : Cond) → one_of_all (c ∷ (xs ++ x ∷ [])) ≡ Or c (one_of_all (xs ++ x ∷ []))
one_more c [] x = refl
one_more c (y ∷ ys) x = refl

one_of_last : (xs : List Cond) (x : Cond) → one_of_all (xs ++ x ∷ []) ≡ one_of xs x
one_of_last [] x = refl
one_of_last (c ∷ cs) x = one_more c cs x ∙ ap (Or c) (one_of_last cs x)

-- an equality with a bound expression
abbrev pub equals : List Known → Typed → tree.Sum → Checked Cond
equals s a e = compared e s a (Compare Equals)

in_value : (s : List Known) (a : Typed) (e : tree.Sum) (es : List tree.Sum)
    → (in_list s a e es).value ≡ one_of_all (check_each (equals s a) (e ∷ es)).value
in_value s a e [] = refl
in_value s a e (e' ∷ es) = ap (Or (equals s a e).value) (in_value s a e' es)

in_faults : (s : List Known) (a : Typed) (e : tree.Sum) (es : List tree.Sum)
    → (in_list s a e es).faults ≡ (check_each (equals s a) (e ∷ es)).faults
in_faults s a e [] = sym (append-nil (equals s a e).faults)
in_faults s a e (e' ∷ es) = ap (λ (rs : List Refusal). (equals s a e).faults ++ (rs ++ [])) (in_faults s a e' es)

-- the equalities of an IN, joined
pub in_joined : (s : List Known) (a : Typed) (e : tree.Sum) (es : List tree.Sum) (old now : Option Refusal)
    (cs : List Cond) (c : Cond)
    → Gathers (check_each (equals s a) (e ∷ es)) old now (cs ++ c ∷ [])
    → Gathers (in_list s a e es) old now (one_of cs c)
in_joined s a e es old now cs c g =
    subst (λ (x : Cond). Gathers (in_list s a e es) old now x) (one_of_last cs c)
    (regathered (check_each (equals s a) (e ∷ es)) (in_list s a e es) one_of_all old now (cs ++ c ∷ [])
    (in_value s a e es) (in_faults s a e es) g)

-- if all equalities are in the arena, so are those before the last, and the last
pub held_before : (t : Terms) (xs : List CondId) (x : CondId) → All (HasCond t) (xs ++ x ∷ []) → All (HasCond t) xs
held_before t [] x h = All-nil (HasCond t)
held_before t (y ∷ ys) x h =
    All-cons (HasCond t) y ys (All-head (HasCond t) y (ys ++ x ∷ []) h)
    (held_before t ys x (All-tail (HasCond t) y (ys ++ x ∷ []) h))

pub held_last : (t : Terms) (xs : List CondId) (x : CondId) → All (HasCond t) (xs ++ x ∷ []) → HasCond t x
held_last t [] x h = All-head (HasCond t) x [] h
held_last t (y ∷ ys) x h = held_last t ys x (All-tail (HasCond t) y (ys ++ x ∷ []) h)

-- an equality with the same expression, in an earlier arena
pub equality_at : {A : Type 0} (s : List Known) (t u v : Terms) (operand : code.Typed) (e e' : ExprIn A)
    (mid now : Option Refusal) (y : CondId)
    → Stays t u → HasExpr t operand.expr → e ≡ e'
    → Gathers (equals s (typed_of u operand) (expr_of e)) mid now (cond v y)
    → Gathers (equals s (typed_of t operand) (expr_of e')) mid now (cond v y)
equality_at {A} s t u v operand e e' mid now y stays held is g =
    subst (λ (a : Typed). Gathers (equals s a (expr_of e')) mid now (cond v y)) (typed_kept stays operand held)
    (subst (λ (x : ExprIn A). Gathers (equals s (typed_of u operand) (expr_of x)) mid now (cond v y)) is g)

-- no equality remains
pub one_of_done : {X : Type 0} (s : List Known) (a : Typed) (e : tree.Sum) (g : X
    → tree.Sum) (start t u : Terms) (old now : Option Refusal) (xs : List X) (i : ℕ)
    (before items : List CondId) (last : CondId) (r : Result CondId AllocError)
    → length xs ≤ i → items ≡ before
    → CondsLead (equals s a) (e ∷ map g xs) start old t (before ++ last ∷ []) (map g (drop i xs)) now
    → BuildsCond t u r (one_of (map (cond t) items) (cond t last))
    → IfOk r (λ c. Gathers (in_list s a e (map g xs)) old now (cond u c))
one_of_done s a e g start t u old now xs i before items last r past same l builds =
    let all = e ∷ map g xs in
    let done = conds_done (equals s a) g all start t old now xs i (before ++ last ∷ []) past l in
    let apart = subst (λ (cs : List Cond). Gathers (check_each (equals s a) all) old now cs)
    (map-append (cond t) before (last ∷ [])) done in
    built_ok t u r _ (in_list s a e (map g xs)) old now builds
    (subst (λ (ys : List CondId). Gathers (in_list s a e (map g xs)) old now
    (one_of (map (cond t) ys) (cond t last))) (sym same)
    (in_joined s a e (map g xs) old now (map (cond t) before) (cond t last) apart))

-- ---- AND and OR lists

-- the bound members of an AND list and the remaining ones give all
abbrev pub ConjLeads : {A : Type 0} → List Known → ConjIn A → List (FactorIn A) → Terms → Option Refusal → Terms
    → List CondId → List (FactorIn A) → Option Refusal → Type 0
ConjLeads {A} s c xs start old t bound left now =
    CondsLead (factor s) (factor_of (out-ConjIn A c).first ∷ map factor_of xs) start old t bound (map factor_of left)
    now

-- no member remains
pub conj_done : {A : Type 0} (s : List Known) (c : ConjIn A) (start t u : Terms) (old now : Option Refusal)
    (xs : List (FactorIn A)) (i : ℕ)
    (first : CondId) (rest items : List CondId) (r : Result CondId AllocError)
    → xs ≡ (out-ConjIn A c).more.items → length xs ≤ i → items ≡ rest
    → ConjLeads s c xs start old t (first ∷ rest) (drop i xs) now
    → BuildsCond t u r (all_of (cond t first) (map (cond t) items))
    → IfOk r (λ y. Gathers (conj s (conj_of c)) old now (cond u y))
conj_done {A} s c start t u old now xs i first rest items r more past same l builds =
    let f = factor_of (out-ConjIn A c).first in
    let whole = conj_out c ∙ ap (λ (ys : List (FactorIn A)). tree.AllOf f (tests_of (map factor_of ys))) (sym more) in
    let done = conds_done (factor s) factor_of (f ∷ map factor_of xs) start t old now xs i (first ∷ rest) past l in
    built_ok t u r _ (conj s (conj_of c)) old now builds
    (subst (λ (ys : List CondId). Gathers (conj s (conj_of c)) old now (all_of (cond t first) (map (cond t) ys)))
    (sym same)
    (subst (λ (w : tree.Conj). Gathers (conj s w) old now (all_of (cond t first) (map (cond t) rest))) (sym whole)
    (conj_joined s f (map factor_of xs) old now (cond t first) (map (cond t) rest) done)))

-- the bound members of an OR list and the remaining ones give all
abbrev pub ConditionLeads : {A : Type 0} → List Known → CondIn A → List (ConjIn A) → Terms → Option Refusal → Terms
    → List CondId → List (ConjIn A) → Option Refusal → Type 0
ConditionLeads {A} s c xs start old t bound left now =
    CondsLead (conj s) (conj_of (out-CondIn A c).first ∷ map conj_of xs) start old t bound (map conj_of left) now

-- no member remains
pub condition_done : {A : Type 0} (s : List Known) (c : CondIn A) (start t u : Terms) (old now : Option Refusal)
    (xs : List (ConjIn A)) (i : ℕ)
    (first : CondId) (rest items : List CondId) (r : Result CondId AllocError)
    → xs ≡ (out-CondIn A c).more.items → length xs ≤ i → items ≡ rest
    → ConditionLeads s c xs start old t (first ∷ rest) (drop i xs) now
    → BuildsCond t u r (any_of (cond t first) (map (cond t) items))
    → IfOk r (λ y. Gathers (condition s (cond_of c)) old now (cond u y))
condition_done {A} s c start t u old now xs i first rest items r more past same l builds =
    let f = conj_of (out-CondIn A c).first in
    let whole = cond_out c ∙ ap (λ (ys : List (ConjIn A)). tree.AnyOf f (conjs_of (map conj_of ys))) (sym more) in
    let done = conds_done (conj s) conj_of (f ∷ map conj_of xs) start t old now xs i (first ∷ rest) past l in
    built_ok t u r _ (condition s (cond_of c)) old now builds
    (subst (λ (ys : List CondId). Gathers (condition s (cond_of c)) old now
    (any_of (cond t first) (map (cond t) ys))) (sym same)
    (subst (λ (w : tree.Condition). Gathers (condition s w) old now (any_of (cond t first) (map (cond t) rest)))
    (sym whole)
    (condition_joined s f (map conj_of xs) old now (cond t first) (map (cond t) rest) done)))

-- ---- NOT
