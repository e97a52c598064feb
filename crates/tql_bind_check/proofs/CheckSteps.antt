-- Checks bound in sequence, element by element.
use Rattle.std.proofs.Common.{◌≡◌, refl, ℕ, ◌+◌, ◌<◌, ◌≤◌, List, [], ◌∷◌, ◌++◌, length, map, drop, get_or, All}
use Rattle.std.proofs.Common.{Option, Some, None, sym, ap, subst, ◌∙◌, append-nil, append_assoc}
use Rattle.std.specs.Prelude.{option_map}
use Rattle.std.specs.Option.{ForSome}
use Rattle.std.proofs.lemmas.List.{map-append, at_drop_more, drop_all}
use Rattle.std.proofs.lemmas.List.Elements.{All-nil, All-push}
use Rattle.tql_spec.specs.Words.{listed}
use Rattle.tql_spec.specs.Refusal.{Refusal}
use Rattle.tql_spec.specs.Expression.{Cond}
use Rattle.tql_spec.specs.Names.{Checked, check_each}
use Rattle.tql_spec.specs.Syntax as tree
use Rattle.tql_spec.specs.Syntax.{Condition, ColumnElement, PeriodElement, ConstraintElement, KeyTree, ForeignTree}
use Rattle.tql_spec.specs.Syntax.{CheckTree}
use Rattle.tql_expr.specs.Meaning.{cond, HasCond, Stays}
use Rattle.tql_expr.specs.declared.terms.Terms.{Terms}
use Rattle.tql_expr.specs.declared.terms.CondId.{CondId}
use Rattle.tql_syntax_tree.specs.Statements.{element_of}
use Rattle.tql_syntax_tree.specs.declared.statement.Element.{Element}
use Rattle.tql_bind_expr.specs.Gathered.{after, Gathers}
use Rattle.tql_bind_expr.proofs.Gathering.{EachLeads, each_ended, after_append}
use Rattle.tql_bind_cond.proofs.Lists.{conds_kept, conds_there}
use Rattle.tql_bind_check.specs.Checking.{checks_in}

-- ---- several parts checked in sequence

each_values : {A B : Type 0} (f : A → Checked B) (xs ys : List A)
    → (check_each f (xs ++ ys)).value ≡ (check_each f xs).value ++ (check_each f ys).value
each_values f [] ys = refl
each_values {A} {B} f (x ∷ xs) ys = ap (λ (bs : List B). (f x).value ∷ bs) (each_values f xs ys)

each_faults : {A B : Type 0} (f : A → Checked B) (xs ys : List A)
    → (check_each f (xs ++ ys)).faults ≡ (check_each f xs).faults ++ (check_each f ys).faults
each_faults f [] ys = refl
each_faults f (x ∷ xs) ys =
    let here : List Refusal = (f x).faults in
    let front : List Refusal = (check_each f xs).faults in
    let back : List Refusal = (check_each f ys).faults in
    ap (λ (es : List Refusal). here ++ es) (append-nil (check_each f (xs ++ ys)).faults ∙ each_faults f xs ys
    ∙ ap (λ (es : List Refusal). es ++ back) (sym (append-nil front)))
    ∙ sym (append_assoc here (front ++ []) back)

-- several more are checked
several_on : {A B : Type 0} (f : A → Checked B) (all : List A) (old : Option Refusal) (bound : List B)
    (xs left : List A) (mid now : Option Refusal) (ys : List B)
    → EachLeads f all old bound (xs ++ left) mid → Gathers (check_each f xs) mid now ys
    → EachLeads f all old (bound ++ ys) left now
several_on {A} {B} f all old bound xs left mid now ys l g =
    let rest : List Refusal = (check_each f left).faults in
    record {
      value =
          append_assoc bound ys (check_each f left).value
          ∙ ap (λ (bs : List B). bound ++ (bs ++ (check_each f left).value)) g.value
          ∙ ap (λ (bs : List B). bound ++ bs) (sym (each_values f xs left)) ∙ l.value;
      least =
          ap (λ (o : Option Refusal). after o rest) g.least ∙ sym (after_append mid (check_each f xs).faults rest)
          ∙ ap (λ (es : List Refusal). after mid es) (sym (each_faults f xs left)) ∙ l.least;
    }

-- ---- checks

-- the checks of elements are those of the first and of the rest
checks_split : (e : tree.Element) (es : List tree.Element) → checks_in (e ∷ es) ≡ checks_in (e ∷ []) ++ checks_in es
checks_split (ColumnElement c) es = refl
checks_split (PeriodElement n s t) es = refl
checks_split (ConstraintElement (KeyTree b n ns p)) es = refl
checks_split (ConstraintElement (ForeignTree c n p)) es = refl
checks_split (ConstraintElement (CheckTree c)) es = refl

-- the bound checks and the remaining ones give what all give
pub record ChecksLead (f : Condition → Checked Cond) (all : List Condition) (old : Option Refusal) (t : Terms)
    (bound : List CondId) (left : List Condition) (now : Option Refusal) : Type 0 where
  pub held : All (HasCond t) bound
  pub leads : EachLeads f all old (map (cond t) bound) left now

-- none is bound
pub checks_begun : (f : Condition → Checked Cond) (all : List Condition) (old : Option Refusal) (t : Terms)
    (bound : List CondId) → bound ≡ [] → ChecksLead f all old t bound all old
checks_begun f all old t bound none =
    subst (λ (ys : List CondId). ChecksLead f all old t ys all old) (sym none) (record {
      held = All-nil (HasCond t);
      leads = record { value = refl; least = refl };
    })

listed_values : (t : Terms) (o : Option CondId) → listed (option_map (cond t) o) ≡ map (cond t) (listed o)
listed_values t None = refl
listed_values t (Some y) = refl

listed_held : (t : Terms) (bound : List CondId) (o : Option CondId) → All (HasCond t) bound → ForSome o (HasCond t)
    → All (HasCond t) (bound ++ listed o)
listed_held t bound None h k = subst (All (HasCond t)) (sym (append-nil bound)) h
listed_held t bound (Some y) h k = All-push (HasCond t) bound y h (k y refl)

-- one more element is done
checks_on : (f : Condition → Checked Cond) (all : List Condition) (old : Option Refusal) (t u : Terms)
    (bound more : List CondId) (xs left : List Condition) (mid now : Option Refusal) (o : Option CondId)
    → ChecksLead f all old t bound (xs ++ left) mid → Stays t u
    → Gathers (check_each f xs) mid now (listed (option_map (cond u) o)) → ForSome o (HasCond u)
    → more ≡ bound ++ listed o → ChecksLead f all old u more left now
checks_on f all old t u bound more xs left mid now o l stays checked held added =
    let before = subst (λ (bs : List Cond). EachLeads f all old bs (xs ++ left) mid)
    (sym (conds_kept stays bound l.held)) l.leads in
    let values : map (cond u) bound ++ listed (option_map (cond u) o) ≡ map (cond u) (bound ++ listed o) =
    ap (λ (bs : List Cond). map (cond u) bound ++ bs) (listed_values u o)
    ∙ sym (map-append (cond u) bound (listed o)) in
    subst (λ (ys : List CondId). ChecksLead f all old u ys left now) (sym added) (record {
      held = listed_held u bound o (conds_there stays bound l.held) held;
      leads = subst (λ (bs : List Cond). EachLeads f all old bs left now) values
          (several_on f all old (map (cond u) bound) xs left mid now (listed (option_map (cond u) o)) before checked);
    })

-- the same for the first of the remaining elements
pub checks_next : (f : Condition → Checked Cond) (all : List Condition) (old : Option Refusal) (t u : Terms)
    (bound more : List CondId) (e : tree.Element) (es : List tree.Element) (mid now : Option Refusal)
    (o : Option CondId)
    → ChecksLead f all old t bound (checks_in (e ∷ es)) mid → Stays t u
    → Gathers (check_each f (checks_in (e ∷ []))) mid now (listed (option_map (cond u) o)) → ForSome o (HasCond u)
    → more ≡ bound ++ listed o → ChecksLead f all old u more (checks_in es) now
checks_next f all old t u bound more e es mid now o l stays checked held added =
    checks_on f all old t u bound more (checks_in (e ∷ [])) (checks_in es) mid now o
    (subst (λ (cs : List Condition). ChecksLead f all old t bound cs mid) (checks_split e es) l)
    stays checked held added

-- the same at an index
pub checks_item : (f : Condition → Checked Cond) (all : List Condition) (old : Option Refusal) (t u : Terms)
    (bound more : List CondId) (xs : List Element) (i : ℕ) (x : Element) (mid now : Option Refusal)
    (o : Option CondId)
    → i < length xs → x ≡ get_or xs i x
    → ChecksLead f all old t bound (checks_in (map element_of (drop i xs))) mid → Stays t u
    → Gathers (check_each f (checks_in (element_of x ∷ []))) mid now (listed (option_map (cond u) o))
    → ForSome o (HasCond u) → more ≡ bound ++ listed o
    → ChecksLead f all old u more (checks_in (map element_of (drop (i + 1) xs))) now
checks_item f all old t u bound more xs i x mid now o within is l stays checked held added =
    let next : drop i xs ≡ x ∷ drop (i + 1) xs = at_drop_more (λ (l' : List Element). l') xs i x within
    ∙ ap (λ (y : Element). y ∷ drop (i + 1) xs) (sym is) in
    checks_next f all old t u bound more (element_of x) (map element_of (drop (i + 1) xs)) mid now o
    (subst (λ (ys : List Element). ChecksLead f all old t bound (checks_in (map element_of ys)) mid) next l)
    stays checked held added

-- no element remains
pub checks_done : (f : Condition → Checked Cond) (all : List Condition) (old : Option Refusal) (t : Terms)
    (bound : List CondId) (xs : List Element) (i : ℕ) (now : Option Refusal) → length xs ≤ i
    → ChecksLead f all old t bound (checks_in (map element_of (drop i xs))) now
    → Gathers (check_each f all) old now (map (cond t) bound)
checks_done f all old t bound xs i now past l =
    each_ended f all old (map (cond t) bound) now
    (subst (λ (ys : List Element). ChecksLead f all old t bound (checks_in (map element_of ys)) now)
    (drop_all i xs past) l).leads
