-- Elements that are bound in order, while the terms of their statement grow.
use Rattle.std.proofs.Common.{◌≡◌, ℕ, ◌+◌, ◌<◌, ◌≤◌, List, [], ◌∷◌, ◌++◌, length, map, All, drop, get_or, refl, sym}
use Rattle.std.proofs.Common.{ap, ◌∙◌, subst}
use Rattle.std.specs.Prelude.{Option}
use Rattle.std.proofs.lemmas.List.{at_drop_more, drop_all, map-append}
use Rattle.std.proofs.lemmas.List.Elements.{All-nil, All-cons, All-head, All-tail, All-push}
use Rattle.tql_spec.specs.Names.{Checked, check_each}
use Rattle.tql_spec.specs.Refusal.{Refusal}
use Rattle.tql_expr.specs.Meaning.{Stays}
use Rattle.tql_expr.specs.declared.terms.Terms.{Terms}
use Rattle.tql_bind_expr.specs.Gathered.{Gathers}
use Rattle.tql_bind_expr.proofs.Arena.{stays_here, stays_along}
use Rattle.tql_bind_expr.proofs.Gathering.{EachLeads, each_on, each_ended}

-- an element in the arena stays there with the same meaning, as long as the terms stay
pub record IsKept {Y B : Type 0} (view : Terms → Y → B) (Held : Terms → Y → Type 0) : Type 0 where
  pub same : {t u : Terms} → Stays t u → (y : Y) → Held t y → view u y ≡ view t y
  pub there : {t u : Terms} → Stays t u → (y : Y) → Held t y → Held u y

-- all elements of a list
pub all_same : {Y B : Type 0} (view : Terms → Y → B) (Held : Terms → Y → Type 0) → IsKept view Held → {t u : Terms}
    → Stays t u → (ys : List Y) → All (Held t) ys → map (view u) ys ≡ map (view t) ys
all_same view Held kept {t} {u} s [] h = refl
all_same view Held kept {t} {u} s (y ∷ ys) h =
    let here = kept.same s y (All-head (Held t) y ys h) in
    let later = all_same view Held kept s ys (All-tail (Held t) y ys h) in
    λ i. here i ∷ later i

pub all_there : {Y B : Type 0} (view : Terms → Y → B) (Held : Terms → Y → Type 0) → IsKept view Held → {t u : Terms}
    → Stays t u → (ys : List Y) → All (Held t) ys → All (Held u) ys
all_there view Held kept {t} {u} s [] h = All-nil (Held u)
all_there view Held kept {t} {u} s (y ∷ ys) h =
    All-cons (Held u) y ys (kept.there s y (All-head (Held t) y ys h))
    (all_there view Held kept s ys (All-tail (Held t) y ys h))

-- the elements bound so far are in the arena, and with the remaining ones they give what all give
pub record EachGrows {Y A B : Type 0} (view : Terms → Y → B) (Held : Terms → Y → Type 0) (f : A
    → Checked B) (all : List A) (start : Terms) (old : Option Refusal) (t : Terms) (ys : List Y) (left : List A)
    (now : Option Refusal) : Type 0 where
  pub stays : Stays start t
  pub held : All (Held t) ys
  pub leads : EachLeads f all old (map (view t) ys) left now

-- one more element is bound, and its value pushed
grows_on : {Y A B : Type 0} (view : Terms → Y → B) (Held : Terms → Y → Type 0) (kept : IsKept view Held) (f : A
    → Checked B) (all : List A) (start : Terms) (old : Option Refusal) (t u : Terms) (ys zs : List Y) (y : Y) (a : A)
    (left : List A) (mid now : Option Refusal)
    → EachGrows view Held f all start old t ys (a ∷ left) mid
    → Stays t u → zs ≡ ys ++ y ∷ [] → Gathers (f a) mid now (view u y) → Held u y
    → EachGrows view Held f all start old u zs left now
grows_on {Y} {A} {B} view Held kept f all start old t u ys zs y a left mid now l s pushed checked h =
    let moved : EachLeads f all old (map (view u) ys) (a ∷ left) mid =
    subst (λ (bs : List B). EachLeads f all old bs (a ∷ left) mid) (sym (all_same view Held kept s ys l.held))
    l.leads in
    let is : map (view u) zs ≡ map (view u) ys ++ view u y ∷ [] = ap (map (view u)) pushed
    ∙ map-append (view u) ys (y ∷ []) in
    record {
      stays = stays_along l.stays s;
      held = subst (All (Held u)) (sym pushed) (All-push (Held u) ys y (all_there view Held kept s ys l.held) h);
      leads = subst (λ (bs : List B). EachLeads f all old bs left now) (sym is)
          (each_on f all old (map (view u) ys) a left mid now (view u y) moved checked);
    }

-- the first element is bound
pub grows_begun : {Y A B : Type 0} (view : Terms → Y → B) (Held : Terms → Y
    → Type 0) (kept : IsKept view Held) (f : A
    → Checked B) (start : Terms) (old : Option Refusal) (t : Terms) (zs : List Y) (y : Y) (a : A) (left : List A)
    (now : Option Refusal)
    → Stays start t → zs ≡ y ∷ [] → Gathers (f a) old now (view t y) → Held t y
    → EachGrows view Held f (a ∷ left) start old t zs left now
grows_begun view Held kept f start old t zs y a left now s pushed checked h =
    grows_on view Held kept f (a ∷ left) start old start t [] zs y a left old now
    (record {
      stays = stays_here start;
      held = All-nil (Held start);
      leads = record { value = refl; least = refl };
    }) s pushed checked h

-- the rest of a list from an index: its element and the elements after it
at_index : {X : Type 0} (xs : List X) (i : ℕ) (x : X) → i < length xs → x ≡ get_or xs i x
    → drop i xs ≡ x ∷ drop (i + 1) xs
at_index xs i x h is = at_drop_more (λ l. l) xs i x h ∙ ap (λ y. y ∷ drop (i + 1) xs) (sym is)

-- the element at an index is bound
pub grows_item : {X Y A B : Type 0} (view : Terms → Y → B) (Held : Terms → Y
    → Type 0) (kept : IsKept view Held) (f : A → Checked B) (g : X
    → A) (all : List A) (start : Terms) (old : Option Refusal) (t u : Terms) (xs : List X) (i : ℕ) (x : X)
    (ys zs : List Y) (y : Y) (mid now : Option Refusal)
    → i < length xs → x ≡ get_or xs i x → zs ≡ ys ++ y ∷ []
    → EachGrows view Held f all start old t ys (map g (drop i xs)) mid
    → Stays t u → Gathers (f (g x)) mid now (view u y) → Held u y
    → EachGrows view Held f all start old u zs (map g (drop (i + 1) xs)) now
grows_item {X} view Held kept f g all start old t u xs i x ys zs y mid now within is pushed l s checked h =
    let here = subst (λ (left : List X). EachGrows view Held f all start old t ys (map g left) mid)
    (at_index xs i x within is) l in
    grows_on view Held kept f all start old t u ys zs y (g x) (map g (drop (i + 1) xs)) mid now here s pushed checked h

-- no element remains
pub grows_done : {X Y A B : Type 0} (view : Terms → Y → B) (Held : Terms → Y → Type 0) (f : A → Checked B) (g : X
    → A) (all : List A) (start : Terms) (old : Option Refusal) (t : Terms) (xs : List X) (i : ℕ) (ys : List Y)
    (now : Option Refusal)
    → length xs ≤ i → EachGrows view Held f all start old t ys (map g (drop i xs)) now
    → Gathers (check_each f all) old now (map (view t) ys)
grows_done {X} view Held f g all start old t xs i ys now past l =
    each_ended f all old (map (view t) ys) now
    (subst (λ (left : List X). EachLeads f all old (map (view t) ys) (map g left) now) (drop_all i xs past) l.leads)
