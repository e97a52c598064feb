-- Parts that are bound in order, from copies of the syntax tree.
use Rattle.std.proofs.Common.{◌≡◌, refl, ℕ, zero, suc, ◌+◌, ◌<◌, ◌≤◌, List, [], ◌∷◌, ◌++◌, length, map, drop, get_or}
use Rattle.std.proofs.Common.{sym, subst, arith}
use Rattle.std.specs.Prelude.{Option}
use Rattle.std.proofs.lemmas.List.{map-id, drop_all}
use Rattle.tql_spec.specs.Names.{Checked, check_each}
use Rattle.tql_spec.specs.Refusal.{Refusal}
use Rattle.tql_bind_expr.specs.Gathered.{Gathers}
use Rattle.tql_bind_expr.proofs.Gathering.{EachLeads, each_item, each_ended}

-- the element at an index within a list does not depend on the default
same_there : {X : Type 0} (xs : List X) (i : ℕ) (d e : X) → i < length xs → get_or xs i d ≡ get_or xs i e
same_there [] i d e h = absurd (omega arith)
same_there (x ∷ xs) zero d e h = refl
same_there (x ∷ xs) (suc i) d e h = same_there xs i d e (omega (arith, h))

-- the next element is checked, and its value pushed
pub copied_item : {X Y A B : Type 0} (f : A → Checked B) (g : X → A) (h : Y
    → B) (all : List A) (old mid now : Option Refusal) (xs : List X) (i : ℕ) (d : X) (ys zs : List Y) (y : Y)
    → i < length xs → zs ≡ ys ++ y ∷ [] → EachLeads f all old (map h ys) (map g (drop i xs)) mid
    → Gathers (f (g (get_or xs i d))) mid now (h y)
    → EachLeads f all old (map h zs) (map g (drop (i + 1) xs)) now
copied_item f g h all old mid now xs i d ys zs y within pushed l checked =
    each_item f g h all old mid now xs i (get_or xs i d) ys zs y within (same_there xs i d (get_or xs i d) within)
    pushed l checked

-- the same, if the value is pushed without a view
pub plain_item : {X A B : Type 0} (f : A → Checked B) (g : X
    → A) (all : List A) (old mid now : Option Refusal) (xs : List X) (i : ℕ) (d : X) (ys zs : List B) (y : B)
    → i < length xs → zs ≡ ys ++ y ∷ [] → EachLeads f all old ys (map g (drop i xs)) mid
    → Gathers (f (g (get_or xs i d))) mid now y
    → EachLeads f all old zs (map g (drop (i + 1) xs)) now
plain_item {X} {A} {B} f g all old mid now xs i d ys zs y within pushed l checked =
    let here : EachLeads f all old (map (λ (b : B). b) ys) (map g (drop i xs)) mid =
    subst (λ (bs : List B). EachLeads f all old bs (map g (drop i xs)) mid) (sym (map-id ys)) l in
    subst (λ (bs : List B). EachLeads f all old bs (map g (drop (i + 1) xs)) now) (map-id zs)
    (copied_item f g (λ (b : B). b) all old mid now xs i d ys zs y within pushed here checked)

-- no element remains
pub plain_done : {X A B : Type 0} (f : A → Checked B) (g : X
    → A) (all : List A) (old now : Option Refusal) (xs : List X) (i : ℕ) (ys : List B)
    → length xs ≤ i → EachLeads f all old ys (map g (drop i xs)) now → Gathers (check_each f all) old now ys
plain_done {X} {A} {B} f g all old now xs i ys past l =
    each_ended f all old ys now
    (subst (λ (left : List X). EachLeads f all old ys (map g left) now) (drop_all i xs past) l)
