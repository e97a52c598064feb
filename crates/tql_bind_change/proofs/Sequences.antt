-- Parts that are bound in order.
use Rattle.std.proofs.Common.{◌≡◌, ℕ, ◌+◌, ◌<◌, ◌≤◌, List, [], ◌∷◌, ◌++◌, length, map, drop, get_or, sym, subst}
use Rattle.std.specs.Prelude.{Option}
use Rattle.std.proofs.lemmas.List.{map-id, drop_all}
use Rattle.tql_spec.specs.Names.{Checked, check_each}
use Rattle.tql_spec.specs.Refusal.{Refusal}
use Rattle.tql_bind_expr.specs.Gathered.{Gathers}
use Rattle.tql_bind_expr.proofs.Gathering.{EachLeads, each_item, each_ended}

-- the next element is checked, and its value pushed
pub plain_item : {X A B : Type 0} (f : A → Checked B) (g : X
    → A) (all : List A) (old mid now : Option Refusal) (xs : List X) (i : ℕ) (x : X) (ys zs : List B) (y : B)
    → i < length xs → x ≡ get_or xs i x → zs ≡ ys ++ y ∷ []
    → EachLeads f all old ys (map g (drop i xs)) mid → Gathers (f (g x)) mid now y
    → EachLeads f all old zs (map g (drop (i + 1) xs)) now
plain_item {X} {A} {B} f g all old mid now xs i x ys zs y within is pushed l checked =
    let here : EachLeads f all old (map (λ (b : B). b) ys) (map g (drop i xs)) mid =
    subst (λ (bs : List B). EachLeads f all old bs (map g (drop i xs)) mid) (sym (map-id ys)) l in
    subst (λ (bs : List B). EachLeads f all old bs (map g (drop (i + 1) xs)) now) (map-id zs)
    (each_item f g (λ (b : B). b) all old mid now xs i x ys zs y within is pushed here checked)

-- no element remains
pub plain_done : {X A B : Type 0} (f : A → Checked B) (g : X
    → A) (all : List A) (old now : Option Refusal) (xs : List X) (i : ℕ) (ys : List B)
    → length xs ≤ i → EachLeads f all old ys (map g (drop i xs)) now → Gathers (check_each f all) old now ys
plain_done {X} {A} {B} f g all old now xs i ys past l =
    each_ended f all old ys now
    (subst (λ (left : List X). EachLeads f all old ys (map g left) now) (drop_all i xs past) l)
