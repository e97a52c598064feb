-- Parts that are bound in order, with a list of values each.
use Rattle.std.proofs.Common.{◌≡◌, ℕ, ◌+◌, ◌<◌, ◌≤◌, List, ◌∷◌, ◌++◌, length, map, drop, get_or, sym, subst}
use Rattle.std.proofs.Common.{ap, ◌∙◌, append-nil, append_assoc}
use Rattle.std.specs.Prelude.{Option}
use Rattle.std.proofs.lemmas.List.{drop_all, at_drop_more}
use Rattle.tql_spec.specs.Names.{Checked}
use Rattle.tql_spec.specs.Refusal.{Refusal}
use Rattle.tql_bind_expr.specs.Gathered.{after, Gathers}
use Rattle.tql_bind_expr.proofs.Gathering.{after_nil, after_append}
use Rattle.tql_bind_table.specs.NewTables.{flat_each}

-- the elements checked so far and the remaining ones give what all give
pub record FlatLeads {A B : Type 0} (f : A
    → Checked (List B)) (all : List A) (old : Option Refusal) (bound : List B) (left : List A) (now : Option Refusal)
    : Type 0 where
  pub value : bound ++ (flat_each f left).value ≡ (flat_each f all).value
  pub least : after now (flat_each f left).faults ≡ after old (flat_each f all).faults

-- one more element is checked
flat_on : {A B : Type 0} (f : A
    → Checked (List B)) (all : List A) (old : Option Refusal) (bound : List B) (x : A) (left : List A)
    (mid now : Option Refusal) (ys : List B) → FlatLeads f all old bound (x ∷ left) mid → Gathers (f x) mid now ys
    → FlatLeads f all old (bound ++ ys) left now
flat_on {A} {B} f all old bound x left mid now ys l g =
    let behind = after_append mid (f x).faults (flat_each f left).faults in
    let more = append-nil (flat_each f left).faults in
    record {
      value =
          append_assoc bound ys (flat_each f left).value
          ∙ ap (λ (zs : List B). bound ++ (zs ++ (flat_each f left).value)) g.value ∙ l.value;
      least =
          ap (λ (o : Option Refusal). after o (flat_each f left).faults) g.least ∙ sym behind
          ∙ ap (λ (es : List Refusal). after mid ((f x).faults ++ es)) (sym more) ∙ l.least;
    }

-- the next element is checked, and its values added
pub flat_item : {X Y A B : Type 0} (f : A → Checked (List B)) (g : X → A) (h : Y
    → B) (all : List A) (old mid now : Option Refusal) (xs : List X) (i : ℕ) (x : X) (ys zs : List Y) (more : List B)
    → i < length xs → x ≡ get_or xs i x → map h zs ≡ map h ys ++ more
    → FlatLeads f all old (map h ys) (map g (drop i xs)) mid → Gathers (f (g x)) mid now more
    → FlatLeads f all old (map h zs) (map g (drop (i + 1) xs)) now
flat_item {X} {Y} {A} {B} f g h all old mid now xs i x ys zs more within is added l checked =
    let next : drop i xs ≡ x ∷ drop (i + 1) xs = at_drop_more (λ (l' : List X). l') xs i x within
    ∙ ap (λ (y : X). y ∷ drop (i + 1) xs) (sym is) in
    let here = subst (λ (l' : List X). FlatLeads f all old (map h ys) (map g l') mid) next l in
    subst (λ (bs : List B). FlatLeads f all old bs (map g (drop (i + 1) xs)) now) (sym added)
    (flat_on f all old (map h ys) (g x) (map g (drop (i + 1) xs)) mid now more here checked)

-- no element remains
pub flat_done : {X Y A B : Type 0} (f : A → Checked (List B)) (g : X → A) (h : Y
    → B) (all : List A) (old now : Option Refusal) (xs : List X) (i : ℕ) (ys : List Y)
    → length xs ≤ i → FlatLeads f all old (map h ys) (map g (drop i xs)) now
    → Gathers (flat_each f all) old now (map h ys)
flat_done {X} {Y} {A} {B} f g h all old now xs i ys past l =
    let end = subst (λ (l' : List X). FlatLeads f all old (map h ys) (map g l') now) (drop_all i xs past) l in
    record { value = sym (append-nil (map h ys)) ∙ end.value; least = sym (after_nil now) ∙ end.least }
