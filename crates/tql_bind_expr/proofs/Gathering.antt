-- How faults are collected.
use Rattle.std.specs.Prelude.{◌≡◌, refl, Bool, List, [], ◌∷◌, ◌++◌, Option, Some, None, Result, Ok, Err, IfOk}
use Rattle.std.specs.declared.alloc.AllocError.{AllocError}
use Rattle.std.proofs.Common.{ℕ, ◌+◌, ◌<◌, ◌≤◌, length, map, drop, get_or, sym, ap, subst, ◌∙◌, append-nil}
use Rattle.std.proofs.Common.{append_assoc}
use Rattle.std.proofs.lemmas.List.{at_drop_more, drop_all, map-append}
use Rattle.tql_spec.specs.Words.{listed}
use Rattle.tql_spec.specs.Refusal.{Refusal, first, fault_if}
use Rattle.tql_spec.specs.Names.{Checked, ◌>>=◌, sound, unless, refuse_if, check_each}
use Rattle.tql_spec.proofs.FirstFaults.{sooner, first_append}
use Rattle.tql_bind_expr.specs.Gathered.{after, Gathers}

-- the first of an optional fault is that fault
first_listed : (o : Option Refusal) → first (listed o) ≡ o
first_listed None = refl
first_listed (Some e) = refl

-- ---- the laws of `after`

-- an empty list changes nothing
pub after_nil : (o : Option Refusal) → after o [] ≡ o
unfolding after
after_nil o = ap first (append-nil (listed o)) ∙ first_listed o

-- two lists of faults, in order
pub after_append : (o : Option Refusal) (xs ys : List Refusal) → after o (xs ++ ys) ≡ after (after o xs) ys
unfolding after
after_append None xs ys =
    first_append xs ys ∙ ap (λ p. sooner p (first ys)) (sym (first_listed (first xs)))
    ∙ sym (first_append (listed (first xs)) ys)
after_append (Some e) xs ys =
    first_append (e ∷ xs) ys ∙ ap (λ p. sooner p (first ys)) (sym (first_listed (first (e ∷ xs))))
    ∙ sym (first_append (listed (first (e ∷ xs))) ys)

-- from no fault on, the result is the first fault of the list
pub after_none : (xs : List Refusal) → after None xs ≡ first xs
unfolding after
after_none xs = refl

-- ---- definitions in sequence

-- the rest of a definition gives, from the current fault, what the whole gives from the first one
pub record Leads {B : Type 0} (c : Checked B) (old : Option Refusal) (rest : Checked B) (now : Option Refusal) : Type
    0 where
  pub value : rest.value ≡ c.value
  pub least : after now rest.faults ≡ after old c.faults

-- the first part is done
pub begun : {A B : Type 0} (c : Checked A) (f : A → Checked B) (old now : Option Refusal) (x : A)
    → Gathers c old now x → Leads (c >>= f) old (f x) now
begun c f old now x g = record {
  value = ap (λ y. (f y).value) g.value;
  least =
      ap (λ o. after o (f x).faults) g.least
      ∙ ap (λ y. after (after old c.faults) (f y).faults) g.value
      ∙ sym (after_append old c.faults (f c.value).faults);
}

-- the next part is done
pub gone_on : {A B : Type 0} (d : Checked B) (old : Option Refusal) (c : Checked A) (f : A
    → Checked B) (mid now : Option Refusal) (x : A) → Leads d old (c >>= f) mid → Gathers c mid now x
    → Leads d old (f x) now
gone_on d old c f mid now x l g =
    let b = begun c f mid now x g in
    record { value = b.value ∙ l.value; least = b.least ∙ l.least }

-- only a value remains
pub ended : {B : Type 0} (c : Checked B) (old now : Option Refusal) (x : B) → Leads c old (sound x) now
    → Gathers c old now x
ended c old now x l = record { value = l.value; least = sym (after_nil now) ∙ l.least }

-- the last part is done
pub done : {B : Type 0} (c d : Checked B) (old mid now : Option Refusal) (x : B) → Leads c old d mid
    → Gathers d mid now x → Gathers c old now x
done c d old mid now x l g = record { value = g.value ∙ l.value; least = g.least ∙ l.least }

-- two definitions in sequence
pub bound : {A B : Type 0} (c : Checked A) (f : A → Checked B) (old mid now : Option Refusal) (x : A) (y : B)
    → Gathers c old mid x → Gathers (f x) mid now y → Gathers (c >>= f) old now y
bound c f old mid now x y g h = done (c >>= f) (f x) old mid now y (begun c f old mid x g) h

-- ---- lists

-- the elements checked so far and the remaining ones give what all give
pub record EachLeads {A B : Type 0} (f : A
    → Checked B) (all : List A) (old : Option Refusal) (bound : List B) (left : List A) (now : Option Refusal) : Type
    0 where
  pub value : bound ++ (check_each f left).value ≡ (check_each f all).value
  pub least : after now (check_each f left).faults ≡ after old (check_each f all).faults

-- one more element is checked
pub each_on : {A B : Type 0} (f : A
    → Checked B) (all : List A) (old : Option Refusal) (bound : List B) (x : A) (left : List A)
    (mid now : Option Refusal) (y : B) → EachLeads f all old bound (x ∷ left) mid → Gathers (f x) mid now y
    → EachLeads f all old (bound ++ y ∷ []) left now
each_on f all old bound x left mid now y l g =
    let behind = after_append mid (f x).faults (check_each f left).faults in
    let more = append-nil (check_each f left).faults in
    record {
      value =
          append_assoc bound (y ∷ []) (check_each f left).value
          ∙ ap (λ z. bound ++ z ∷ (check_each f left).value) g.value ∙ l.value;
      least =
          ap (λ o. after o (check_each f left).faults) g.least ∙ sym behind
          ∙ ap (λ es. after mid ((f x).faults ++ es)) (sym more) ∙ l.least;
    }

-- no element remains
pub each_ended : {A B : Type 0} (f : A
    → Checked B) (all : List A) (old : Option Refusal) (bound : List B) (now : Option Refusal)
    → EachLeads f all old bound [] now → Gathers (check_each f all) old now bound
each_ended f all old bound now l = record {
  value = sym (append-nil bound) ∙ l.value;
  least = sym (after_nil now) ∙ l.least;
}

-- a value without a fault
pub sound_here : {B : Type 0} (x : B) (now : Option Refusal) → Gathers (sound x) now now x
sound_here x now = record { value = refl; least = sym (after_nil now) }

-- nothing follows
pub alone : {B : Type 0} (c : Checked B) (old now : Option Refusal) (x : B) → Gathers c old now x
    → Gathers (c >>= sound) old now x
alone c old now x g = bound c sound old now now x x g (sound_here x now)

-- for `grind`
pub ruleset gathering = (after_nil, after_append)

-- ---- loops over a list, by index

-- the rest of a list from an index: its element and the elements after it
at_index : {X : Type 0} (xs : List X) (i : ℕ) (x : X) → i < length xs → x ≡ get_or xs i x
    → drop i xs ≡ x ∷ drop (i + 1) xs
at_index xs i x h is = at_drop_more (λ l. l) xs i x h ∙ ap (λ y. y ∷ drop (i + 1) xs) (sym is)

-- the next element
pub next_item : {X B : Type 0} (G : List X
    → Checked B) (d : Checked B) (old mid : Option Refusal) (xs : List X) (i : ℕ) (x : X) → i < length xs
    → x ≡ get_or xs i x → Leads d old (G (drop i xs)) mid → Leads d old (G (x ∷ drop (i + 1) xs)) mid
next_item G d old mid xs i x h is l = subst (λ ys. Leads d old (G ys) mid) (at_index xs i x h is) l

-- no next element
pub no_item : {X B : Type 0} (G : List X
    → Checked B) (d : Checked B) (old mid : Option Refusal) (xs : List X) (i : ℕ) → length xs ≤ i
    → Leads d old (G (drop i xs)) mid → Leads d old (G []) mid
no_item G d old mid xs i h l = subst (λ ys. Leads d old (G ys) mid) (drop_all i xs h) l

-- the next element is checked, and its value pushed
pub each_item : {X Y A B : Type 0} (f : A → Checked B) (g : X → A) (h : Y
    → B) (all : List A) (old mid now : Option Refusal) (xs : List X) (i : ℕ) (x : X) (ys zs : List Y) (y : Y)
    → i < length xs → x ≡ get_or xs i x → zs ≡ ys ++ y ∷ []
    → EachLeads f all old (map h ys) (map g (drop i xs)) mid → Gathers (f (g x)) mid now (h y)
    → EachLeads f all old (map h zs) (map g (drop (i + 1) xs)) now
each_item f g h all old mid now xs i x ys zs y within is pushed l checked =
    let here = subst (λ l'. EachLeads f all old (map h ys) (map g l') mid) (at_index xs i x within is) l in
    subst (λ bs. EachLeads f all old bs (map g (drop (i + 1) xs)) now) (sym (ap (map h) pushed
    ∙ map-append h ys (y ∷ [])))
    (each_on f all old (map h ys) (g x) (map g (drop (i + 1) xs)) mid now (h y) here checked)

-- no next element
pub each_done : {X Y A B : Type 0} (f : A → Checked B) (g : X → A) (h : Y
    → B) (all : List A) (old now : Option Refusal) (xs : List X) (i : ℕ) (ys : List Y)
    → length xs ≤ i → EachLeads f all old (map h ys) (map g (drop i xs)) now
    → Gathers (check_each f all) old now (map h ys)
each_done f g h all old now xs i ys past l =
    each_ended f all old (map h ys) now
    (subst (λ l'. EachLeads f all old (map h ys) (map g l') now) (drop_all i xs past) l)

-- ---- the result

-- from no fault on, the final fault is the first of all
pub first_is : {B : Type 0} (c : Checked B) (old new : Option Refusal) (x : B) → old ≡ None → Gathers c old new x
    → first c.faults ≡ new
first_is c old new x none g = sym (after_none c.faults) ∙ ap (λ o. after o c.faults) (sym none) ∙ sym g.least

-- ---- functions that end in a call

-- two definitions in sequence, the second as the last call
pub bound_ok : {A B Y : Type 0} (c : Checked A) (f : A → Checked B) (view : Y
    → B) (old mid now : Option Refusal) (x : A) (r : Result Y AllocError)
    → Gathers c old mid x → IfOk r (λ y. Gathers (f x) mid now (view y))
    → IfOk r (λ y. Gathers (c >>= f) old now (view y))
bound_ok c f view old mid now x (Ok y) g h = bound c f old mid now x (view y) g h
bound_ok c f view old mid now x (Err e) g h = tt

-- a value without a fault
pub sound_ok : {B Y : Type 0} (c : Checked B) (x : B) (view : Y → B) (old : Option Refusal) (r : Result Y AllocError)
    → c ≡ sound x → IfOk r (λ y. view y ≡ x) → IfOk r (λ y. Gathers c old old (view y))
sound_ok c x view old (Ok y) is h = subst (λ d. Gathers d old old (view y)) (sym is) (record {
  value = h;
  least = sym (after_nil old);
})
sound_ok c x view old (Err e) is h = tt

-- a value with a fault under a condition
pub unless_asked : {B : Type 0} (b b' : Bool) (e : Refusal) (x : B) (old new : Option Refusal) → b ≡ b'
    → Gathers (refuse_if b e) old new tt → Gathers (unless b' e x) old new x
unless_asked b b' e x old new is g = record { value = refl; least = g.least ∙ ap (λ t. after old (fault_if t e)) is }
