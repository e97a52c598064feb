-- An entry is added on one side, if there is memory for it.
use Rattle.std.specs.Prelude.{◌≡◌, ◌<◌, Bool, List, ◌∷◌, ◌++◌, ℤ, Result, Ok, Err, OnOk, OnErr, length}
use Rattle.std.specs.Result.{is_ok}
use Rattle.std.proofs.Common.{arith, sym, ap, ◌∙◌, subst, append_assoc}
use Rattle.std.specs.declared.cmp.Ordering.TheVariants.{Less, Equal, Greater}
use Rattle.tql_spec.specs.Bag.{SameBag}
use Rattle.tql_index.specs.Entry.{Entry}
use Rattle.tql_index.specs.Tree.{IsInOrder, HasRoom, greatest_end, WillBeGreatest}
use Rattle.tql_index.proofs.Greatest.{greatest_more}
use Rattle.tql_index.proofs.Bags.{length_of_one_more}
use Rattle.tql_index.proofs.Inversions.{order_right}
use Rattle.tql_tree_index.proofs.Sides.{add_left, add_right}
use Rattle.tql_tree_index.proofs.Sides.{add_left_order, add_right_order, add_within_order}

-- the entry was added to the list if the result is `Ok`, else nothing changed
pub record IsAdded {E : Type 0} (o : Result (Unit {0}) E) (e : Entry) (old new : List Entry) : Type 0 where
  pub added : OnOk o (SameBag new (e ∷ old))
  pub unchanged : OnErr o (new ≡ old)

pub order_with_left : {E : Type 0} (o : Result (Unit {0}) E) (e : Entry) (l m r k : List Entry) → HasRoom Less e l m r
    → IsAdded o e l k → IsInOrder k → IsInOrder (l ++ (m ++ r)) → IsInOrder (k ++ (m ++ r))
order_with_left (Ok v) e l m r k b a i h = add_left_order e l m r k b a.added i h
order_with_left (Err x) e l m r k b a i h = let q : k ≡ l = a.unchanged in rw q h

pub order_with_right : {E : Type 0} (o : Result (Unit {0}) E) (e : Entry) (l m r k : List Entry)
    → HasRoom Greater e l m r → IsAdded o e r k → IsInOrder k → IsInOrder (l ++ (m ++ r)) → IsInOrder (l ++ (m ++ k))
order_with_right (Ok v) e l m r k b a i h = add_right_order e l m r k b a.added i h
order_with_right (Err x) e l m r k b a i h = let q : k ≡ r = a.unchanged in rw q h

-- what is added on a side is added to the whole
pub with_left : {E : Type 0} (o : Result (Unit {0}) E) (e : Entry) (l m r k : List Entry) → IsAdded o e l k
    → IsAdded o e (l ++ (m ++ r)) (k ++ (m ++ r))
with_left (Ok v) e l m r k a = record { added = add_left e l m r k a.added; unchanged = tt }
with_left (Err x) e l m r k a =
    let q : k ≡ l = a.unchanged in record { added = tt; unchanged = ap (λ z. z ++ (m ++ r)) q }

pub with_right : {E : Type 0} (o : Result (Unit {0}) E) (e : Entry) (l m r k : List Entry) → IsAdded o e r k
    → IsAdded o e (l ++ (m ++ r)) (l ++ (m ++ k))
with_right (Ok v) e l m r k a = record { added = add_right e l m r k a.added; unchanged = tt }
with_right (Err x) e l m r k a =
    let q : k ≡ r = a.unchanged in record { added = tt; unchanged = ap (λ z. l ++ (m ++ z)) q }

-- an implication between facts about an `Err` result
pub on_err : {E : Type 0} {P Q : Type 0} (o : Result (Unit {0}) E) → (P → Q) → OnErr o P → OnErr o Q
on_err (Ok v) f h = tt
on_err (Err e) f h = f h

-- the same lists under other names
pub added_as : {E : Type 0} (o : Result (Unit {0}) E) (e : Entry) (old new x y : List Entry) → old ≡ x → new ≡ y
    → IsAdded o e x y → IsAdded o e old new
added_as o e old new x y h k a = rw (h, k) a

-- the greatest end from before the addition
pub greatest_with : {E : Type 0} (o : Result (Unit {0}) E) (b : Bool) (e : Entry) (old new : List Entry) (g n : ℤ)
    → b ≡ is_ok o → IsAdded o e old new → g ≡ greatest_end old → n ≡ e.period.end → WillBeGreatest b n g new
greatest_with (Ok v) b e old new g n h a f k = rw h (greatest_more e old new g n f k a.added)
greatest_with (Err x) b e old new g n h a f k =
    let q : new ≡ old = a.unchanged in rw h (f ∙ ap greatest_end (sym q))

-- ---- an entry is added to the run

pub order_within : {E : Type 0} (o : Result (Unit {0}) E) (e : Entry) (l m r k : List Entry) → HasRoom Equal e l m r
    → IsAdded o e m k → IsInOrder k → IsInOrder (l ++ (m ++ r)) → IsInOrder (l ++ (k ++ r))
order_within (Ok v) e l m r k b a i h = add_within_order e l m r k b a.added i h
order_within (Err x) e l m r k b a i h = let q : k ≡ m = a.unchanged in rw q h

pub some_with : {E : Type 0} (o : Result (Unit {0}) E) (e : Entry) (m k : List Entry) → IsAdded o e m k → 0 < length m
    → 0 < length k
some_with (Ok v) e m k a h = omega (arith, length_of_one_more e k m a.added)
some_with (Err x) e m k a h = let q : k ≡ m = a.unchanged in rw q h

-- the run is halved, and its upper half moves to the right side
pub halved_order : (e : Entry) (l m r a u : List Entry) → HasRoom Equal e l m r → SameBag (a ++ u) (e ∷ m)
    → IsInOrder (a ++ u) → IsInOrder (l ++ (m ++ r)) → IsInOrder (l ++ (a ++ (u ++ r)))
halved_order e l m r a u b s i h =
    subst (λ z. IsInOrder z) (ap (λ w. l ++ w) (append_assoc a u r)) (add_within_order e l m r (a ++ u) b s i h)

pub halved_rest : (e : Entry) (l m r a u : List Entry) → HasRoom Equal e l m r → SameBag (a ++ u) (e ∷ m)
    → IsInOrder (a ++ u) → IsInOrder (l ++ (m ++ r)) → IsInOrder (u ++ r)
halved_rest e l m r a u b s i h =
    order_right a (u ++ r) (order_right l (a ++ (u ++ r)) (halved_order e l m r a u b s i h))
