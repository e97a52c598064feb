-- The order of the entries when sides are rotated: the same list is joined otherwise.
use Rattle.std.specs.Prelude.{◌≡◌, refl, ℕ, ◌+◌, ◌*◌, ◌^◌, ◌≤◌, List, [], ◌∷◌, ◌++◌, length}
use Rattle.std.proofs.Common.{arith, append_assoc, sym, ap, ◌∙◌, subst}
use Rattle.std.proofs.lemmas.List.{append-nil}
use Rattle.tql_index.specs.Entry.{Entry}
use Rattle.tql_index.specs.Tree.{IsInOrder}
use Rattle.tql_index.proofs.Inversions.{order_left, order_right}

-- the same list is in order
pub in_order_as : (xs ys : List Entry) → xs ≡ ys → IsInOrder xs → IsInOrder ys
in_order_as xs ys e h = subst (λ z. IsInOrder z) e h

-- x s y t z, joined to the right
pub joined_right : (x s y t z l : List Entry) → l ≡ x ++ (s ++ y) → l ++ (t ++ z) ≡ x ++ (s ++ (y ++ (t ++ z)))
joined_right x s y t z l e =
    ap (λ w. w ++ (t ++ z)) e ∙ append_assoc x (s ++ y) (t ++ z) ∙ ap (λ w. x ++ w) (append_assoc s y (t ++ z))

-- an inner side, between the top of the left side and the top
pub inner_right : (x s y t z l : List Entry) → l ≡ x ++ (s ++ y) → IsInOrder (l ++ (t ++ z))
    → IsInOrder (y ++ (t ++ z))
inner_right x s y t z l e h =
    order_right s (y ++ (t ++ z)) (order_right x (s ++ (y ++ (t ++ z)))
    (in_order_as (l ++ (t ++ z)) (x ++ (s ++ (y ++ (t ++ z)))) (joined_right x s y t z l e) h))

-- t x s y z, joined to the left
pub joined_left : (x t y s z r : List Entry) → r ≡ y ++ (s ++ z) → x ++ (t ++ r) ≡ (x ++ (t ++ y)) ++ (s ++ z)
joined_left x t y s z r e =
    ap (λ w. x ++ (t ++ w)) e ∙ ap (λ w. x ++ w) (sym (append_assoc t y (s ++ z)))
    ∙ sym (append_assoc x (t ++ y) (s ++ z))

pub inner_left : (x t y s z r : List Entry) → r ≡ y ++ (s ++ z) → IsInOrder (x ++ (t ++ r))
    → IsInOrder (x ++ (t ++ y))
inner_left x t y s z r e h =
    order_left (x ++ (t ++ y)) (s ++ z)
    (in_order_as (x ++ (t ++ r)) ((x ++ (t ++ y)) ++ (s ++ z)) (joined_left x t y s z r e) h)

-- ---- double rotations: x s (u m v) t z, whose inner top m becomes the top

pub double_joined : (x s u m v t z l y : List Entry) → l ≡ x ++ (s ++ y) → y ≡ u ++ (m ++ v)
    → l ++ (t ++ z) ≡ (x ++ (s ++ u)) ++ (m ++ (v ++ (t ++ z)))
double_joined x s u m v t z l y e f =
    joined_right x s y t z l e ∙ ap (λ w. x ++ (s ++ w)) (joined_right u m v t z y f)
    ∙ ap (λ w. x ++ w) (sym (append_assoc s u (m ++ (v ++ (t ++ z)))))
    ∙ sym (append_assoc x (s ++ u) (m ++ (v ++ (t ++ z))))

pub double_outer : (x s u m v t z l y : List Entry) → l ≡ x ++ (s ++ y) → y ≡ u ++ (m ++ v)
    → IsInOrder (l ++ (t ++ z)) → IsInOrder (x ++ (s ++ u))
double_outer x s u m v t z l y e f h =
    order_left (x ++ (s ++ u)) (m ++ (v ++ (t ++ z)))
    (in_order_as (l ++ (t ++ z)) ((x ++ (s ++ u)) ++ (m ++ (v ++ (t ++ z)))) (double_joined x s u m v t z l y e f) h)

pub double_inner : (x s u m v t z l y : List Entry) → l ≡ x ++ (s ++ y) → y ≡ u ++ (m ++ v)
    → IsInOrder (l ++ (t ++ z)) → IsInOrder (v ++ (t ++ z))
double_inner x s u m v t z l y e f h =
    order_right m (v ++ (t ++ z)) (order_right (x ++ (s ++ u)) (m ++ (v ++ (t ++ z)))
    (in_order_as (l ++ (t ++ z)) ((x ++ (s ++ u)) ++ (m ++ (v ++ (t ++ z)))) (double_joined x s u m v t z l y e f) h))

-- x t (u m v) s z: the mirror image
pub back_joined : (x t u m v s z r y : List Entry) → r ≡ y ++ (s ++ z) → y ≡ u ++ (m ++ v)
    → x ++ (t ++ r) ≡ (x ++ (t ++ u)) ++ (m ++ (v ++ (s ++ z)))
back_joined x t u m v s z r y e f =
    ap (λ w. x ++ (t ++ w)) (e ∙ joined_right u m v s z y f)
    ∙ ap (λ w. x ++ w) (sym (append_assoc t u (m ++ (v ++ (s ++ z)))))
    ∙ sym (append_assoc x (t ++ u) (m ++ (v ++ (s ++ z))))

pub back_outer : (x t u m v s z r y : List Entry) → r ≡ y ++ (s ++ z) → y ≡ u ++ (m ++ v)
    → IsInOrder (x ++ (t ++ r)) → IsInOrder (x ++ (t ++ u))
back_outer x t u m v s z r y e f h =
    order_left (x ++ (t ++ u)) (m ++ (v ++ (s ++ z)))
    (in_order_as (x ++ (t ++ r)) ((x ++ (t ++ u)) ++ (m ++ (v ++ (s ++ z)))) (back_joined x t u m v s z r y e f) h)

pub back_inner : (x t u m v s z r y : List Entry) → r ≡ y ++ (s ++ z) → y ≡ u ++ (m ++ v)
    → IsInOrder (x ++ (t ++ r)) → IsInOrder (v ++ (s ++ z))
back_inner x t u m v s z r y e f h =
    order_right m (v ++ (s ++ z)) (order_right (x ++ (t ++ u)) (m ++ (v ++ (s ++ z)))
    (in_order_as (x ++ (t ++ r)) ((x ++ (t ++ u)) ++ (m ++ (v ++ (s ++ z)))) (back_joined x t u m v s z r y e f) h))

-- ---- first entries are added

pub least_left : (m l n r t : List Entry) → t ≡ l ++ (n ++ r) → IsInOrder (m ++ t) → IsInOrder (m ++ l)
least_left m l n r t e h =
    order_left (m ++ l) (n ++ r)
    (in_order_as (m ++ t) ((m ++ l) ++ (n ++ r)) (ap (λ w. m ++ w) e ∙ sym (append_assoc m l (n ++ r))) h)

-- ---- first entries l are moved from a list t, which goes on with x, to the list m before it

-- the left side that has them becomes j, and m becomes k
pub moved : (m k l j x t : List Entry) → k ++ j ≡ m ++ l → t ≡ l ++ x → k ++ (j ++ x) ≡ m ++ t
moved m k l j x t h e =
    sym (append_assoc k j x) ∙ ap (λ w. w ++ x) h ∙ append_assoc m l x ∙ ap (λ w. m ++ w) (sym e)

pub moved_order : (m k l j x t : List Entry) → k ++ j ≡ m ++ l → t ≡ l ++ x → IsInOrder (m ++ t) → IsInOrder (j ++ x)
moved_order m k l j x t h e o =
    order_right k (j ++ x) (in_order_as (m ++ t) (k ++ (j ++ x)) (sym (moved m k l j x t h e)) o)

-- there is no left side, so the run n comes first
pub first_order : (m l n r t : List Entry) → l ≡ [] → t ≡ l ++ (n ++ r) → IsInOrder (m ++ t) → IsInOrder (m ++ n)
first_order m l n r t q e h =
    let w : m ++ t ≡ (m ++ n) ++ r =
    ap (λ z. m ++ z) (e ∙ ap (λ z. z ++ (n ++ r)) q) ∙ sym (append_assoc m n r) in
    order_left (m ++ n) r (in_order_as (m ++ t) ((m ++ n) ++ r) w h)

-- ---- a left side l that is one run s is joined to the run after it

pub one_run : (x s y l : List Entry) → x ≡ [] → y ≡ [] → l ≡ x ++ (s ++ y) → l ≡ s
one_run x s y l p q e = e ∙ ap (λ w. w ++ (s ++ y)) p ∙ ap (λ w. s ++ w) q ∙ append-nil s

pub last_order : (l s t z : List Entry) → l ≡ s → IsInOrder (l ++ (t ++ z)) → IsInOrder (s ++ t)
last_order l s t z e h =
    order_left (s ++ t) z
    (in_order_as (l ++ (t ++ z)) ((s ++ t) ++ z) (ap (λ w. w ++ (t ++ z)) e ∙ sym (append_assoc s t z)) h)

-- a tree without height has no entries
pub no_entries : (es : List Entry) (h : ℕ) → length es + 32 ≤ 32 * 2 ^ h → h ≡ 0 → es ≡ []
no_entries [] h d z = refl
no_entries (e ∷ es) h d z = let q = rw z at d in absurd (omega (arith, q))
