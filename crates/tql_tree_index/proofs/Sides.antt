-- The side of a run on which an entry lies.
use Rattle.std.specs.Prelude.{◌≡◌, refl, zero, ◌<◌, Bool, true, false, List, [], ◌∷◌, ◌++◌, length}
use Rattle.std.specs.Prelude.{Contains}
use Rattle.std.specs.declared.cmp.Ordering.{Ordering}
use Rattle.std.specs.declared.cmp.Ordering.TheVariants.{Less, Equal, Greater}
use Rattle.std.proofs.Common.{arith, ap, inl, inr}
use Rattle.std.proofs.lemmas.List.Elements.{Contains-append_cases}
use Rattle.std.proofs.lemmas.List.Sums.{sum_by-cons, sum_by-append}
use Rattle.tql_spec.specs.Bag.{SameBag}
use Rattle.tql_index.specs.Entry.{Entry, Removes}
use Rattle.tql_index.specs.Tree.{is_before, before, after, IsInOrder, IsSide, HasRoom}
use Rattle.tql_index.proofs.Counts.{bit_of_one, count-cons, count-append, none_weaker, none_if_all}
use Rattle.tql_index.proofs.Counts.{member_none, member_all, first_of_some, later_of_some, both, some_fails}
use Rattle.tql_index.proofs.Inversions.{crossings-cons_left, crossings-cons_right, crossings-bag_left}
use Rattle.tql_index.proofs.Inversions.{crossings-bag_right, at_left, at_right, in_parts, of_parts}
use Rattle.tql_index.proofs.Order.{not_before_again, not_both, not_itself, same_if_neither}

-- a list that is not empty has a member
head_of : (es : List Entry) → 0 < length es → (x : Entry) × Contains es x
head_of [] h = absurd (omega (arith, h))
head_of (x ∷ es) h = (x, first_of_some x es)

-- ---- room for an entry

-- nothing from a run on is before an entry that is before the run
pub room_left : (e : Entry) (l m r : List Entry) → IsSide Less e m → 0 < length m → IsInOrder (l ++ (m ++ r))
    → HasRoom Less e l m r
room_left e l m r s n h =
    let p = in_parts l m r h in
    let x = head_of m n in
    let b = member_all (λ y. is_before e y) m x.0 s x.1 in
    let in_run = none_if_all (λ y. is_before e y) (λ y. is_before y e) (λ y t. not_both e y t) m s in
    let beyond = none_weaker (λ y. is_before y x.0) (λ y. is_before y e)
    (λ y t. not_before_again y x.0 e t (not_both e x.0 b)) r (at_left m r x.0 p.mr x.1) in
    omega (arith, count-append (λ y. is_before y e) m r, in_run, beyond)

pub room_right : (e : Entry) (l m r : List Entry) → IsSide Greater e m → 0 < length m → IsInOrder (l ++ (m ++ r))
    → HasRoom Greater e l m r
room_right e l m r s n h =
    let p = in_parts l m r h in
    let x = head_of m n in
    let b = member_all (λ y. is_before y e) m x.0 s x.1 in
    let in_run = none_if_all (λ y. is_before y e) (λ y. is_before e y) (λ y t. not_both y e t) m s in
    let beyond = none_weaker (λ y. is_before x.0 y) (λ y. is_before e y)
    (λ y t. not_before_again e x.0 y (not_both x.0 e b) t) l (at_right l m x.0 p.lm x.1) in
    omega (arith, count-append (λ y. is_before e y) l m, in_run, beyond)

pub room_within : (e : Entry) (l m r : List Entry) → IsSide Equal e m → IsInOrder (l ++ (m ++ r))
    → HasRoom Equal e l m r
room_within e l m r s h =
    let p = in_parts l m r h in
    let x = some_fails (λ y. is_before e y) m s.0 in
    let z = some_fails (λ y. is_before y e) m s.1 in (
      none_weaker (λ y. is_before x.it y) (λ y. is_before e y) (λ y t. not_before_again e x.it y x.fails t) l
          (at_right l m x.it p.lm x.is_member),
      none_weaker (λ y. is_before y z.it) (λ y. is_before y e) (λ y t. not_before_again y z.it e t z.fails) r
          (at_left m r z.it p.mr z.is_member),
    )

pub room_any : (o : Ordering) (e : Entry) (l m r : List Entry) → IsSide o e m → 0 < length m
    → IsInOrder (l ++ (m ++ r)) → HasRoom o e l m r
room_any Less e l m r s n h = room_left e l m r s n h
room_any Equal e l m r s n h = room_within e l m r s h
room_any Greater e l m r s n h = room_right e l m r s n h

-- at an end of all entries, an entry outside the run has room in it
pub room_first : (e : Entry) (l m r : List Entry) → l ≡ [] → HasRoom Less e l m r → HasRoom Equal e l m r
room_first e l m r n h =
    (rw n refl, omega (arith, count-append (λ y. is_before y e) m r, h))

pub room_last : (e : Entry) (l m r : List Entry) → r ≡ [] → HasRoom Greater e l m r → HasRoom Equal e l m r
room_last e l m r n h =
    (omega (arith, count-append (λ y. is_before e y) l m, h), rw n refl)

-- ---- an entry is added

pub add_left_order : (e : Entry) (l m r k : List Entry) → HasRoom Less e l m r → SameBag k (e ∷ l) → IsInOrder k
    → IsInOrder (l ++ (m ++ r)) → IsInOrder (k ++ (m ++ r))
add_left_order e l m r k b s o h =
    let p = in_parts l m r h in
    let c = count-append (λ y. is_before y e) m r in
    of_parts k m r (record {
      left = o;
      middle = p.middle;
      right = p.right;
      lm = omega (arith, c, b, crossings-bag_left k (e ∷ l) m s, crossings-cons_left e l m, p.lm);
      lr = omega (arith, c, b, crossings-bag_left k (e ∷ l) r s, crossings-cons_left e l r, p.lr);
      mr = p.mr;
    })

pub add_right_order : (e : Entry) (l m r k : List Entry) → HasRoom Greater e l m r → SameBag k (e ∷ r) → IsInOrder k
    → IsInOrder (l ++ (m ++ r)) → IsInOrder (l ++ (m ++ k))
add_right_order e l m r k b s o h =
    let p = in_parts l m r h in
    let c = count-append (λ y. is_before e y) l m in
    of_parts l m k (record {
      left = p.left;
      middle = p.middle;
      right = o;
      lm = p.lm;
      lr = omega (arith, c, b, crossings-bag_right l k (e ∷ r) s, crossings-cons_right l e r, p.lr);
      mr = omega (arith, c, b, crossings-bag_right m k (e ∷ r) s, crossings-cons_right m e r, p.mr);
    })

pub add_within_order : (e : Entry) (l m r k : List Entry) → HasRoom Equal e l m r → SameBag k (e ∷ m) → IsInOrder k
    → IsInOrder (l ++ (m ++ r)) → IsInOrder (l ++ (k ++ r))
add_within_order e l m r k b s o h =
    let p = in_parts l m r h in
    of_parts l k r (record {
      left = p.left;
      middle = o;
      right = p.right;
      lm = omega (arith, b.0, crossings-bag_right l k (e ∷ m) s, crossings-cons_right l e m, p.lm);
      lr = p.lr;
      mr = omega (arith, b.1, crossings-bag_left k (e ∷ m) r s, crossings-cons_left e m r, p.mr);
    })

pub add_left : (e : Entry) (l m r k : List Entry) → SameBag k (e ∷ l) → SameBag (k ++ (m ++ r)) (e ∷ (l ++ (m ++ r)))
add_left e l m r k s = record {
  totals = λ w. omega (
    arith,
    s.totals w,
    sum_by-append w l (m ++ r),
    sum_by-append w k (m ++ r),
    sum_by-cons w e l,
    sum_by-cons w e (l ++ (m ++ r)),
  );
}

pub add_right : (e : Entry) (l m r k : List Entry) → SameBag k (e ∷ r) → SameBag (l ++ (m ++ k)) (e ∷ (l ++ (m ++ r)))
add_right e l m r k s = record {
  totals = λ w. omega (
    arith,
    s.totals w,
    sum_by-append w l (m ++ r),
    sum_by-append w l (m ++ k),
    sum_by-append w m r,
    sum_by-append w m k,
    sum_by-cons w e r,
    sum_by-cons w e (l ++ (m ++ r)),
  );
}

-- ---- an entry is removed

pub less_left_order : (b : Bool) (e : Entry) (l m r k : List Entry) → Removes b e l k → IsInOrder k
    → IsInOrder (l ++ (m ++ r)) → IsInOrder (k ++ (m ++ r))
less_left_order true e l m r k s o h =
    let p = in_parts l m r h in
    of_parts k m r (record {
      left = o;
      middle = p.middle;
      right = p.right;
      lm = omega (arith, crossings-bag_left l (e ∷ k) m s, crossings-cons_left e k m, p.lm);
      lr = omega (arith, crossings-bag_left l (e ∷ k) r s, crossings-cons_left e k r, p.lr);
      mr = p.mr;
    })
less_left_order false e l m r k s o h = rw s.0 h

pub less_right_order : (b : Bool) (e : Entry) (l m r k : List Entry) → Removes b e r k → IsInOrder k
    → IsInOrder (l ++ (m ++ r)) → IsInOrder (l ++ (m ++ k))
less_right_order true e l m r k s o h =
    let p = in_parts l m r h in
    of_parts l m k (record {
      left = p.left;
      middle = p.middle;
      right = o;
      lm = p.lm;
      lr = omega (arith, crossings-bag_right l r (e ∷ k) s, crossings-cons_right l e k, p.lr);
      mr = omega (arith, crossings-bag_right m r (e ∷ k) s, crossings-cons_right m e k, p.mr);
    })
less_right_order false e l m r k s o h = rw s.0 h

pub less_within_order : (b : Bool) (e : Entry) (l m r k : List Entry) → Removes b e m k → IsInOrder k
    → IsInOrder (l ++ (m ++ r)) → IsInOrder (l ++ (k ++ r))
less_within_order true e l m r k s o h =
    let p = in_parts l m r h in
    of_parts l k r (record {
      left = p.left;
      middle = o;
      right = p.right;
      lm = omega (arith, crossings-bag_right l m (e ∷ k) s, crossings-cons_right l e k, p.lm);
      lr = p.lr;
      mr = omega (arith, crossings-bag_left m (e ∷ k) r s, crossings-cons_left e k r, p.mr);
    })
less_within_order false e l m r k s o h = rw s.0 h

-- ---- an entry that is not there

-- an entry before a run is neither in the run nor on its right
not_from_run : (e : Entry) (l m r : List Entry) → IsSide Less e m → 0 < length m → IsInOrder (l ++ (m ++ r))
    → Contains (m ++ r) e → ⊥
not_from_run e l m r s n h c =
    let p = in_parts l m r h in
    let x = head_of m n in
    elim (Contains-append_cases m r e c) [
      | inl k ↦ both (is_before e e) (member_all (λ y. is_before e y) m e s k) (not_itself e)
      | inr k ↦ both (is_before e x.0) (member_all (λ y. is_before e y) m x.0 s x.1)
          (member_none (λ y. is_before y x.0) r e (at_left m r x.0 p.mr x.1) k)
    ]

not_to_run : (e : Entry) (l m r : List Entry) → IsSide Greater e m → 0 < length m → IsInOrder (l ++ (m ++ r))
    → (Contains l e → ⊥) × (Contains m e → ⊥)
not_to_run e l m r s n h =
    let p = in_parts l m r h in
    let x = head_of m n in (
      λ k. both (is_before x.0 e) (member_all (λ y. is_before y e) m x.0 s x.1)
          (member_none (λ y. is_before x.0 y) l e (at_right l m x.0 p.lm x.1) k),
      λ k. both (is_before e e) (member_all (λ y. is_before y e) m e s k) (not_itself e),
    )

either_way : (b : Bool) → (b ≡ false → ⊥) → b ≡ true
either_way true f = refl
either_way false f = absurd (f refl)

same_first : (x e : Entry) (es : List Entry) → x ≡ e → Contains (x ∷ es) e
same_first x e es h = (zero, omega arith, h)

-- the members of a list without e are before e or after it
others_after : (e : Entry) (es : List Entry) → before e es ≡ 0 → (Contains es e → ⊥) → after e es ≡ length es
others_after e [] h f = refl
others_after e (x ∷ es) h f =
    let c = count-cons (λ y. is_before y e) x es in
    let b = member_none (λ y. is_before y e) (x ∷ es) x h (first_of_some x es) in
    let t : is_before e x ≡ true = either_way (is_before e x)
    (λ g. f (same_first x e es (same_if_neither x e b g))) in
    omega (
      arith,
      count-cons (λ y. is_before e y) x es,
      bit_of_one (is_before e x) t,
      others_after e es (omega (arith, c, h)) (λ k. f (later_of_some x e es k)),
    )

others_before : (e : Entry) (es : List Entry) → after e es ≡ 0 → (Contains es e → ⊥) → before e es ≡ length es
others_before e [] h f = refl
others_before e (x ∷ es) h f =
    let c = count-cons (λ y. is_before e y) x es in
    let b = member_none (λ y. is_before e y) (x ∷ es) x h (first_of_some x es) in
    let t : is_before x e ≡ true = either_way (is_before x e)
    (λ g. f (same_first x e es (same_if_neither x e g b))) in
    omega (
      arith,
      count-cons (λ y. is_before y e) x es,
      bit_of_one (is_before x e) t,
      others_before e es (omega (arith, c, h)) (λ k. f (later_of_some x e es k)),
    )

-- an entry within a run that is not in it is on neither side
not_beside : (e : Entry) (l m r : List Entry) → IsSide Equal e m → IsInOrder (l ++ (m ++ r)) → (Contains m e → ⊥)
    → (Contains l e → ⊥) × (Contains r e → ⊥)
not_beside e l m r s h f =
    let p = in_parts l m r h in (
      λ k. absurd (omega (arith, s.0, others_after e m (at_left l m e p.lm k) f)),
      λ k. absurd (omega (arith, s.1, others_before e m (at_right m r e p.mr k) f)),
    )

pub less_left : (b : Bool) (e : Entry) (l m r k : List Entry) → IsSide Less e m → 0 < length m
    → IsInOrder (l ++ (m ++ r)) → Removes b e l k → Removes b e (l ++ (m ++ r)) (k ++ (m ++ r))
less_left true e l m r k d n h s = record {
  totals = λ w. omega (
    arith,
    s.totals w,
    sum_by-append w l (m ++ r),
    sum_by-append w k (m ++ r),
    sum_by-cons w e k,
    sum_by-cons w e (k ++ (m ++ r)),
  );
}
less_left false e l m r k d n h s = (
  ap (λ z. z ++ (m ++ r)) s.0,
  λ c. elim (Contains-append_cases l (m ++ r) e c) [ inl a ↦ s.1 a | inr a ↦ not_from_run e l m r d n h a ],
)

pub less_right : (b : Bool) (e : Entry) (l m r k : List Entry) → IsSide Greater e m → 0 < length m
    → IsInOrder (l ++ (m ++ r)) → Removes b e r k → Removes b e (l ++ (m ++ r)) (l ++ (m ++ k))
less_right true e l m r k d n h s = record {
  totals = λ w. omega (
    arith,
    s.totals w,
    sum_by-append w l (m ++ r),
    sum_by-append w l (m ++ k),
    sum_by-append w m r,
    sum_by-append w m k,
    sum_by-cons w e k,
    sum_by-cons w e (l ++ (m ++ k)),
  );
}
less_right false e l m r k d n h s =
    let q = not_to_run e l m r d n h in (
      ap (λ z. l ++ (m ++ z)) s.0,
      λ c. elim (Contains-append_cases l (m ++ r) e c) [
        | inl a ↦ q.0 a
        | inr a ↦ elim (Contains-append_cases m r e a) [ inl u ↦ q.1 u | inr u ↦ s.1 u ]
      ],
    )

pub less_within : (b : Bool) (e : Entry) (l m r k : List Entry) → IsSide Equal e m → IsInOrder (l ++ (m ++ r))
    → Removes b e m k → Removes b e (l ++ (m ++ r)) (l ++ (k ++ r))
less_within true e l m r k d h s = record {
  totals = λ w. omega (
    arith,
    s.totals w,
    sum_by-append w l (m ++ r),
    sum_by-append w l (k ++ r),
    sum_by-append w m r,
    sum_by-append w k r,
    sum_by-cons w e k,
    sum_by-cons w e (l ++ (k ++ r)),
  );
}
less_within false e l m r k d h s =
    let q = not_beside e l m r d h s.1 in (
      ap (λ z. l ++ (z ++ r)) s.0,
      λ c. elim (Contains-append_cases l (m ++ r) e c) [
        | inl a ↦ q.0 a
        | inr a ↦ elim (Contains-append_cases m r e a) [ inl u ↦ s.1 u | inr u ↦ q.1 u ]
      ],
    )

-- the same lists under other names
pub removes_as : (b : Bool) (e : Entry) (old new x y : List Entry) → old ≡ x → new ≡ y → Removes b e x y
    → Removes b e old new
removes_as b e old new x y h k s = rw (h, k) s
