-- Entries of a run: what is added to them and removed from them, and the side on which another entry lies.
use Rattle.std.specs.Prelude.{◌≡◌, refl, ℕ, zero, suc, ◌+◌, ◌<◌, ◌≤◌, true, false, List, [], ◌∷◌, ◌++◌, length}
use Rattle.std.specs.Prelude.{take, drop, Contains, ℤ}
use Rattle.std.specs.List.{insert, remove, sum_by}
use Rattle.std.specs.declared.cmp.Ordering.{Ordering}
use Rattle.std.specs.declared.cmp.Ordering.TheVariants.{Less, Equal, Greater}
use Rattle.std.specs.Ordering.{is_lt, is_eq}
use Rattle.std.specs.Int.{int_max}
use Rattle.std.proofs.Common.{arith, sym, ap, ◌∙◌, subst, get_or, inl, inr}
use Rattle.std.proofs.lemmas.Int.{ints, clamps}
use Rattle.std.proofs.lemmas.List.{length-take-le, take-append-drop, get_or-drop, length-drop, take_more}
use Rattle.std.proofs.lemmas.List.Elements.{Contains-append_cases}
use Rattle.std.proofs.lemmas.List.Sums.{sum_by-cons, sum_by-append}
use Rattle.tql_spec.specs.Bag.{SameBag}
use Rattle.tql_index.specs.Entry.{Entry}
use Rattle.tql_index.specs.Tree.{is_before, before, after, entry_cmp, IsInOrder, IsPlace, IsSide}
use Rattle.tql_index.specs.Tree.{greatest_end, IsRun}
use Rattle.tql_index.proofs.Branches.{greatest_end-append, least_below, greater_of}
use Rattle.tql_index.proofs.Counts.{none_if_all, all_by_index, one_fails, member_all, both}
use Rattle.tql_index.proofs.Counts.{member_none, either, count-cons, bit_none}
use Rattle.tql_index.proofs.Inversions.{inversions-append, crossings-cons_right, not_before_at}
use Rattle.tql_index.proofs.Inversions.{order_right}
use Rattle.tql_index.proofs.Order.{not_both, not_itself, before_later, after_earlier}
use Rattle.tql_index.proofs.Order.{same_if_neither, equal_is, equal_itself}

-- ---- an entry is added

pub inserted_order : (e : Entry) (es : List Entry) (k : ℕ) → IsPlace e es k → IsInOrder es → IsInOrder (insert es k e)
inserted_order e es k p h =
    let t = take k es in
    let d = drop k es in
    let w : IsInOrder (t ++ d) = subst (λ z. IsInOrder z) (sym (take-append-drop k es)) h in
    let n = length-take-le k es p.within in
    let a = none_if_all (λ x. is_before x e) (λ x. is_before e x) (λ x q. not_both x e q) t (p.all_before ∙ sym n) in
    omega (
      arith,
      inversions-append t (e ∷ d),
      inversions-append t d,
      crossings-cons_right t e d,
      p.none_before,
      a,
      w,
    )

pub inserted_bag : (e : Entry) (es : List Entry) (k : ℕ) → SameBag (insert es k e) (e ∷ es)
inserted_bag e es k = record {
  totals = λ w. omega (
    arith,
    sum_by-append w (take k es) (e ∷ drop k es),
    sum_by-append w (take k es) (drop k es),
    sum_by-cons w e (drop k es),
    sum_by-cons w e es,
    ap (sum_by w) (take-append-drop k es),
  );
}

-- an entry that is added and removed again
pub remove-insert : {X : Type 0} (xs : List X) (k : ℕ) (x : X) → k ≤ length xs → remove (insert xs k x) k ≡ xs
remove-insert [] zero x l = refl
remove-insert [] (suc k) x l = absurd (omega (arith, l))
remove-insert (y ∷ xs) zero x l = refl
remove-insert (y ∷ xs) (suc k) x l = ap (λ z. y ∷ z) (remove-insert xs k x (omega (arith, l)))

-- ---- an entry is removed

split_at : {X : Type 0} (xs : List X) (k : ℕ) (d : X) → k < length xs
    → xs ≡ take k xs ++ (get_or xs k d ∷ drop (suc k) xs)
split_at [] k d l = absurd (omega (arith, l))
split_at (x ∷ xs) zero d l = refl
split_at (x ∷ xs) (suc k) d l = ap (λ z. x ∷ z) (split_at xs k d (omega (arith, l)))

pub removed_bag : (e : Entry) (es : List Entry) (k : ℕ) → k < length es → get_or es k e ≡ e
    → SameBag es (e ∷ remove es k)
removed_bag e es k l h = record {
  totals = λ w. omega (
    arith,
    ap (sum_by w) (split_at es k e l),
    sum_by-append w (take k es) (get_or es k e ∷ drop (suc k) es),
    sum_by-append w (take k es) (drop (suc k) es),
    sum_by-cons w (get_or es k e) (drop (suc k) es),
    sum_by-cons w e (remove es k),
    ap w h,
  );
}

pub removed_order : (es : List Entry) (k : ℕ) (d : Entry) → k < length es → IsInOrder es → IsInOrder (remove es k)
removed_order es k d l h =
    let t = take k es in
    let r = drop (suc k) es in
    let x = get_or es k d in
    let w : IsInOrder (t ++ (x ∷ r)) = subst (λ z. IsInOrder z) (split_at es k d l) h in
    omega (arith, inversions-append t (x ∷ r), inversions-append t r, crossings-cons_right t x r, w)

-- the entry at the position equals the other one
pub is_found : (es : List Entry) (k : ℕ) (x e : Entry) (o : Ordering) → x ≡ get_or es k e → o ≡ entry_cmp x e
    → is_eq o ≡ true → get_or es k e ≡ e
is_found es k x e Less h c t = absurd (cc)
is_found es k x e Equal h c t = sym h ∙ equal_is x e c
is_found es k x e Greater h c t = absurd (cc)

-- no entry at its place or after it is e if the one at its place is not
not_after_place : (e : Entry) (es : List Entry) → before e es ≡ 0 → IsInOrder es
    → (0 < length es → get_or es 0 e ≡ e → ⊥) → Contains es e → ⊥
not_after_place e [] b h f (k, l, g) = absurd (omega (arith, l))
not_after_place e (x ∷ es) b h f c = elim (either x e es c) [
  | inl q ↦ f (omega arith) q
  | inr m ↦
      let u = bit_none (is_before x e) (omega (arith, b, count-cons (λ y. is_before y e) x es)) in
      let v = member_none (λ y. is_before y x) es e (omega (arith, h)) m in
      f (omega arith) (same_if_neither x e u v)
]

plus_zero : (k : ℕ) → k ≡ k + 0
plus_zero k = omega arith

pub not_placed : (e : Entry) (es : List Entry) (k : ℕ) → IsPlace e es k → IsInOrder es
    → (k < length es → get_or es k e ≡ e → ⊥) → Contains es e → ⊥
not_placed e es k p h f c =
    let w = subst (λ z. IsInOrder z) (sym (take-append-drop k es)) h in
    let m : Contains (take k es ++ drop k es) e =
    subst (λ z. Contains z e) (sym (take-append-drop k es)) c in
    let n = length-take-le k es p.within in
    elim (Contains-append_cases (take k es) (drop k es) e m) [
      | inl a ↦ both (is_before e e) (member_all (λ x. is_before x e) (take k es) e (p.all_before ∙ sym n) a)
          (not_itself e)
      | inr a ↦ not_after_place e (drop k es) p.none_before (order_right (take k es) (drop k es) w)
          (λ l g. f (omega (arith, l, length-drop k es)) (ap (λ z. get_or es z e) (plus_zero k)
          ∙ sym (get_or-drop k es 0 e) ∙ g)) a
    ]

pub not_found : (es : List Entry) (k : ℕ) (x e : Entry) (o : Ordering) → x ≡ get_or es k e → o ≡ entry_cmp x e
    → is_eq o ≡ false → get_or es k e ≡ e → ⊥
not_found es k x e o h c t g =
    let b : o ≡ Equal = c ∙ ap (λ z. entry_cmp z e) (h ∙ g) ∙ equal_itself e in
    let d = rw b at t in
    absurd (cc)

-- ---- the side of an entry

first_after : (e : Entry) (es : List Entry) (x : Entry) → IsInOrder es → x ≡ get_or es 0 x → is_before e x ≡ true
    → after e es ≡ length es
first_after e es x h f b = all_by_index (λ y. is_before e y) es x
    (λ k l. before_later e x (get_or es k x) b
    (subst (λ z. is_before (get_or es k x) z ≡ false) (sym f) (not_before_at es 0 k x h (omega arith) l)))

last_before : (e : Entry) (es : List Entry) (x : Entry) (n : ℕ) → IsInOrder es → n + 1 ≡ length es
    → x ≡ get_or es n x → is_before x e ≡ true → before e es ≡ length es
last_before e es x n h m f b = all_by_index (λ y. is_before y e) es x
    (λ k l. after_earlier e x (get_or es k x) b
    (subst (λ z. is_before z (get_or es k x) ≡ false) (sym f)
    (not_before_at es k n x h (omega (arith, l, m)) (omega (arith, m)))))

pub side_less : (e : Entry) (es : List Entry) (x : Entry) (o : Ordering) → IsInOrder es → x ≡ get_or es 0 x
    → o ≡ entry_cmp e x → is_lt o ≡ true → IsSide Less e es
side_less e es x o h f c t = first_after e es x h f (rw c at t)

pub side_greater : (e : Entry) (es : List Entry) (x : Entry) (n : ℕ) (o : Ordering) → IsInOrder es
    → x ≡ get_or es n x → n + 1 ≡ length es → o ≡ entry_cmp x e → is_lt o ≡ true → IsSide Greater e es
side_greater e es x n o h f l c t = last_before e es x n h l f (rw c at t)

pub side_within : (e : Entry) (es : List Entry) (x y : Entry) (n : ℕ) (o p : Ordering) → x ≡ get_or es 0 x
    → y ≡ get_or es n y → n + 1 ≡ length es → o ≡ entry_cmp e x → is_lt o ≡ false → p ≡ entry_cmp y e
    → is_lt p ≡ false → IsSide Equal e es
side_within e es x y n o p f r l c t d v = (
  one_fails (λ z. is_before e z) es 0 x (omega (arith, l)) (subst (λ z. is_before e z ≡ false) f (rw c at t)),
  one_fails (λ z. is_before z e) es n y (omega (arith, l)) (subst (λ z. is_before z e ≡ false) r (rw d at v)),
)

-- ---- the greatest end

pub end_more : (es : List Entry) (n : ℕ) (x : Entry) (g r : ℤ) → g ≡ greatest_end (take n es) → x ≡ get_or es n x
    → n < length es → r ≡ int_max g x.period.end → r ≡ greatest_end (take (n + 1) es)
end_more es n x g r h q l e =
    let t : take (n + 1) es ≡ take n es ++ (x ∷ []) =
    take_more es n x l ∙ ap (λ z. take n es ++ (z ∷ [])) (sym q) in
    let a = greatest_end-append (take n es) (x ∷ []) in
    let b = least_below (take n es) in
    rw t (omega (arith, ints, clamps, h, e, a, b))

-- ---- a run is joined to the run before it

pub is_joined : (es fs ms : List Entry) (g a b : ℤ) → ms ≡ es ++ fs → IsInOrder (es ++ fs) → length ms ≤ 32
    → g ≡ int_max a b → a ≡ greatest_end es → b ≡ greatest_end fs → IsRun ms g
is_joined es fs ms g a b e o l h p q = record {
  in_order = subst (λ z. IsInOrder z) (sym e) o;
  few = l;
  greatest_is = greater_of g g (greatest_end es) (greatest_end fs) a b h refl p q
      ∙ sym (greatest_end-append es fs) ∙ ap greatest_end (sym e);
}
