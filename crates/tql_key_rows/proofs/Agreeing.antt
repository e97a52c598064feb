-- In rows sorted by their tuples, the rows with one tuple are adjacent.
use Rattle.std.proofs.Common.{◌≡◌, ℕ, zero, suc, ◌+◌, ◌-◌, ◌<◌, ◌≤◌, Bool, true, false, List, [], ◌∷◌, map, length}
use Rattle.std.proofs.Common.{take, drop, refl, sym, ap, ◌∙◌, arith, ⊎_elim}
use Rattle.std.specs.Prelude.{◌&&◌, ◌||◌, slice_index_or}
use Rattle.std.specs.List.{AllWithin, list_any}
use Rattle.std.specs.List.Sorted.{IsNonDecreasingBy, IsPartitionedBy, IsPartitionPoint, IsSortedBy}
use Rattle.std.specs.declared.cmp.Ordering.{Ordering}
use Rattle.std.specs.declared.cmp.Ordering.TheVariants.{Less, Equal, Greater}
use Rattle.std.specs.Ordering.{is_eq, is_lt, is_le, ordering_index}
use Rattle.std.proofs.lemmas.Bool.{cases_lt}
use Rattle.std.proofs.lemmas.Cmp.{tied_itself}
use Rattle.std.proofs.lemmas.List.Sorted.{searchable_from_sorted}
use Rattle.tql_spec.specs.Datum.{Datum, Row}
use Rattle.tql_spec.specs.Definition.{cell}
use Rattle.tql_spec.specs.Query.{by_columns}
use Rattle.tql_spec.proofs.Members.{both, by_bool}
use Rattle.tql_spec.proofs.Orders.{by_columns-total}
use Rattle.tql_key_rows.specs.Touched.{tuple, has_tuple}
use Rattle.tql_key_rows.proofs.Tuples.{equals, equals_is}

-- ---- the elements between two positions

or_false : (a b : Bool) → a ≡ false → a || b ≡ b
or_false a b e = ap (λ c. c || b) e

-- if no element outside a range passes, some element passes exactly if one within the range does
any_between : {X : Type 0} (p : X → Bool) (xs : List X) (i n : ℕ) → i + n ≤ length xs
    → AllWithin (λ x. p x ≡ false) xs 0 i → AllWithin (λ x. p x ≡ false) xs (i + n) (length xs)
    → list_any p (take n (drop i xs)) ≡ list_any p xs
any_between p [] zero zero l a c = refl
any_between p [] zero (suc n) l a c = absurd (omega (arith, l))
any_between p [] (suc i) n l a c = absurd (omega (arith, l))
any_between p (x ∷ xs) zero zero l a c =
    any_between p xs zero zero (omega arith) (λ k d lo hi. absurd (omega (arith, hi)))
    (λ k d lo hi. c (suc k) d (omega arith) (omega (arith, hi)))
    ∙ sym (or_false (p x) (list_any p xs) (c 0 x (omega arith) (omega arith)))
any_between p (x ∷ xs) zero (suc n) l a c =
    ap (λ b. p x || b)
    (any_between p xs zero n (omega (arith, l)) (λ k d lo hi. absurd (omega (arith, hi)))
    (λ k d lo hi. c (suc k) d (omega (arith, lo)) (omega (arith, hi))))
any_between p (x ∷ xs) (suc i) n l a c =
    any_between p xs i n (omega (arith, l)) (λ k d lo hi. a (suc k) d (omega arith) (omega (arith, hi)))
    (λ k d lo hi. c (suc k) d (omega (arith, lo)) (omega (arith, hi)))
    ∙ sym (or_false (p x) (list_any p xs) (a 0 x (omega arith) (omega arith)))

-- whether some element of a mapped list passes
pub any_map : {A B : Type 0} (p : B → Bool) (f : A → B) (xs : List A)
    → list_any p (map f xs) ≡ list_any (λ x. p (f x)) xs
any_map p f [] = refl
any_map p f (x ∷ xs) = ap (λ b. p (f x) || b) (any_map p f xs)

-- ---- tests of an order

lt_before : (o p : Ordering) → ordering_index o ≤ ordering_index p → is_lt p ≡ true → is_lt o ≡ true
lt_before Less p l h = refl
lt_before Equal Less l h = absurd (omega (arith, l))
lt_before Equal Equal l h = h
lt_before Equal Greater l h = h
lt_before Greater Less l h = absurd (omega (arith, l))
lt_before Greater Equal l h = h
lt_before Greater Greater l h = h

le_before : (o p : Ordering) → ordering_index o ≤ ordering_index p → is_le p ≡ true → is_le o ≡ true
le_before Less p l h = refl
le_before Equal p l h = refl
le_before Greater Less l h = absurd (omega (arith, l))
le_before Greater Equal l h = absurd (omega (arith, l))
le_before Greater Greater l h = h

below_never : (o : Ordering) → is_lt o ≡ true → is_eq o ≡ false
below_never Less h = refl
below_never Equal h = absurd (cc)
below_never Greater h = refl

above_never : (o : Ordering) → is_le o ≡ false → is_eq o ≡ false
above_never Less h = absurd (cc)
above_never Equal h = absurd (cc)
above_never Greater h = refl

not_both : (o : Ordering) → is_lt o ≡ true → is_le o ≡ false → ⊥
not_both Less h k = cc
not_both Equal h k = cc
not_both Greater h k = cc

-- ---- rows with a tuple

-- a row that has a tuple: its own tuple is that one
has_is : (cs : List ℕ) (vs : List Datum) (r : Row) → has_tuple cs vs r ≡ true → tuple cs r ≡ vs
has_is [] [] r e = refl
has_is [] (v ∷ vs) r e = cc
has_is (c ∷ cs) [] r e = cc
has_is (c ∷ cs) (v ∷ vs) r e =
    let b = both (equals (cell r c) v) (has_tuple cs vs r) e in
    let x = equals_is (cell r c) v b.0 in
    let y = has_is cs vs r b.1 in
    cc

-- a row whose tuple compares differently does not have the tuple
has_not : (cs : List ℕ) (vs : List Datum) (r : Row) → is_eq (by_columns (tuple cs r) vs) ≡ false
    → has_tuple cs vs r ≡ false
has_not cs vs r n = by_bool (has_tuple cs vs r)
    (λ e. let h : is_eq (by_columns (tuple cs r) vs) ≡ true =
    ap is_eq (ap (λ t. by_columns t vs) (has_is cs vs r e) ∙ tied_itself by_columns-total vs) in
    let w : true ≡ false = sym h ∙ n in absurd (cc))
    (λ e. e)

an_element : {A : Type 0} (xs : List A) (n : ℕ) → n < length xs → A
an_element [] n l = absurd (omega (arith, l))
an_element (x ∷ xs) n l = x

module _ {A : Type 0} (view : A → Row) (cs : List ℕ) (vs : List Datum) (rows : List A) where
  abbrev by_tuple : A → Ordering
  by_tuple r = by_columns (tuple cs (view r)) vs

  abbrev pub AreSorted : Type 0
  AreSorted = IsSortedBy (λ r s. is_lt (by_columns (tuple cs (view r)) (tuple cs (view s)))) rows

  rising : AreSorted → IsNonDecreasingBy (λ r. ordering_index (by_tuple r)) rows
  rising up = searchable_from_sorted by_columns-total (λ r. tuple cs (view r)) rows vs up

  pub below_first : AreSorted → IsPartitionedBy (λ r. is_lt (by_tuple r)) rows
  below_first up i j d l h = lt_before (by_tuple (slice_index_or rows i d)) (by_tuple (slice_index_or rows j d))
      (rising up i j d l h)

  pub upto_first : AreSorted → IsPartitionedBy (λ r. is_le (by_tuple r)) rows
  upto_first up i j d l h = le_before (by_tuple (slice_index_or rows i d)) (by_tuple (slice_index_or rows j d))
      (rising up i j d l h)

  abbrev pub Begins : ℕ → Type 0
  Begins i = IsPartitionPoint (λ r. is_lt (by_tuple r) ≡ true) (λ r. is_lt (by_tuple r) ≡ false) rows i

  abbrev pub Ends : ℕ → Type 0
  Ends j = IsPartitionPoint (λ r. is_le (by_tuple r) ≡ true) (λ r. is_le (by_tuple r) ≡ false) rows j

  pub begins_first : (i j : ℕ) → i ≤ length rows → Begins i → Ends j → i ≤ j
  begins_first i j l a b = ⊎_elim
      (λ h. let d = an_element rows j (omega (arith, h, l)) in
      absurd (not_both (by_tuple (slice_index_or rows j d)) (a.0 j d (omega arith) h)
      (b.1 j d (omega arith) (omega (arith, h, l)))))
      (λ h. h) (cases_lt j i)

  -- whether a row with the tuple passes a test depends only on the rows between two positions
  pub some_between : (test : Row → Bool) (i j : ℕ) → i ≤ length rows → j ≤ length rows → Begins i → Ends j
      → list_any (λ r. has_tuple cs vs (view r) && test (view r)) (take (j - i) (drop i rows))
      ≡ list_any (λ r. has_tuple cs vs (view r) && test (view r)) rows
  some_between test i j l m a b =
      let first = begins_first i j l a b in
      let e : i + (j - i) ≡ j = omega (arith, first) in
      let elsewhere : (r : A) → is_eq (by_tuple r) ≡ false → has_tuple cs vs (view r) && test (view r) ≡ false =
      λ r n. ap (λ c. c && test (view r)) (has_not cs vs (view r) n) in
      any_between (λ r. has_tuple cs vs (view r) && test (view r)) rows i (j - i) (omega (arith, e, m))
      (λ k f lo hi. elsewhere (slice_index_or rows k f) (below_never _ (a.0 k f lo hi)))
      (λ k f lo hi. elsewhere (slice_index_or rows k f) (above_never _ (b.1 k f (omega (arith, lo, e)) hi)))
