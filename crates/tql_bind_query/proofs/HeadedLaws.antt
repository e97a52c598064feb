-- Headings with their indexes: sorted, the headings of a name are adjacent, from the left.
use Rattle.std.proofs.Common.{◌≡◌, refl, sym, ap, subst, ◌∙◌, ℕ, zero, suc, ◌+◌, ◌-◌, ◌<◌, ◌≤◌, Bool, true, false, List}
use Rattle.std.proofs.Common.{[], ◌∷◌, ◌++◌, map, length, take, drop, arith, ⊎_elim}
use Rattle.std.specs.Prelude.{not, ◌&&◌, if◌then◌else◌, slice_index_or}
use Rattle.std.specs.Cmp.Lexicographic.{slice_cmp}
use Rattle.std.specs.List.{AllWithin, filter}
use Rattle.std.specs.List.Sorted.{ties, IsNonDecreasingBy, IsPartitionedBy, IsPartitionPoint, IsStableBy}
use Rattle.std.specs.declared.cmp.Ordering.{Ordering}
use Rattle.std.specs.declared.cmp.Ordering.TheVariants.{Less, Equal, Greater}
use Rattle.std.specs.Ordering.{is_eq, is_lt, is_le, nat_cmp, ordering_index, ordering_reverse}
use Rattle.std.proofs.lemmas.Bool.{cases_lt}
use Rattle.std.proofs.lemmas.Cmp.{nat_list_cmp_total}
use Rattle.std.proofs.lemmas.List.Sorted.{searchable_from_sorted}
use Rattle.tql_spec.specs.Binding.{places_of}
use Rattle.tql_spec.specs.Definition.{Name}
use Rattle.tql_spec.specs.Words.{same_text}
use Rattle.tql_bind_query.specs.Headed.{Headed, headed_from, headed_of, is_before, place_in, AreRising}
use Rattle.tql_bind_query.specs.declared.sorted_headings.Heading.{Heading}

-- ---- the indexes of a name

abbrev is_named : Name → Headed → Bool
is_named n h = same_text n h.name

abbrev pub names_it : Name → Heading → Bool
names_it n h = same_text n h.name.now

place_first : (b : Bool) (h : Headed) (hs : List Headed)
    → map (λ (x : Headed). x.place) (if b then h ∷ hs else hs)
    ≡ (if b then h.place ∷ [] else []) ++ map (λ (x : Headed). x.place) hs
place_first true h hs = refl
place_first false h hs = refl

places_are : (n : Name) (i : ℕ) (hs : List Name)
    → map (λ (x : Headed). x.place) (filter (is_named n) (headed_from i hs)) ≡ places_of n i hs
places_are n i [] = refl
places_are n i (h ∷ hs) =
    place_first (same_text n h) (record { name = h; place = i }) (filter (is_named n) (headed_from (suc i) hs))
    ∙ ap (λ ps. (if same_text n h then i ∷ [] else []) ++ ps) (places_are n (suc i) hs)

placed_alike : (b : Bool) (h : Heading) (xs : List Heading) (ys : List Headed)
    → map place_in xs ≡ map (λ (x : Headed). x.place) ys
    → map place_in (if b then h ∷ xs else xs) ≡ map (λ (x : Headed). x.place) (if b then headed_of h ∷ ys else ys)
placed_alike true h xs ys e = ap (λ ps. h.place ∷ ps) e
placed_alike false h xs ys e = e

seen_places : (n : Name) (s : List Heading)
    → map place_in (filter (names_it n) s) ≡ map (λ (x : Headed). x.place) (filter (is_named n) (map headed_of s))
seen_places n [] = refl
seen_places n (h ∷ s) = placed_alike (same_text n h.name.now) h (filter (names_it n) s)
    (filter (is_named n) (map headed_of s)) (seen_places n s)

-- ---- names that compare as equal are the same

tied_is : (o : Ordering) → not (is_lt (ordering_reverse o)) && not (is_lt o) ≡ is_eq (ordering_reverse o)
tied_is Less = refl
tied_is Equal = refl
tied_is Greater = refl

ties_are : (x h : Heading) → ties is_before x h ≡ same_text x.name.now h.name.now
ties_are x h =
    let o = slice_cmp nat_cmp h.name.now x.name.now in
    subst (λ (p : Ordering). not (is_lt p) && not (is_lt o) ≡ is_eq p)
    (sym (nat_list_cmp_total.antisymm x.name.now h.name.now)) (tied_is o)

-- a stable sort keeps the indexes of each name in order
pub places_stay : (names : List Name) (old new : List Heading) (x : Heading)
    → map headed_of old ≡ headed_from 0 names → IsStableBy is_before old new
    → map place_in (filter (names_it x.name.now) new) ≡ places_of x.name.now 0 names
places_stay names old new x numbered stable =
    let n = x.name.now in
    let is : ties is_before x ≡ names_it n = λ i h. ties_are x h i in
    let kept : filter (names_it n) new ≡ filter (names_it n) old =
    sym (ap (λ p. filter p new) is) ∙ stable x ∙ ap (λ p. filter p old) is in
    ap (map place_in) kept ∙ seen_places n old
    ∙ ap (λ hs. map (λ (h : Headed). h.place) (filter (is_named n) hs)) numbered ∙ places_are n 0 names

-- ---- the elements between two places

kept_between : {X : Type 0} (p : X → Bool) (xs : List X) (i n : ℕ) → i + n ≤ length xs
    → AllWithin (λ x. p x ≡ false) xs 0 i → AllWithin (λ x. p x ≡ true) xs i (i + n)
    → AllWithin (λ x. p x ≡ false) xs (i + n) (length xs) → take n (drop i xs) ≡ filter p xs
kept_between p [] zero zero l a b c = refl
kept_between p [] zero (suc n) l a b c = absurd (omega (arith, l))
kept_between p [] (suc i) n l a b c = absurd (omega (arith, l))
kept_between p (x ∷ xs) zero zero l a b c =
    kept_between p xs zero zero (omega arith) (λ k d lo hi. absurd (omega (arith, hi)))
    (λ k d lo hi. absurd (omega (arith, hi))) (λ k d lo hi. c (suc k) d (omega arith) (omega (arith, hi)))
    ∙ sym (ap (λ t. if t then x ∷ filter p xs else filter p xs) (c 0 x (omega arith) (omega arith)))
kept_between p (x ∷ xs) zero (suc n) l a b c =
    ap (λ ys. x ∷ ys)
    (kept_between p xs zero n (omega (arith, l)) (λ k d lo hi. absurd (omega (arith, hi)))
    (λ k d lo hi. b (suc k) d (omega arith) (omega (arith, hi)))
    (λ k d lo hi. c (suc k) d (omega (arith, lo)) (omega (arith, hi))))
    ∙ sym (ap (λ t. if t then x ∷ filter p xs else filter p xs) (b 0 x (omega arith) (omega arith)))
kept_between p (x ∷ xs) (suc i) n l a b c =
    kept_between p xs i n (omega (arith, l)) (λ k d lo hi. a (suc k) d (omega arith) (omega (arith, hi)))
    (λ k d lo hi. b (suc k) d (omega (arith, lo)) (omega (arith, hi)))
    (λ k d lo hi. c (suc k) d (omega (arith, lo)) (omega (arith, hi)))
    ∙ sym (ap (λ t. if t then x ∷ filter p xs else filter p xs) (a 0 x (omega arith) (omega arith)))

-- ---- tests of an order

lt_before : (o p : Ordering) → ordering_index o ≤ ordering_index p → is_lt p ≡ true → is_lt o ≡ true
lt_before Less p l h = refl
lt_before Equal Less l h = absurd (omega (arith, l))
lt_before Equal Equal l h = h
lt_before Equal Greater l h = h
lt_before Greater Less l h = absurd (omega (arith, l))
lt_before Greater Equal l h = h
lt_before Greater Greater l h = h

le_before : (o p : Ordering) → ordering_index o ≤ ordering_index p → is_le p ≡ true → is_le o ≡ true
le_before Less p l h = refl
le_before Equal p l h = refl
le_before Greater Less l h = absurd (omega (arith, l))
le_before Greater Equal l h = absurd (omega (arith, l))
le_before Greater Greater l h = h

below_not : (o : Ordering) → is_lt o ≡ true → is_eq (ordering_reverse o) ≡ false
below_not Less h = refl
below_not Equal h = absurd (cc)
below_not Greater h = refl

above_not : (o : Ordering) → is_le o ≡ false → is_eq (ordering_reverse o) ≡ false
above_not Less h = absurd (cc)
above_not Equal h = absurd (cc)
above_not Greater h = refl

between_is : (o : Ordering) → is_lt o ≡ false → is_le o ≡ true → is_eq (ordering_reverse o) ≡ true
between_is Less h k = absurd (cc)
between_is Equal h k = refl
between_is Greater h k = absurd (cc)

not_both : (o : Ordering) → is_lt o ≡ true → is_le o ≡ false → ⊥
not_both Less h k = cc
not_both Equal h k = cc
not_both Greater h k = cc

-- ---- sorted headings of one name

an_element : {A : Type 0} (xs : List A) (n : ℕ) → n < length xs → A
an_element [] n l = absurd (omega (arith, l))
an_element (x ∷ xs) n l = x

module _ (n : Name) (hs : List Heading) where
  abbrev pub by_name : Heading → Ordering
  by_name h = slice_cmp nat_cmp h.name.now n

  rising : AreRising hs → IsNonDecreasingBy (λ h. ordering_index (by_name h)) hs
  rising up = searchable_from_sorted nat_list_cmp_total (λ (h : Heading). h.name.now) hs n up

  pub below_first : AreRising hs → IsPartitionedBy (λ h. is_lt (by_name h)) hs
  below_first up i j d l h = lt_before (by_name (slice_index_or hs i d)) (by_name (slice_index_or hs j d))
      (rising up i j d l h)

  pub upto_first : AreRising hs → IsPartitionedBy (λ h. is_le (by_name h)) hs
  upto_first up i j d l h = le_before (by_name (slice_index_or hs i d)) (by_name (slice_index_or hs j d))
      (rising up i j d l h)

  abbrev pub Begins : ℕ → Type 0
  Begins i = IsPartitionPoint (λ h. is_lt (by_name h) ≡ true) (λ h. is_lt (by_name h) ≡ false) hs i

  abbrev pub Ends : ℕ → Type 0
  Ends j = IsPartitionPoint (λ h. is_le (by_name h) ≡ true) (λ h. is_le (by_name h) ≡ false) hs j

  pub begins_first : (i j : ℕ) → i ≤ length hs → Begins i → Ends j → i ≤ j
  begins_first i j l a b = ⊎_elim
      (λ h. let d = an_element hs j (omega (arith, h, l)) in
      absurd (not_both (by_name (slice_index_or hs j d)) (a.0 j d (omega arith) h)
      (b.1 j d (omega arith) (omega (arith, h, l)))))
      (λ h. h) (cases_lt j i)

  flipped : (b : Bool) (h : Heading) → is_eq (ordering_reverse (by_name h)) ≡ b → names_it n h ≡ b
  flipped b h e = ap is_eq (nat_list_cmp_total.antisymm n h.name.now) ∙ e

  -- the headings of the name are between two places
  pub named_between : (i j : ℕ) → i ≤ length hs → j ≤ length hs → Begins i → Ends j
      → take (j - i) (drop i hs) ≡ filter (names_it n) hs
  named_between i j l m a b =
      let first = begins_first i j l a b in
      let e : i + (j - i) ≡ j = omega (arith, first) in
      kept_between (names_it n) hs i (j - i) (omega (arith, e, m))
      (λ k d lo hi. flipped false (slice_index_or hs k d) (below_not _ (a.0 k d lo hi)))
      (λ k d lo hi. flipped true (slice_index_or hs k d)
      (between_is _ (a.1 k d lo (omega (arith, hi, e, m))) (b.0 k d (omega arith) (omega (arith, hi, e)))))
      (λ k d lo hi. flipped false (slice_index_or hs k d) (above_not _ (b.1 k d (omega (arith, lo, e)) hi)))
