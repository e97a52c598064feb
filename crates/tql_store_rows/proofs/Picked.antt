-- Lenders that a lookup of past rows finds.
use Rattle.std.proofs.Common.{◌≡◌, ◌≢◌, ℕ, zero, suc, ◌+◌, ◌-◌, ◌*◌, ◌<◌, ◌≤◌, Bool, true, false, cond, List, []}
use Rattle.std.proofs.Common.{◌∷◌, ◌++◌}
use Rattle.std.proofs.Common.{length, refl, sym, ap, ◌∙◌, arith, inl, inr, map, flat_map, get_or, drop}
use Rattle.std.proofs.Common.{append_assoc}
use Rattle.std.specs.Prelude.{◌⊎◌, Option, Some, None, ◌&&◌, ◌||◌, is_some, nat_eq, nat_lt}
use Rattle.std.specs.List.{sum_by}
use Rattle.std.proofs.lemmas.Bool.{cases_lt}
use Rattle.std.proofs.lemmas.Bool.Decides.{nat_tests}
use Rattle.std.proofs.lemmas.List.{drop_more}
use Rattle.std.proofs.lemmas.List.Concat.{flat_map-cons}
use Rattle.std.proofs.lemmas.List.Sums.{sum_by-cons}
use Rattle.tql_spec.proofs.Bags.{sum-both, sum-flat_map, sum-same}
use Rattle.tql_spec.proofs.Members.{by_bool}
use Rattle.tql_spec.specs.Bag.{SameBag, In}
use Rattle.tql_spec.specs.Period.{Period}
use Rattle.tql_store_index.proofs.Seated.{apart}
use Rattle.tql_store_index.specs.Seating.{Seating, seat_at}
use Rattle.tql_store_index.specs.Standing.{seats_if, stands}
use Rattle.tql_store_index.specs.ValueIndexes.{HasPeriod, ValueIndex, index_at}
use Rattle.tql_standing.proofs.Counting.{times}
use Rattle.tql_store_rows.specs.Loans.{AreApart, Lends, lending_places}
use Rattle.tql_store_rows.specs.Picked.{is_linked, picked, stands_at}
use Rattle.tql_store_rows.specs.declared.borrowing.Loan.{Loan}

-- ---- whether a row slot has a period in some index

pub linked_true : (seat : ℕ) (indexes : List ValueIndex) → HasPeriod seat indexes → is_linked seat indexes ≡ true
linked_true seat [] h = absurd (let w = h.within in omega (arith, w))
linked_true seat (k ∷ indexes) h =
    go (λ x. linked_true seat indexes x) (stands k.standing seat) refl h.number h.within h.some
  where
    go : (HasPeriod seat indexes → is_linked seat indexes ≡ true) → (o : Option Period) → stands k.standing seat ≡ o
        → (i : ℕ) → i < length (k ∷ indexes)
        → stands (index_at (k ∷ indexes) i).standing seat ≢ None → (is_some o || is_linked seat indexes) ≡ true
    go next (Some x) e i l f = refl
    go next None e zero l f = absurd (f e)
    go next None e (suc i) l f = next (record { number = i; within = omega (arith, l); some = f })

pub linked_false : (seat : ℕ) (indexes : List ValueIndex)
    → ((i : ℕ) → i < length indexes → stands (index_at indexes i).standing seat ≡ None)
    → is_linked seat indexes ≡ false
linked_false seat [] h = refl
linked_false seat (k ∷ indexes) h =
    ap (λ (o : Option Period). is_some o || is_linked seat indexes) (h 0 (omega arith))
    ∙ linked_false seat indexes (λ i l. h (suc i) (omega (arith, l)))

below_is : (k n : ℕ) → k < n → nat_lt k n ≡ true
below_is k n l = grind (arith, nat_tests)

not_below : (k n : ℕ) → n ≤ k → nat_lt k n ≡ false
not_below k n l = grind (arith, nat_tests)

-- what the code tells of a row slot
pub stands_is : (s : Seating) (indexes : List ValueIndex) (place : ℕ) (b : Bool)
    → (b ≡ true → (place < length s.seats) × HasPeriod (seat_at s place) indexes)
    → (b ≡ false → place < length s.seats → (i : ℕ) → i < length indexes
    → stands (index_at indexes i).standing (seat_at s place) ≡ None) → b ≡ stands_at s indexes place
stands_is s indexes place true some none = sym
    (ap (λ c. c && is_linked (seat_at s place) indexes) (below_is place (length s.seats) (some refl).0)
    ∙ linked_true (seat_at s place) indexes (some refl).1)
stands_is s indexes place false some none = elim (cases_lt place (length s.seats)) [
  | inl l ↦ sym (ap (λ c. c && is_linked (seat_at s place) indexes) (below_is place (length s.seats) l)
      ∙ linked_false (seat_at s place) indexes (none refl l))
  | inr l ↦ sym (ap (λ c. c && is_linked (seat_at s place) indexes) (not_below place (length s.seats) l))
]

-- ---- sums over positions

-- over the positions that pass a test
sum-seats : (g : ℕ → ℕ) (test : Option Period → Bool) (n : ℕ) (x : Option Period) (xs : List (Option Period))
    → sum_by g (seats_if test n (x ∷ xs)) ≡ cond (test x) (g n) 0 + sum_by g (seats_if test (n + 1) xs)
sum-seats g test n x xs = by_bool (test x)
    (λ t. ap (λ b. sum_by g (cond b (n ∷ seats_if test (n + 1) xs) (seats_if test (n + 1) xs))) t
    ∙ sum_by-cons g n (seats_if test (n + 1) xs)
    ∙ ap (λ b. cond b (g n) 0 + sum_by g (seats_if test (n + 1) xs)) (sym t))
    (λ f. ap (λ b. sum_by g (cond b (n ∷ seats_if test (n + 1) xs) (seats_if test (n + 1) xs))) f
    ∙ let z : sum_by g (seats_if test (n + 1) xs) ≡ 0 + sum_by g (seats_if test (n + 1) xs) = omega arith in z
    ∙ ap (λ b. cond b (g n) 0 + sum_by g (seats_if test (n + 1) xs)) (sym f))

-- nothing is counted at the first positions
sum-front : (g : ℕ → ℕ) (test : Option Period → Bool) (n : ℕ) (xs ys : List (Option Period))
    → ((k : ℕ) → k < n + length xs → g k ≡ 0)
    → sum_by g (seats_if test n (xs ++ ys)) ≡ sum_by g (seats_if test (n + length xs) ys)
sum-front g test n [] ys h = ap (λ k. sum_by g (seats_if test k ys)) (let e : n ≡ n + 0 = omega arith in e)
sum-front g test n (x ∷ xs) ys h =
    sum-seats g test n x (xs ++ ys)
    ∙ ap (λ k. k + sum_by g (seats_if test (n + 1) (xs ++ ys))) (none (test x))
    ∙ (let z : 0 + sum_by g (seats_if test (n + 1) (xs ++ ys)) ≡ sum_by g (seats_if test (n + 1) (xs ++ ys)) =
    omega arith in z)
    ∙ sum-front g test (n + 1) xs ys (λ k l. h k (omega (arith, l)))
    ∙ ap (λ k. sum_by g (seats_if test k ys)) (let e : n + 1 + length xs ≡ n + suc (length xs) = omega arith in e)
  where
    none : (b : Bool) → cond b (g n) 0 ≡ 0
    none true = h n (omega arith)
    none false = refl

-- each of the others counts for an element of a list, if that is counted at all
sum-listed : {X : Type 0} (g : ℕ → ℕ) (h : X → ℕ) (test : Option Period → Bool) (span : X → Option Period) (n : ℕ)
    (xs : List X) (d : X) → ((i : ℕ) → i < length xs → g (n + i) ≡ h (get_or xs i d))
    → ((i : ℕ) → i < length xs → (test (span (get_or xs i d)) ≡ true) ⊎ (h (get_or xs i d) ≡ 0))
    → sum_by g (seats_if test n (map span xs)) ≡ sum_by h xs
sum-listed g h test span n [] d at pass = refl
sum-listed g h test span n (x ∷ xs) d at pass =
    sum-seats g test n (span x) (map span xs)
    ∙ ap (λ k. k + sum_by g (seats_if test (n + 1) (map span xs))) (first (pass 0 (omega arith)))
    ∙ ap (λ k. h x + k) (sum-listed g h test span (n + 1) xs d
    (λ i l. ap g (let e : n + 1 + i ≡ n + suc i = omega arith in e) ∙ at (suc i) (omega (arith, l)))
    (λ i l. pass (suc i) (omega (arith, l))))
    ∙ sym (sum_by-cons h x xs)
  where
    here : g n ≡ h x
    here = ap g (let e : n ≡ n + 0 = omega arith in e) ∙ at 0 (omega arith)

    first : (test (span x) ≡ true) ⊎ (h x ≡ 0) → cond (test (span x)) (g n) 0 ≡ h x
    first (inl t) = ap (λ b. cond b (g n) 0) t ∙ here
    first (inr z) = none (test (span x)) ∙ sym z
      where
        none : (b : Bool) → cond b (g n) 0 ≡ 0
        none true = here ∙ z
        none false = refl

-- ---- lenders among positions

is_same : (k : ℕ) → nat_eq k k ≡ true
is_same k = grind (arith, nat_tests)

is_other : (j k : ℕ) → j ≢ k → nat_eq j k ≡ false
is_other j k f = by_bool (nat_eq j k) (λ t. absurd (f (same j k t))) (λ e. e)
  where
    same : (j k : ℕ) → nat_eq j k ≡ true → j ≡ k
    same j k t = grind (arith, nat_tests)

-- a position counts as often as it is listed
sum-once : (h : ℕ → ℕ) (k : ℕ) (is : List ℕ)
    → sum_by (λ i. cond (nat_eq i k) (h i) 0) is ≡ times k is * h k
sum-once h k [] = let e : 0 ≡ 0 * h k = omega arith in e
sum-once h k (i ∷ is) =
    let a = sum_by-cons (λ i. cond (nat_eq i k) (h i) 0) i is in
    let b = sum_by-cons (λ j. cond {A = ℕ} (nat_eq j k) 1 0) i is in
    a ∙ ap (λ n. cond (nat_eq i k) (h i) 0 + n) (sum-once h k is)
    ∙ step (nat_eq i k) (λ t. same i k t)
    ∙ ap (λ n. n * h k) (sym b)
  where
    same : (i k : ℕ) → nat_eq i k ≡ true → i ≡ k
    same i k e = grind (arith, nat_tests)

    one : (n m : ℕ) → m + n * m ≡ (1 + n) * m
    one n m = omega arith

    zero_more : (n m : ℕ) → 0 + n * m ≡ (0 + n) * m
    zero_more n m = omega arith

    step : (b : Bool) → (b ≡ true → i ≡ k)
        → cond b (h i) 0 + times k is * h k ≡ (cond {A = ℕ} b 1 0 + times k is) * h k
    step true f = ap (λ j. h j + times k is * h k) (f refl) ∙ one (times k is) (h k)
    step false f = zero_more (times k is) (h k)

pub sum-lenders : (loans : List Loan) (h : ℕ → ℕ) (is : List ℕ) → AreApart loans
    → ((l : Loan) → In l loans → times l.lender is ≡ 1) → ((i : ℕ) → (Lends loans i → ⊥) → h i ≡ 0)
    → sum_by h is ≡ sum_by h (lending_places loans)
sum-lenders [] h is a once none = all is
  where
    all : (js : List ℕ) → sum_by h js ≡ 0
    all [] = refl
    all (j ∷ js) = omega (arith, sum_by-cons h j js, all js, none j (λ z. absurd z.1))
sum-lenders (l ∷ loans) h is a once none =
    sum-same h (λ i. mine i + others i) (λ i. parts (nat_eq i l.lender) (h i)) is
    ∙ sum-both mine others is
    ∙ ap (λ n. n + sum_by others is) (sum-once h l.lender is ∙ ap (λ n. n * h l.lender) (once l (inl refl)))
    ∙ ap (λ n. 1 * h l.lender + n) (sum-lenders loans others is a.1 (λ o m. once o (inr m)) others_none
    ∙ same loans (λ o m. (a.0 o m).0))
    ∙ (let z : 1 * h l.lender + sum_by h (lending_places loans) ≡ h l.lender + sum_by h (lending_places loans) =
    omega arith in z)
    ∙ sym (sum_by-cons h l.lender (lending_places loans))
  where
    mine : ℕ → ℕ
    mine i = cond (nat_eq i l.lender) (h i) 0

    others : ℕ → ℕ
    others i = cond (nat_eq i l.lender) 0 (h i)

    parts : (b : Bool) (n : ℕ) → n ≡ cond b n 0 + cond b 0 n
    parts true n = omega arith
    parts false n = omega arith

    others_none : (i : ℕ) → (Lends loans i → ⊥) → others i ≡ 0
    others_none i f = elim (apart i l.lender) [
      | inl e ↦ ap (λ j. cond {A = ℕ} (nat_eq j l.lender) 0 (h j)) e
          ∙ ap (λ b. cond {A = ℕ} b 0 (h l.lender)) (is_same l.lender)
      | inr g ↦ ap (λ b. cond {A = ℕ} b 0 (h i)) (is_other i l.lender g)
          ∙ none i (λ z. here z.0 z.1 z.2 f g)
    ]
      where
        here : (x : Loan) → In x (l ∷ loans) → x.lender ≡ i → (Lends loans i → ⊥) → i ≢ l.lender → ⊥
        here x (inl e) q f g = g (sym q ∙ ap (λ (y : Loan). y.lender) e)
        here x (inr m) q f g = f (x, m, q)

    same : (ls : List Loan) → ((o : Loan) → In o ls → o.lender ≢ l.lender)
        → sum_by others (lending_places ls) ≡ sum_by h (lending_places ls)
    same [] f = refl
    same (o ∷ ls) f = omega (
      arith,
      sum_by-cons others o.lender (lending_places ls),
      sum_by-cons h o.lender (lending_places ls),
      ap (λ b. cond {A = ℕ} b 0 (h o.lender)) (is_other o.lender l.lender (f o (inl refl))),
      same ls (λ x m. f x (inr m)),
    )

-- ---- the lenders that are picked

picked_front : (n : ℕ) (ended : List ℕ) (linked : ℕ → Bool) (w : ℕ → ℕ) (k : ℕ) → k < n
    → sum_by w (picked n ended linked k) ≡ 0
picked_front n ended linked w k l =
    ap (λ b. sum_by w (cond b [] (cond (nat_lt (k - n) (length ended)) (cond (linked (get_or ended (k - n) 0)) []
    (get_or ended (k - n) 0 ∷ [])) []))) (below_is k n l)

picked_there : (n : ℕ) (ended : List ℕ) (linked : ℕ → Bool) (w : ℕ → ℕ) (i : ℕ) → i < length ended
    → sum_by w (picked n ended linked (n + i)) ≡ cond (linked (get_or ended i 0)) 0 (w (get_or ended i 0))
picked_there n ended linked w i l =
    ap (λ b. sum_by w (cond b [] (cond (nat_lt (n + i - n) (length ended))
    (cond (linked (get_or ended (n + i - n) 0)) []
    (get_or ended (n + i - n) 0 ∷ [])) []))) (not_below (n + i) n (omega arith))
    ∙ ap (λ j. sum_by w (cond (nat_lt j (length ended)) (cond (linked (get_or ended j 0)) []
    (get_or ended j 0 ∷ [])) [])) (let e : n + i - n ≡ i = omega arith in e)
    ∙ ap (λ b. sum_by w (cond b (cond (linked (get_or ended i 0)) [] (get_or ended i 0 ∷ [])) []))
    (below_is i (length ended) l)
    ∙ one (linked (get_or ended i 0)) (get_or ended i 0)
  where
    one : (b : Bool) (p : ℕ) → sum_by w (cond b [] (p ∷ [])) ≡ cond b 0 (w p)
    one true p = refl
    one false p = omega (arith, sum_by-cons w p [])

-- what is picked from the past rows found: each lender that counts, once
pub sum-picked : (n : ℕ) (ended : List ℕ) (linked : ℕ → Bool) (loans : List Loan) (h : ℕ → ℕ)
    (test : Option Period → Bool) (span : ℕ → Option Period) (front : List (Option Period)) (past : List ℕ)
    → length front ≡ n → AreApart loans → ((l : Loan) → In l loans → times l.lender ended ≡ 1)
    → ((i : ℕ) → (Lends loans i → ⊥) → cond (linked i) 0 (h i) ≡ 0)
    → ((l : Loan) → In l loans → linked l.lender ≡ false)
    → ((i : ℕ) → i < length ended → (test (span (get_or ended i 0)) ≡ true)
    ⊎ (cond (linked (get_or ended i 0)) 0 (h (get_or ended i 0)) ≡ 0))
    → SameBag past (seats_if test 0 (front ++ map span ended))
    → sum_by h (flat_map (picked n ended linked) past) ≡ sum_by h (lending_places loans)
sum-picked n ended linked loans h test span front past size a once none lent pass bag =
    sum-flat_map (picked n ended linked) h past ∙ bag.totals g
    ∙ sum-front g test 0 front (map span ended) (λ k l. picked_front n ended linked h k (omega (arith, l, size)))
    ∙ ap (λ k. sum_by g (seats_if test k (map span ended))) (let e : 0 + length front ≡ n = omega (arith, size) in e)
    ∙ sum-listed g counted test span n ended 0 (λ i l. picked_there n ended linked h i l) pass
    ∙ sum-lenders loans counted ended a once none
    ∙ same loans lent
  where
    g : ℕ → ℕ
    g place = sum_by h (picked n ended linked place)

    counted : ℕ → ℕ
    counted i = cond (linked i) 0 (h i)

    same : (ls : List Loan) → ((l : Loan) → In l ls → linked l.lender ≡ false)
        → sum_by counted (lending_places ls) ≡ sum_by h (lending_places ls)
    same [] f = refl
    same (l ∷ ls) f = omega (
      arith,
      sum_by-cons counted l.lender (lending_places ls),
      sum_by-cons h l.lender (lending_places ls),
      ap (λ b. cond {A = ℕ} b 0 (h l.lender)) (f l (inl refl)),
      same ls (λ x m. f x (inr m)),
    )

-- ---- one past row after another

pub picked_step : (f : ℕ → List ℕ) (past : List ℕ) (j p : ℕ) (old new end : List ℕ) → j < length past
    → p ≡ get_or past j 0 → new ≡ old ++ f p → old ++ flat_map f (drop j past) ≡ end
    → new ++ flat_map f (drop (j + 1) past) ≡ end
picked_step f past j p old new end l read pushed h =
    ap (λ is. is ++ flat_map f (drop (j + 1) past)) pushed
    ∙ append_assoc old (f p) (flat_map f (drop (j + 1) past))
    ∙ ap (λ is. old ++ is) (sym (ap (flat_map f) (drop_more past j 0 l) ∙ flat_map-cons f (get_or past j 0)
    (drop (j + 1) past) ∙ ap (λ k. f k ++ flat_map f (drop (j + 1) past)) (sym read))) ∙ h
