-- Positions that a lookup finds, with those of the lenders.
use Rattle.std.proofs.Common.{◌≡◌, ℕ, zero, suc, ◌+◌, ◌<◌, Bool, true, false, cond, List, [], ◌∷◌, ◌++◌, length}
use Rattle.std.proofs.Common.{refl, sym, ap, ◌∙◌, arith, inl, inr, map, set, get_or, drop, append_assoc}
use Rattle.std.specs.Prelude.{Option}
use Rattle.std.specs.List.{sum_by}
use Rattle.std.proofs.lemmas.List.{drop_more, get_or-set_other, get_or-set_same, length-set}
use Rattle.std.proofs.lemmas.List.Sums.{sum_by-append, sum_by-cons}
use Rattle.tql_spec.specs.Bag.{SameBag, In}
use Rattle.tql_store_index.specs.Standing.{seats_if}
use Rattle.tql_store_index.proofs.Seated.{apart}
use Rattle.tql_spec.specs.Period.{Period}
use Rattle.tql_store_rows.specs.Loans.{AreApart, Lends, lending_places}
use Rattle.tql_store_rows.specs.declared.borrowing.Loan.{Loan}

-- the positions of a list, numbered from n, where it is true
abbrev pub hits : ℕ → List Bool → List ℕ
hits n [] = []
hits n (b ∷ bs) = cond b (n ∷ hits (n + 1) bs) (hits (n + 1) bs)

pub seats_hits : (test : Option Period → Bool) (n : ℕ) (xs : List (Option Period))
    → seats_if test n xs ≡ hits n (map test xs)
seats_hits test n [] = refl
seats_hits test n (x ∷ xs) =
    ap (λ is. cond (test x) (n ∷ is) is) (seats_hits test (n + 1) xs)

-- one more position
more_hits : (w : ℕ → ℕ) (n k : ℕ) (bs : List Bool) → k < length bs → get_or bs k false ≡ false
    → sum_by w (hits n (set bs k true)) ≡ w (n + k) + sum_by w (hits n bs)
more_hits w n k [] l f = absurd (omega (arith, l))
more_hits w n zero (b ∷ bs) l f =
    sum_by-cons w n (hits (n + 1) bs)
    ∙ ap (λ i. w i + sum_by w (hits (n + 1) bs)) (no_more n)
    ∙ ap (λ is. w (n + 0) + sum_by w is) (sym (ap (λ c. cond c (n ∷ hits (n + 1) bs) (hits (n + 1) bs)) f))
  where
    no_more : (i : ℕ) → i ≡ i + 0
    no_more i = omega arith
more_hits w n (suc k) (b ∷ bs) l f = step b (more_hits w (n + 1) k bs (omega (arith, l)) f)
  where
    one_more : (i j : ℕ) → i + 1 + j ≡ i + suc j
    one_more i j = omega arith

    step : (c : Bool) → sum_by w (hits (n + 1) (set bs k true)) ≡ w (n + 1 + k) + sum_by w (hits (n + 1) bs)
        → sum_by w (cond c (n ∷ hits (n + 1) (set bs k true)) (hits (n + 1) (set bs k true)))
        ≡ w (n + suc k) + sum_by w (cond c (n ∷ hits (n + 1) bs) (hits (n + 1) bs))
    step true e = omega (
      arith,
      e,
      ap w (one_more n k),
      sum_by-cons w n (hits (n + 1) (set bs k true)),
      sum_by-cons w n (hits (n + 1) bs),
    )
    step false e = omega (arith, e, ap w (one_more n k))

-- the lenders' positions are marked, too
abbrev pub marked : List Loan → List Bool → List Bool
marked [] bs = bs
marked (l ∷ loans) bs = set (marked loans bs) l.lender true

pub marked-length : (loans : List Loan) (bs : List Bool) → length (marked loans bs) ≡ length bs
marked-length [] bs = refl
marked-length (l ∷ loans) bs = length-set (marked loans bs) l.lender true ∙ marked-length loans bs

pub marked_not : (loans : List Loan) (bs : List Bool) (k : ℕ) → (Lends loans k → ⊥)
    → get_or (marked loans bs) k false ≡ get_or bs k false
marked_not [] bs k f = refl
marked_not (l ∷ loans) bs k f =
    get_or-set_other (marked loans bs) l.lender k true false (λ e. f (l, inl refl, sym e))
    ∙ marked_not loans bs k (λ z. f (z.0, inr z.1, z.2))

pub marked_there : (loans : List Loan) (bs : List Bool) (k : ℕ) → k < length bs → Lends loans k
    → get_or (marked loans bs) k false ≡ true
marked_there [] bs k l z = absurd z.1
marked_there (o ∷ loans) bs k l z = elim (apart k o.lender) [
  | inl e ↦ ap (λ j. get_or (set (marked loans bs) o.lender true) j false) e
      ∙ get_or-set_same (marked loans bs) o.lender true false (let n = marked-length loans bs in omega
      (arith, n, l, e))
  | inr f ↦ get_or-set_other (marked loans bs) o.lender k true false f
      ∙ marked_there loans bs k l (later f z.0 z.1 z.2)
]
  where
    later : (k ≡ o.lender → ⊥) → (x : Loan) → In x (o ∷ loans) → x.lender ≡ k → Lends loans k
    later f x (inl e) q = absurd (f (sym q ∙ ap (λ (y : Loan). y.lender) e))
    later f x (inr m) q = (x, m, q)

-- the positions found and those of the lenders
pub marked_hits : (loans : List Loan) (bs : List Bool) → AreApart loans
    → ((l : Loan) → In l loans → l.lender < length bs)
    → ((l : Loan) → In l loans → get_or bs l.lender false ≡ false)
    → SameBag (hits 0 bs ++ lending_places loans) (hits 0 (marked loans bs))
marked_hits loans bs h within none = record {
  totals = λ w. sum_by-append w (hits 0 bs) (lending_places loans) ∙ go w loans h within none;
}
  where
    go : (w : ℕ → ℕ) (ls : List Loan) → AreApart ls → ((l : Loan) → In l ls → l.lender < length bs)
        → ((l : Loan) → In l ls → get_or bs l.lender false ≡ false)
        → sum_by w (hits 0 bs) + sum_by w (lending_places ls) ≡ sum_by w (hits 0 (marked ls bs))
    go w [] a b c = omega arith
    go w (l ∷ ls) a b c =
        let e = go w ls a.1 (λ o m. b o (inr m)) (λ o m. c o (inr m)) in
        let f = more_hits w 0 l.lender (marked ls bs)
        (let n = marked-length ls bs in let m = b l (inl refl) in omega (arith, n, m))
        (marked_not ls bs l.lender (λ z. (a.0 z.0 z.1).0 z.2) ∙ c l (inl refl)) in
        let g = sum_by-cons w l.lender (lending_places ls) in
        let i : w (0 + l.lender) ≡ w l.lender = ap w (zero_more l.lender) in
        omega (arith, e, f, g, i)
      where
        zero_more : (i : ℕ) → 0 + i ≡ i
        zero_more i = omega arith

-- one more lender
pub lender_step : (loans : List Loan) (j : ℕ) (d : Loan) (old new end : List ℕ) → j < length loans
    → new ≡ old ++ (get_or loans j d).lender ∷ [] → old ++ lending_places (drop j loans) ≡ end
    → new ++ lending_places (drop (j + 1) loans) ≡ end
lender_step loans j d old new end l pushed h =
    ap (λ is. is ++ lending_places (drop (j + 1) loans)) pushed
    ∙ append_assoc old ((get_or loans j d).lender ∷ []) (lending_places (drop (j + 1) loans))
    ∙ ap (λ ls. old ++ lending_places ls) (sym (drop_more loans j d l)) ∙ h
