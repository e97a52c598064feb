-- Removing repeated rows does not depend on the order of the rows.
use Rattle.std.proofs.Common.{◌≡◌, ℕ, ◌+◌, Bool, true, false, cond, List, [], ◌∷◌, filter, refl, sym, ap, ◌∙◌, arith}
use Rattle.std.proofs.Common.{subst, inl, inr}
use Rattle.std.specs.Prelude.{not}
use Rattle.std.specs.List.{sum_by}
use Rattle.std.proofs.lemmas.List.Sums.{sum_by-cons}
use Rattle.tql_spec.specs.Datum.{Row, same_row}
use Rattle.tql_spec.specs.Query.{distinct_rows}
use Rattle.tql_spec.specs.Bag.{SameBag, In}
use Rattle.tql_spec.proofs.Bags.{same-refl, same-sym, same-trans, same-filter, sum-filter, sum-same}
use Rattle.tql_spec.proofs.Members.{by_bool, same_row-self, same_row-is}
use Rattle.tql_spec.proofs.MemberLists.{in_kept}
use Rattle.tql_spec.proofs.BagFolds.{folded, AreSteps, same_fold}

-- the row in front of the rows that differ from it
abbrev more_distinct : Row → List Row → List Row
more_distinct r rows = r ∷ filter (λ s. not (same_row r s)) rows

distinct_fold : (rows : List Row) → distinct_rows rows ≡ folded more_distinct [] rows
distinct_fold [] = refl
distinct_fold (r ∷ rows) = ap (more_distinct r) (distinct_fold rows)

same_front : (r : Row) (xs ys : List Row) → SameBag xs ys → SameBag (r ∷ xs) (r ∷ ys)
same_front r xs ys h = record { totals = λ w. omega (arith, sum_by-cons w r xs, sum_by-cons w r ys, h.totals w) }

-- a row that differs from another, in either direction
differs_back : (x y : Row) → same_row x y ≡ false → same_row y x ≡ false
differs_back x y e = by_bool (same_row y x)
    (λ k. absurd (apart (subst (λ z. same_row x z ≡ false) (same_row-is y x k) e)))
    (λ k. k)
  where
    apart : same_row x x ≡ false → ⊥
    apart f = let s = same_row-self x in cc

kept_front : (x y : Row) (rows : List Row) → same_row x y ≡ false
    → filter (λ s. not (same_row x s)) (y ∷ rows) ≡ y ∷ filter (λ s. not (same_row x s)) rows
kept_front x y rows e =
    let others : List Row = filter (λ s. not (same_row x s)) rows in ap (λ b. cond (not b) (y ∷ others) others) e

-- two filters can be exchanged
twice : (p q : Row → Bool) (w : Row → ℕ) (rows : List Row)
    → sum_by w (filter p (filter q rows)) ≡ sum_by w (filter q (filter p rows))
twice p q w rows =
    let pq : Row → ℕ = λ r. cond (q r) (cond (p r) (w r) 0) 0 in
    let qp : Row → ℕ = λ r. cond (p r) (cond (q r) (w r) 0) 0 in
    once p q ∙ sum-same pq qp (λ r. either (q r) (p r) (w r)) rows ∙ sym (once q p)
  where
    once : (a b : Row → Bool)
        → sum_by w (filter a (filter b rows)) ≡ sum_by (λ r. cond (b r) (cond (a r) (w r) 0) 0) rows
    once a b = sum-filter a w (filter b rows) ∙ sum-filter b (λ r. cond (a r) (w r) 0) rows

    either : (b c : Bool) (n : ℕ) → cond b (cond c n 0) 0 ≡ cond c (cond {A = ℕ} b n 0) 0
    either true true n = refl
    either true false n = refl
    either false true n = refl
    either false false n = refl

-- the weight of two different rows in front of the others, as a sum
two_rows : (x y : Row) (rows : List Row) (w : Row → ℕ) → same_row x y ≡ false
    → sum_by w (more_distinct x (more_distinct y rows))
    ≡ w x + (w y + sum_by w (filter (λ s. not (same_row x s)) (filter (λ s. not (same_row y s)) rows)))
two_rows x y rows w e =
    let others : List Row = filter (λ s. not (same_row y s)) rows in
    sum_by-cons w x (filter (λ s. not (same_row x s)) (y ∷ others))
    ∙ ap (λ z. w x + sum_by w z) (kept_front x y others e)
    ∙ ap (λ n. w x + n) (sum_by-cons w y (filter (λ s. not (same_row x s)) others))

exchanged : (x y : Row) (rows : List Row)
    → SameBag (more_distinct x (more_distinct y rows)) (more_distinct y (more_distinct x rows))
exchanged x y rows = by_bool (same_row x y)
    (λ e. subst (λ z. SameBag (more_distinct x (more_distinct z rows)) (more_distinct z (more_distinct x rows)))
    (same_row-is x y e) (same-refl (more_distinct x (more_distinct x rows))))
    (λ e. record {
      totals = λ w. omega (
        arith,
        two_rows x y rows w e,
        two_rows y x rows w (differs_back x y e),
        twice (λ s. not (same_row x s)) (λ s. not (same_row y s)) w rows,
      );
    })

distinct-steps : AreSteps SameBag more_distinct
distinct-steps = record {
  itself = same-refl;
  back = λ a b h. same-sym h;
  along = λ a b c h k. same-trans h k;
  kept = λ r a b h.
      let others : Row → Bool = λ s. not (same_row r s) in
      same_front r (filter others a) (filter others b) (same-filter others h);
  exchanged = exchanged;
}

-- the rows without repeats have the same bag
pub distinct_same : (rows others : List Row) → SameBag rows others → SameBag (distinct_rows rows) (distinct_rows others)
distinct_same rows others h =
    subst (λ z. SameBag z (distinct_rows others)) (sym (distinct_fold rows))
    (subst (λ z. SameBag (folded more_distinct [] rows) z) (sym (distinct_fold others))
    (same_fold same_row same_row-self same_row-is SameBag more_distinct distinct-steps [] rows others h))

-- each row without repeats is one of the rows
pub in_distinct : (t : Row) (rows : List Row) → In t (distinct_rows rows) → In t rows
in_distinct t [] m = m
in_distinct t (r ∷ rows) (inl e) = inl e
in_distinct t (r ∷ rows) (inr m) =
    inr (in_distinct t rows (in_kept (λ s. not (same_row r s)) t (distinct_rows rows) m).0)
