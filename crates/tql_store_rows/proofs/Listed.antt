-- Each lender is recorded as ended, once.
use Rattle.std.proofs.Common.{◌≡◌, true, ℕ, ◌+◌, ◌<◌, List, ◌++◌, refl, sym, ap, subst, ◌∙◌, arith, inl, inr, cond}
use Rattle.std.specs.Prelude.{Contains, ℤ, ◌<ℤ◌, nat_eq, nat_lt}
use Rattle.std.proofs.lemmas.Bool.{cases_lt}
use Rattle.std.proofs.lemmas.Bool.Decides.{nat_tests}
use Rattle.std.proofs.lemmas.Int.{ints}
use Rattle.std.proofs.lemmas.List.Elements.{All-contains}
use Rattle.std.proofs.lemmas.List.Sums.{sum_by-append}
use Rattle.tql_spec.proofs.MemberLists.{in_either}
use Rattle.tql_spec.specs.Bag.{In}
use Rattle.tql_spec.specs.Calendar.{high}
use Rattle.tql_store_rows.proofs.Changing.{kept_place, removed_end}
use Rattle.tql_standing.proofs.Counting.{listed-times, times, times-filter, times-listed}
use Rattle.tql_store_rows.specs.Loans.{AreListed, AreMore, AreShut}
use Rattle.tql_store_rows.specs.TableModel.{AreRemovable, InTurn, TableModel, named}
use Rattle.tql_store_rows.specs.declared.borrowing.Loan.{Loan}
use Rattle.tql_versions.specs.Marks.{below}

apart_ends : (a b : ℤ) → a <ℤ high → b ≡ high → a ≡ b → ⊥
apart_ends a b l e f = omega (arith, ints)

is_below : (k n : ℕ) → k < n → nat_lt k n ≡ true
is_below k n l = grind (arith, nat_tests)

joined : (k : ℕ) (is js : List ℕ) → times k (is ++ js) ≡ times k is + times k js
joined k is js = sum_by-append (λ (j : ℕ). cond {A = ℕ} (nat_eq j k) 1 0) is js

not_times : (k : ℕ) (is : List ℕ) → (Contains is k → ⊥) → times k is ≡ 0
not_times k is f = elim (cases_lt 0 (times k is)) [
  | inl a ↦ absurd (f (times-listed k is a))
  | inr a ↦ omega (arith, a)
]

pub listed_changed : (m : ℤ) (h : TableModel) (removed places ended all : List ℕ) (first base : ℕ)
    (old loans : List Loan) → InTurn m h → AreRemovable h removed → ended ≡ h.ended → base ≡ h.base
    → all ≡ ended ++ below base removed → AreMore first places old loans
    → ((k : ℕ) → Contains places k → Contains removed k) → ((l : Loan) → In l loans → l.lender < base)
    → AreShut old h.current → AreListed old ended → AreListed loans all
listed_changed m h removed places ended all first base old loans turn r e f made more within low shut listed l i =
    ap (times l.lender) made ∙ joined l.lender ended (below base removed)
    ∙ elim (in_either l old more.more (subst (In l) more.is i)) [
      | inl a ↦
          let x = listed l a in
          let y = not_times l.lender (below base removed) (λ c. apart_ends (named h l.lender).end (named h l.lender).end
          (shut l a) (removed_end h removed r l.lender (in_removed l.lender c)) refl) in omega (arith, x, y)
      | inr a ↦
          let c = within l.lender (more.listed l a) in
          let x = not_times l.lender ended (λ d. apart_ends (named h l.lender).end (named h l.lender).end
          (subst (λ (z : ℤ). z <ℤ high) (sym (All-contains (λ j. (named h j).end ≡ m) h.ended l.lender turn.shut
          (subst (λ is. Contains is l.lender) e d))) turn.below) (removed_end h removed r l.lender c) refl) in
          let y = listed-times l.lender (below base removed)
          (kept_place (λ j. nat_lt j base) removed l.lender (is_below l.lender base (low l i)) c) in
          let z = times-filter l.lender (λ j. nat_lt j base) removed in
          let w = r.once l.lender in omega (arith, x, y, z, w)
    ]
  where
    in_removed : (k : ℕ) → Contains (below base removed) k → Contains removed k
    in_removed k c = times-listed k removed
        (let a = listed-times k (below base removed) c in let b = times-filter k (λ j. nat_lt j base) removed in omega
        (arith, a, b))
