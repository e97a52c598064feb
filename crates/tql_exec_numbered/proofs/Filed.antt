-- One more row in a table of slots.
use borrow.Author.Tests.{ltb-true, ltb-false}
use Rattle.std.specs.Prelude.{◌≡◌, refl, ℕ, zero, suc, ◌+◌, ◌<◌, ◌≤◌, true, List, [], ◌∷◌, ◌++◌, length}
use Rattle.std.specs.Prelude.{None, Some, option_map, slice_get, nat_lt}
use Rattle.std.proofs.Common.{sym, ap, subst, ◌∙◌, arith}
use Rattle.std.proofs.lemmas.List.{length-append}
use Rattle.std.proofs.lemmas.Option.{slice_get_within}
use Rattle.tql_spec.specs.Datum.{Row}
use Rattle.tql_spec.proofs.Members.{by_bool}
use Rattle.tql_exec_join.specs.Digest.{spread_digest}
use Rattle.tql_exec_numbered.specs.Runs.{row_at, AreRuns}
use Rattle.tql_exec_numbered.specs.Slots.{first_place, is_kept, AreFiled}

-- ---- a list with one item more

pub got_front : {A : Type 0} (xs ys : List A) (n : ℕ) → n < length xs → slice_get (xs ++ ys) n ≡ slice_get xs n
got_front [] ys n l = absurd (omega arith)
got_front (x ∷ xs) ys zero l = refl
got_front (x ∷ xs) ys (suc n) l = got_front xs ys n (omega arith)

pub got_last : {A : Type 0} (xs : List A) (x : A) (n : ℕ) → n ≡ length xs → slice_get (xs ++ x ∷ []) n ≡ Some x
got_last [] x zero is = refl
got_last [] x (suc n) is = absurd (omega arith)
got_last (y ∷ xs) x zero is = absurd (omega arith)
got_last (y ∷ xs) x (suc n) is = got_last xs x n (omega arith)

-- ---- a row by its digest

pub with_digest : (rows : List Row) (n d : ℕ) → option_map spread_digest (slice_get rows n) ≡ Some d
    → (slice_get rows n ≡ Some (row_at rows n)) × (d ≡ spread_digest (row_at rows n))
with_digest [] n d e = cc
with_digest (r ∷ rows) zero d e = (refl, cc)
with_digest (r ∷ rows) (suc n) d e = with_digest rows n d e

pub without_digest : (rows : List Row) (n : ℕ) → option_map spread_digest (slice_get rows n) ≡ None → length rows ≤ n
without_digest [] n e = omega arith
without_digest (r ∷ rows) zero e = cc
without_digest (r ∷ rows) (suc n) e = omega (arith, without_digest rows n e)

module _ (rows : List Row) (os ns : List ℕ) (before_runs after_runs : List (List ℕ)) (k d : ℕ) (r : Row)
    (got : slice_get rows k ≡ Some r) (right : d ≡ spread_digest r) (len : length ns ≡ length os)
    (now : is_kept ns after_runs (first_place (length os) d) k ≡ true)
    (kept : (at n : ℕ) → is_kept os before_runs at n ≡ true → is_kept ns after_runs at n ≡ true)
    (before : (n : ℕ) (row : Row) → n < k → slice_get rows n ≡ Some row
    → is_kept os before_runs (first_place (length os) (spread_digest row)) n ≡ true) where
  -- the rows so far are filed
  pub one_more_filed : (n : ℕ) (row : Row) → n < k + 1 → slice_get rows n ≡ Some row
      → is_kept ns after_runs (first_place (length ns) (spread_digest row)) n ≡ true
  one_more_filed n row l is = by_bool (nat_lt n k)
      (λ less. subst (λ size. is_kept ns after_runs (first_place size (spread_digest row)) n ≡ true) (sym len)
      (kept (first_place (length os) (spread_digest row)) n (before n row (ltb-true n k less) is)))
      (λ more. last (omega (arith, ltb-false n k more)))
    where
      last : n ≡ k → is_kept ns after_runs (first_place (length ns) (spread_digest row)) n ≡ true
      last same =
          let other : slice_get rows k ≡ Some row = subst (λ m. slice_get rows m ≡ Some row) same is in
          let itself : r ≡ row = cc in
          subst (λ m. is_kept ns after_runs (first_place (length ns) (spread_digest row)) m ≡ true) (sym same)
          (subst (λ size. is_kept ns after_runs (first_place size (spread_digest row)) k ≡ true) (sym len)
          (subst (λ h. is_kept ns after_runs (first_place (length os) h) k ≡ true) (right ∙ ap spread_digest itself) now))

-- a row after the others
pub filed_behind : (rows all : List Row) (os ns : List ℕ) (before_runs after_runs : List (List ℕ)) (k d : ℕ) (r : Row)
    → all ≡ rows ++ r ∷ [] → k ≡ length rows → d ≡ spread_digest r → length ns ≡ length os
    → is_kept ns after_runs (first_place (length os) d) k ≡ true
    → ((at n : ℕ) → is_kept os before_runs at n ≡ true → is_kept ns after_runs at n ≡ true)
    → AreRuns all after_runs → AreFiled rows os before_runs → AreFiled all ns after_runs
filed_behind rows all os ns before_runs after_runs k d r is last right len now kept runs filed = (
  runs,
  λ n row got.
      let here : slice_get (rows ++ r ∷ []) n ≡ Some row = subst (λ rs. slice_get rs n ≡ Some row) is got in
      let within : n < length (rows ++ r ∷ []) = slice_get_within (rows ++ r ∷ []) n row here in
      let long : length (rows ++ r ∷ []) ≡ length rows + 1 = length-append rows (r ∷ []) in
      one_more_filed (rows ++ r ∷ []) os ns before_runs after_runs k d r (got_last rows r k last) right len now kept
      (λ m other l e. filed.1 m other (sym (got_front rows (r ∷ []) m (omega arith)) ∙ e)) n row (omega arith) here,
)
