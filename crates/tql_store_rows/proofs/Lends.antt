-- A change that lends row slots, or settles the loans.
use Rattle.std.proofs.Common.{◌≡◌, ℕ, ◌+◌, ◌<◌, ◌≤◌, Bool, true, false, cond, List, [], ◌∷◌, ◌++◌, length, refl, sym}
use Rattle.std.proofs.Common.{ap, subst, ◌∙◌, arith, inl, inr, take, drop, filter, length-append}
use Rattle.std.proofs.Math.Seq.{take-append_seam}
use Rattle.std.specs.Prelude.{◌⊎◌, Contains, if◌then◌else◌, nat_lt, not}
use Rattle.tql_spec.proofs.Members.{by_bool}
use Rattle.tql_spec.specs.Datum.{Row}
use Rattle.tql_store_index.proofs.Linking.{same_turned}
use Rattle.tql_store_index.specs.Seating.{Seating}
use Rattle.tql_store_index.specs.ValueIndexes.{ValueIndex, index_at}
use Rattle.tql_store_rows.proofs.LentRows.{more_none}
use Rattle.tql_store_rows.proofs.Owing.{owing_after}
use Rattle.tql_standing.proofs.RowsStanding.{all-length, cells-length, kept-rows}
use Rattle.tql_store_rows.specs.Loans.{AreLent, AreMore, AreOwing}
use Rattle.tql_standing.specs.RowsStanding.{cells_of, rows_of}
use Rattle.tql_store_rows.specs.declared.borrowing.Loan.{Loan}
use Rattle.tql_versions.specs.Marks.{below, from}
use Rattle.tql_versions.specs.Views.{versions_of}
use Rattle.tql_versions.specs.declared.kept.Kept.{Kept}

-- the rows of the same versions
pub same_lent : (base : ℕ) (loans : List Loan) (s : Seating) (indexes : List ValueIndex) (old new : List Kept)
    → new ≡ old → AreLent base loans s indexes (rows_of (versions_of old))
    → AreLent base loans s indexes (rows_of (versions_of new))
same_lent base loans s indexes old new e h =
    subst (λ (ks : List Kept). AreLent base loans s indexes (rows_of (versions_of ks))) (sym e) h

-- the loans that a change has added become due, if it fails
pub owing_undone : (base first to n : ℕ) (places : List ℕ) (old loans : List Loan) (s t : Seating)
    (was indexes : List ValueIndex) (ks : List Kept) (rows : List Row) → n ≡ length old → first ≡ length ks
    → to ≡ first + length rows → base ≤ length ks → AreMore (length ks) places old loans
    → AreLent base old t was (rows_of (versions_of ks))
    → AreLent base loans s indexes (rows_of (versions_of ks) ++ cells_of rows)
    → AreOwing base first to (take n loans) (drop n loans) s indexes (rows_of (versions_of ks))
owing_undone base first to n places old loans s t was indexes ks rows count start end low more before h =
    owing_after base first to to n places old loans s indexes indexes (rows_of (versions_of ks)) (cells_of rows) count
    (kept-rows ks ∙ sym start) (omega (arith, low, start)) size (omega arith)
    (λ i l. let r = (h.each i l).room in
    let m = all-length (index_at indexes i).basis (rows_of (versions_of ks) ++ cells_of rows) in
    let e = size in omega (arith, r, m, e))
    (refl, λ i l. same_turned to to s (index_at indexes i))
    (λ l m. let w = before.pairs.within l m in let k = kept-rows ks in omega (arith, w, k, start))
    (subst (λ k. AreMore k places old loans) (sym start) more) h
  where
    size : length (rows_of (versions_of ks) ++ cells_of rows) ≡ to
    size = omega (
      arith,
      length-append (rows_of (versions_of ks)) (cells_of rows),
      kept-rows ks,
      cells-length rows,
      start,
      end,
    )

-- with an index, each row has a row slot
pub lent_size : (base : ℕ) (loans : List Loan) (s : Seating) (indexes : List ValueIndex) (ks : List Kept)
    (rows : List Row) → AreLent base loans s indexes (rows_of (versions_of ks) ++ cells_of rows) → 0 < length indexes
    → length ks + length rows ≤ length s.seats
lent_size base loans s indexes ks rows h l =
    let r = (h.each 0 l).room in
    omega (
      arith,
      r,
      all-length (index_at indexes 0).basis (rows_of (versions_of ks) ++ cells_of rows),
      length-append (rows_of (versions_of ks)) (cells_of rows),
      kept-rows ks,
      cells-length rows,
    )

-- without them, the loans are those from before
pub cut_more : (first n : ℕ) (places : List ℕ) (old loans left : List Loan) → AreMore first places old loans
    → n ≡ length old → left ≡ take n loans → left ≡ old
cut_more first n places old loans left more e f =
    f ∙ ap (λ k. take k loans) e ∙ ap (take (length old)) more.is ∙ take-append_seam old more.more

-- the positions that may lend are of versions that the change ends
pub listed_if : (lends : Bool) (places removed : List ℕ) → places ≡ (if lends then removed else []) → (k : ℕ)
    → Contains places k → Contains removed k
listed_if lends places removed e k c = go lends (subst (λ is. Contains is k) e c)
  where
    go : (b : Bool) → Contains (if b then removed else []) k → Contains removed k
    go true d = d
    go false (i, l, q) = absurd (omega (arith, l))

fewer : (p : ℕ → Bool) (is : List ℕ) → length (filter p is) ≤ length is
fewer p [] = omega arith
fewer p (i ∷ is) = by_bool (p i)
    (λ t. let q = ap (λ b. length (cond b (i ∷ filter p is) (filter p is))) t in let n = fewer p is in omega
    (arith, q, n))
    (λ f. let q = ap (λ b. length (cond b (i ∷ filter p is) (filter p is))) f in let n = fewer p is in omega
    (arith, q, n))

-- all positions are below the base
none_from : (base : ℕ) (is : List ℕ) → length (below base is) ≡ length is → from base is ≡ []
none_from base [] e = refl
none_from base (i ∷ is) e = by_bool (nat_lt i base)
    (λ t. ap (λ b. cond (not b) (i ∷ from base is) (from base is)) t
    ∙ none_from base is (let q = ap (λ b. length (cond b (i ∷ below base is) (below base is))) t in omega
    (arith, e, q)))
    (λ f. absurd (let q = ap (λ b. length (cond b (i ∷ below base is) (below base is))) f in
    let n = fewer (λ j. nat_lt j base) is in omega (arith, e, q, n)))

no_dead : (dead : List ℕ) → length dead ≡ 0 → dead ≡ []
no_dead [] e = refl
no_dead (i ∷ dead) e = absurd (omega (arith, e))

-- a change lends nothing if it ends a version that the transaction added
pub settled_changed : (lends : Bool) (base count first : ℕ) (removed places dead after : List ℕ)
    (old loans : List Loan) → (lends ≡ true → (length dead ≡ 0) × (count ≡ length removed))
    → count ≡ length (below base removed) → places ≡ (if lends then removed else []) → (lends ≡ false → old ≡ [])
    → AreMore first places old loans → after ≡ dead ++ from base removed → (after ≡ []) ⊎ (loans ≡ [])
settled_changed lends base count first removed places dead after old loans may e listed settled more made =
    by_bool lends
    (λ t. inl (made ∙ ap (λ is. is ++ from base removed) (no_dead dead (may t).0)
    ∙ none_from base removed (sym e ∙ (may t).1)))
    (λ f. inr (more_none first places old loans more
    (listed ∙ ap (λ (b : Bool). if b then removed else []) f) (settled f)))
