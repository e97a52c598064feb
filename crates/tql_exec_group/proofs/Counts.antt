-- The rows of each group are counted.
use Rattle.std.specs.Prelude.{◌≡◌, refl, ℕ, suc, ◌+◌, ◌<◌, true, false, List, [], ◌∷◌, ◌++◌, length}
use Rattle.std.specs.Prelude.{nat_eq, Some, slice_get, slice_index_or}
use Rattle.std.specs.List.{AllZip, list_any}
use Rattle.std.proofs.Common.{sym, ap, subst, ◌∙◌, arith}
use Rattle.std.proofs.lemmas.Bool.{eqb-true}
use Rattle.std.proofs.lemmas.List.{length-append}
use Rattle.std.proofs.lemmas.Option.{get_or_from_slice_get, slice_get-get_or}
use Rattle.std.proofs.lemmas.Slice.Zip.{all_zipped_more}
use Rattle.tql_spec.specs.Datum.{Row, same_row}
use Rattle.tql_spec.specs.Query.{cells_at}
use Rattle.tql_spec.proofs.Members.{by_bool}
use Rattle.tql_expr.specs.declared.terms.Aggregate.{Aggregate}
use Rattle.tql_expr.specs.declared.terms.Terms.{Terms}
use Rattle.tql_exec_numbered.specs.Numbered.{with_row}
use Rattle.tql_exec_numbered.proofs.Known.{row_known, row_new}
use Rattle.tql_exec_group.specs.Begun.{Enters}
use Rattle.tql_exec_group.specs.Counted.{kept_count, CountsAt}
use Rattle.tql_exec_group.specs.Grouped.{keys_of, with_key, AreCounted, HasGrouped}
use Rattle.tql_exec_group.specs.declared.grouping.Groups.{Groups}
use Rattle.tql_exec_group.proofs.Groups.{keys_differ, keys_grow, no_rows, number_behind, number_below, one_takes, stays}
use Rattle.tql_exec_group.proofs.Groups.{taken}
use Rattle.tql_exec_group.proofs.Parts.{zip_get}

one_more : (n : ℕ) → kept_count (kept_count n + 1) ≡ kept_count (n + 1)
one_more n = omega arith

module _ (columns : List ℕ) (rows : List Row) (r : Row) where
  abbrev counts_of : List Row → Row → ℕ → Type 0
  counts_of all key n = n ≡ kept_count (length (with_key columns all key))

  abbrev later : List Row
  later = keys_of columns (rows ++ r ∷ [])

  abbrev here : Row
  here = cells_at columns r

  -- the group of the row has one more, and the others as many as before
  one_counted : (n : ℕ) (old new : List ℕ) → slice_get later n ≡ Some here → CountsAt n old new
      → AllZip (counts_of rows) later old → AreCounted columns new (rows ++ r ∷ [])
  one_counted n old new at counts h =
      let mine = zip_get (counts_of rows) n later old here h at in
      let longer : length (with_key columns (rows ++ r ∷ []) here) ≡ length (with_key columns rows here) + 1 =
      ap length (taken columns rows r) ∙ length-append (with_key columns rows here) (r ∷ []) in
      let next : counts_of (rows ++ r ∷ []) here (kept_count (mine.0 + 1)) =
      ap (λ m. kept_count (m + 1)) mine.2 ∙ one_more (length (with_key columns rows here))
      ∙ ap kept_count (sym longer) in
      subst (λ cs. AllZip (counts_of (rows ++ r ∷ [])) later cs) (sym (counts mine.0 mine.1))
      (one_takes (counts_of rows) (counts_of (rows ++ r ∷ [])) here
      (λ key c apart is. is ∙ ap (λ rs. kept_count (length rs)) (sym (stays columns rows r key apart)))
      n later old (kept_count (mine.0 + 1)) (keys_differ columns (rows ++ r ∷ [])) at next h)

  -- a group that is new has none
  counts_entered : (aggregates : List Aggregate) (old new : Groups) (n : ℕ) → Enters columns aggregates old new r n
      → old.keys ≡ keys_of columns rows → AreCounted columns old.counts.items rows
      → (slice_get later n ≡ Some here) × AllZip (counts_of rows) later new.counts.items
  counts_entered aggregates old new n enters same h =
      let keys : List Row = keys_of columns rows in
      let grown : with_row keys here ≡ later = keys_grow columns rows r in
      let is : new.keys ≡ with_row keys here = enters.keys ∙ ap (λ ks. with_row ks here) same in
      let at : slice_get (with_row keys here) n ≡ Some here = ap (λ ks. slice_get ks n) (sym is) ∙ enters.number in
      let counted : AllZip (counts_of rows) (with_row keys here) new.counts.items =
      by_bool (list_any (same_row here) keys)
      (λ known.
      let below : n < length keys =
      number_below keys here n (ap (λ ks. slice_get ks n) (sym (row_known keys here known)) ∙ at) in
      let kept = enters.same (λ e. absurd (omega (arith, e, below, ap length same))) in
      subst (λ cs. AllZip (counts_of rows) (with_row keys here) cs) (sym kept)
      (subst (λ ks. AllZip (counts_of rows) ks old.counts.items) (sym (row_known keys here known)) h))
      (λ fresh.
      let next : n ≡ length keys =
      number_behind keys here n fresh (ap (λ ks. slice_get ks n) (sym (row_new keys here fresh)) ∙ at) in
      let none : 0 ≡ kept_count (length (with_key columns rows here)) =
      sym (ap (λ rs. kept_count (length rs)) (no_rows columns rows r fresh)) in
      subst (λ cs. AllZip (counts_of rows) (with_row keys here) cs) (sym (enters.none (next ∙ sym (ap length same))))
      (subst (λ ks. AllZip (counts_of rows) ks (old.counts.items ++ 0 ∷ [])) (sym (row_new keys here fresh))
      (all_zipped_more (counts_of rows) keys old.counts.items here 0 h none))) in (
        ap (λ ks. slice_get ks n) (sym grown) ∙ at,
        subst (λ ks. AllZip (counts_of rows) ks new.counts.items) grown counted,
      )

-- one more row
pub counted_more : (t : Terms) (columns : List ℕ) (aggregates : List Aggregate) (old new : Groups) (last : List ℕ)
    (r : Row) (n : ℕ) → nat_eq (length columns) 0 ≡ false → Enters columns aggregates old new r n
    → CountsAt n new.counts.items last → (rows : List Row) → HasGrouped t columns aggregates old rows
    → AreCounted columns last (rows ++ r ∷ [])
counted_more t [] aggregates old new last r n e enters counts rows h = absurd (cc)
counted_more t (c ∷ cs) aggregates old new last r n e enters counts rows h =
    let entered = counts_entered (c ∷ cs) rows r aggregates old new n enters h.grouped.keys h.counted in
    one_counted (c ∷ cs) rows r n new.counts.items last entered.0 counts entered.1

-- one more row, without grouping columns
pub all_counted : (columns old last : List ℕ) (r : Row) → nat_eq (length columns) 0 ≡ true → CountsAt 0 old last
    → (rows : List Row) → AreCounted columns old rows → AreCounted columns last (rows ++ r ∷ [])
all_counted [] old last r e counts rows h = one_counted [] rows r 0 old last refl counts h
all_counted (c ∷ cs) old last r e counts rows h = absurd (omega (arith, eqb-true (suc (length cs)) 0 e))

-- no rows
pub none_counted : (columns : List ℕ) → nat_eq (length columns) 0 ≡ false → AreCounted columns [] []
none_counted [] e = absurd (cc)
none_counted (c ∷ cs) e = tt

pub zero_counted : (columns : List ℕ) → nat_eq (length columns) 0 ≡ true → AreCounted columns (0 ∷ []) []
zero_counted [] e = (refl, tt)
zero_counted (c ∷ cs) e = absurd (omega (arith, eqb-true (suc (length cs)) 0 e))

-- the number of rows of the group with a number
pub count_there : (columns counts : List ℕ) (rows : List Row) (n : ℕ) → AreCounted columns counts rows
    → n < length (keys_of columns rows) → slice_index_or counts n 0
    ≡ kept_count (length (with_key columns rows (slice_index_or (keys_of columns rows) n [])))
count_there columns counts rows n h l =
    let key : Row = slice_index_or (keys_of columns rows) n [] in
    let mine = zip_get (λ k m. m ≡ kept_count (length (with_key columns rows k))) n (keys_of columns rows) counts key h
    (slice_get-get_or (keys_of columns rows) n [] l) in
    get_or_from_slice_get counts n mine.0 0 mine.1 ∙ mine.2
