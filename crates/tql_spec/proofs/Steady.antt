-- A statement keeps the multiplicity of a row or removes the row; so rows are steady in every reached state.
use Rattle.std.proofs.Common.{◌≡◌, refl, sym, ap, subst, ◌∙◌, ℕ, ◌+◌, Bool, true, false, cond, List, [], ◌∷◌, ◌++◌, map}
use Rattle.std.proofs.Common.{inl, inr, arith}
use Rattle.std.specs.Prelude.{◌⊎◌, ℤ, ◌<ℤ◌, ◌≤ℤ◌, Option, Some, None}
use Rattle.std.proofs.lemmas.Int.{ints}
use Rattle.std.proofs.lemmas.List.Sums.{sum_by-cons}
use Rattle.tql_spec.specs.Words.{◌>>=◌, map_all, with_front}
use Rattle.tql_spec.specs.Bag.{In}
use Rattle.tql_spec.specs.Datum.{Datum, Row}
use Rattle.tql_spec.specs.Period.{Period}
use Rattle.tql_spec.specs.Expression.{Cond}
use Rattle.tql_spec.specs.Definition.{TableDef, Stamped, same_stamped, shown, stamped, table_at}
use Rattle.tql_spec.specs.History.{Copy, rows_in}
use Rattle.tql_spec.specs.Change.{Fate, Untouched, Replaced, after_fates, Work, fate, fate_where, made_of, is_touched}
use Rattle.tql_spec.specs.Change.{pieces, insert, modify, new_row, outcome_of}
use Rattle.tql_spec.specs.Machine.{State, Change, InsertTuples, InsertQuery, Modify, outcome, changed_table}
use Rattle.tql_spec.specs.Spans.{times}
use Rattle.tql_spec.proofs.Members.{by_bool, same_stamped-is}
use Rattle.tql_spec.proofs.MemberLists.{in_either, in_image, times_none, times_append}

-- ---- the rows that one change leaves

-- rows before and after a change at m: a row older than m keeps its multiplicity or is removed. No row after the change
-- begins after m, if none did before
pub record Passes (m : ℤ) (rows after : List Stamped) : Type 0 where
  pub as_before : (r : Stamped) → r.start <ℤ m → (times r after ≡ 0) ⊎ (times r after ≡ times r rows)
  pub not_after : ((r : Stamped) → In r rows → r.start ≤ℤ m) → (r : Stamped) → In r after → r.start ≤ℤ m

-- rows that all begin at m
abbrev BeginAt : ℤ → List Stamped → Type 0
BeginAt m rows = (r : Stamped) → In r rows → r.start ≡ m

-- an older row is not among rows that begin at m
not_among : (m : ℤ) (new : List Stamped) → BeginAt m new → (r : Stamped) → r.start <ℤ m → times r new ≡ 0
not_among m new b r h = times_none r new (λ n. let e = b r n in omega (arith, ints, e))

-- no change has this property
unchanged : (m : ℤ) (rows : List Stamped) → Passes m rows rows
unchanged m rows = record { as_before = λ r h. inr refl; not_after = λ k. k }

-- adding new rows at the end has this property
added : (m : ℤ) (rows new : List Stamped) → BeginAt m new → Passes m rows (rows ++ new)
added m rows new b = record {
  as_before = λ r h. inr (omega (arith, times_append r rows new, not_among m new b r h));
  not_after = λ k r n. elim
      (in_either r rows new n) [ inl i ↦ k r i | inr i ↦ let e = b r i in omega (arith, ints, e) ];
}

-- stamped rows begin at the moment
stamped_begin : (d : TableDef) (m : ℤ) (rows : List Row) → BeginAt m (map (stamped d m) rows)
stamped_begin d m rows r n = let i = in_image (stamped d m) r rows n in ap (λ (x : Stamped). x.start) i.2

-- an INSERT has this property
insert_passes : (d : TableDef) (m : ℤ) (rows : List Stamped) (columns : List ℕ) (o : Option (List (List Datum)))
    → Passes m rows (insert d m rows columns o).rows
insert_passes d m rows columns None = unchanged m rows
insert_passes d m rows columns (Some tuples) = added m rows
    (map (λ values. stamped d m (new_row d columns values)) tuples) begin
  where
    begin : BeginAt m (map (λ values. stamped d m (new_row d columns values)) tuples)
    begin r n =
        let i = in_image (λ values. stamped d m (new_row d columns values)) r tuples n in ap
        (λ (x : Stamped). x.start) i.2

-- ---- fates

-- the rows that replace a row begin at m
abbrev Begins : ℤ → (Stamped → Option Fate) → Type 0
Begins m f = (r : Stamped) (new : List Stamped) → f r ≡ Some (Replaced new) → BeginAt m new

-- a list with its first element and the rest
pub record FrontIs {A : Type 0} (o : Option A) (rest : Option (List A)) (all : List A) : Type 0 where
  pub head : A
  pub tail : List A
  pub one : o ≡ Some head
  pub more : rest ≡ Some tail
  pub whole : all ≡ head ∷ tail

-- a list made by `with_front` has a first element and a rest
pub front_is : {A : Type 0} (o : Option A) (rest : Option (List A)) (all : List A) → with_front o rest ≡ Some all
    → FrontIs o rest all
front_is None rest all e = absurd (cc)
front_is (Some x) None all e = absurd (cc)
front_is (Some x) (Some xs) all e = record { head = x; tail = xs; one = refl; more = refl; whole = cc }

-- the multiplicity in a list with one more row in front
times_cons : (r x : Stamped) (xs : List Stamped) → times r (x ∷ xs) ≡ cond (same_stamped r x) 1 0 + times r xs
times_cons r x xs = sum_by-cons (λ s. cond (same_stamped r s) 1 0) x xs

-- 1 if the rows are equal, else 0
abbrev one_if : Stamped → Stamped → ℕ
one_if r x = cond (same_stamped r x) 1 0

-- it is 0 for different rows
apart : (r x : Stamped) → (r ≡ x → ⊥) → one_if r x ≡ 0
apart r x h =
    by_bool (same_stamped r x) (λ e. absurd (h (same_stamped-is r x e))) (λ e. ap (λ b. cond {A = ℕ} b 1 0) e)

-- the row is among the rows that replace some row
pub record IsMade (f : Stamped → Option Fate) (rows : List Stamped) (r : Stamped) : Type 0 where
  pub row : Stamped
  pub new : List Stamped
  pub among : In row rows
  pub replaced : f row ≡ Some (Replaced new)
  pub there : In r new

-- a row after the change is an old row, or one that replaces a row
pub old_or_made : (f : Stamped → Option Fate) (rows : List Stamped) (fates : List Fate) → map_all f rows ≡ Some fates
    → (r : Stamped) → In r (after_fates rows fates) → In r rows ⊎ IsMade f rows r
old_or_made f [] fates e r n = absurd n
old_or_made f (x ∷ rows) fates e r n =
    let k = front_is (f x) (map_all f rows) fates e in
    by_fate k.head k.tail k.one (old_or_made f rows k.tail k.more r)
    (subst (λ fs. In r (after_fates (x ∷ rows) fs)) k.whole n)
  where
    further : In r rows ⊎ IsMade f rows r → In r (x ∷ rows) ⊎ IsMade f (x ∷ rows) r
    further (inl i) = inl (inr i)
    further (inr k) =
        inr (record { row = k.row; new = k.new; among = inr k.among; replaced = k.replaced; there = k.there })

    by_fate : (y : Fate) (ys : List Fate) → f x ≡ Some y → (In r (after_fates rows ys) → In r rows ⊎ IsMade f rows r)
        → In r (after_fates (x ∷ rows) (y ∷ ys)) → In r (x ∷ rows) ⊎ IsMade f (x ∷ rows) r
    by_fate Untouched ys q ih (inl z) = inl (inl z)
    by_fate Untouched ys q ih (inr i) = further (ih i)
    by_fate (Replaced new) ys q ih i = elim (in_either r new (after_fates rows ys) i) [
      | inl j ↦ inr (record { row = x; new = new; among = inl refl; replaced = q; there = j })
      | inr j ↦ further (ih j)
    ]

module _ (m : ℤ) (f : Stamped → Option Fate) (begins : Begins m f) where
  -- a row that is not touched keeps its multiplicity
  stays : (rows : List Stamped) (fates : List Fate) → map_all f rows ≡ Some fates → (r : Stamped) → r.start <ℤ m
      → f r ≡ Some Untouched → times r (after_fates rows fates) ≡ times r rows
  stays [] fates e r h u = refl
  stays (x ∷ rows) fates e r h u =
      let k = front_is (f x) (map_all f rows) fates e in
      subst (λ fs. times r (after_fates (x ∷ rows) fs) ≡ times r (x ∷ rows)) (sym k.whole)
      (by_fate k.head k.tail k.one (stays rows k.tail k.more r h u))
    where
      by_fate : (y : Fate) (ys : List Fate) → f x ≡ Some y → times r (after_fates rows ys) ≡ times r rows
          → times r (after_fates (x ∷ rows) (y ∷ ys)) ≡ times r (x ∷ rows)
      by_fate Untouched ys q ih = times_cons r x (after_fates rows ys) ∙ ap (λ n. one_if r x + n) ih
          ∙ sym (times_cons r x rows)
      by_fate (Replaced new) ys q ih =
          omega (
            arith,
            times_append r new (after_fates rows ys),
            not_among m new (begins x new q) r h,
            times_cons r x rows,
            apart r x (λ z. let w = sym u ∙ ap f z ∙ q in absurd (cc)),
            ih,
          )

  -- a row that is touched is removed
  goes : (rows : List Stamped) (fates : List Fate) → map_all f rows ≡ Some fates → (r : Stamped) → r.start <ℤ m
      → (f r ≡ Some Untouched → ⊥) → times r (after_fates rows fates) ≡ 0
  goes [] fates e r h u = refl
  goes (x ∷ rows) fates e r h u =
      let k = front_is (f x) (map_all f rows) fates e in
      subst (λ fs. times r (after_fates (x ∷ rows) fs) ≡ 0) (sym k.whole)
      (by_fate k.head k.tail k.one (goes rows k.tail k.more r h u))
    where
      by_fate : (y : Fate) (ys : List Fate) → f x ≡ Some y → times r (after_fates rows ys) ≡ 0
          → times r (after_fates (x ∷ rows) (y ∷ ys)) ≡ 0
      by_fate Untouched ys q ih = omega
          (arith, times_cons r x (after_fates rows ys), apart r x (λ z. u (ap f z ∙ q)), ih)
      by_fate (Replaced new) ys q ih = omega
          (arith, times_append r new (after_fates rows ys), not_among m new (begins x new q) r h, ih)

  -- a row after the change is an old row, or begins at m
  old_or_new : (rows : List Stamped) (fates : List Fate) → map_all f rows ≡ Some fates → (r : Stamped)
      → In r (after_fates rows fates) → In r rows ⊎ (r.start ≡ m)
  old_or_new rows fates e r n =
      elim (old_or_made f rows fates e r n) [ inl i ↦ inl i | inr k ↦ inr (begins k.row k.new k.replaced r k.there) ]

  untouched_or_not : (o : Option Fate) → (o ≡ Some Untouched) ⊎ (o ≡ Some Untouched → ⊥)
  untouched_or_not None = inr (λ e. absurd (cc))
  untouched_or_not (Some Untouched) = inl refl
  untouched_or_not (Some (Replaced new)) = inr (λ e. absurd (cc))

  fates_pass : (rows : List Stamped) (fates : List Fate) → map_all f rows ≡ Some fates
      → Passes m rows (after_fates rows fates)
  fates_pass rows fates e = record {
    as_before = λ r h. elim (untouched_or_not (f r)) [
      | inl u ↦ inr (stays rows fates e r h u)
      | inr u ↦ inl
          (goes rows fates e r h u)
    ];
    not_after = λ k r n. elim (old_or_new rows fates e r n) [ inl i ↦ k r i | inr q ↦ omega (arith, ints, q) ];
  }

-- ---- the rows after a statement

-- a touched row is replaced by rows that begin at m
fate_begins : (d : TableDef) (m : ℤ) (portion : Option Period) (work : Work) (conds : List Cond)
    → Begins m (λ r. fate d m portion work conds (shown d r))
fate_begins d m portion work conds r new q = touched (is_touched d portion conds (shown d r))
    (made_of work (shown d r)) q
  where
    touched : (o : Option Bool) (made : Option (List Row))
        → (o >>= λ b. fate_where b
        (made >>= λ rows. Some (Replaced (map (stamped d m) (pieces d portion (shown d r) rows))))) ≡ Some
        (Replaced new)
        → BeginAt m new
    touched None made e = absurd (cc)
    touched (Some false) made e = absurd (cc)
    touched (Some true) None e = absurd (cc)
    touched (Some true) (Some rows) e =
        let same : map (stamped d m) (pieces d portion (shown d r) rows) ≡ new = cc in
        subst (BeginAt m) same (stamped_begin d m (pieces d portion (shown d r) rows))

-- an UPDATE or a DELETE has this property
modify_passes : (d : TableDef) (m : ℤ) (rows : List Stamped) (portion : Option Period) (work : Work) (conds : List Cond)
    → Passes m rows (modify d m rows portion work conds).rows
modify_passes d m rows portion work conds = by_fates (map_all (λ r. fate d m portion work conds (shown d r)) rows) refl
  where
    by_fates : (o : Option (List Fate)) → map_all (λ r. fate d m portion work conds (shown d r)) rows ≡ o
        → Passes m rows (outcome_of d rows o).rows
    by_fates None e = unchanged m rows
    by_fates (Some fates) e =
        fates_pass m (λ r. fate d m portion work conds (shown d r)) (fate_begins d m portion work conds) rows fates e

-- each change keeps the multiplicity of an older row or removes it, and its new rows begin at its moment; used for the
-- law of steady rows
pub change_passes : (s : State) (m : ℤ) (copy : Copy) (c : Change)
    → Passes m (rows_in copy (changed_table c)) (outcome s m copy c).rows
change_passes s m copy (InsertTuples t columns tuples) =
    insert_passes (table_at s.definitions t) m (rows_in copy t) columns _
change_passes s m copy (InsertQuery t columns q) =
    insert_passes (table_at s.definitions t) m (rows_in copy t) columns _
change_passes s m copy (Modify t portion work conds) =
    modify_passes (table_at s.definitions t) m (rows_in copy t) portion work conds
