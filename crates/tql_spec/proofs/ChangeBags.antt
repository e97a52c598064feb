-- A change of rows by their fates does not depend on the order of the rows.
use Rattle.std.proofs.Common.{◌≡◌, ℕ, ◌+◌, cond, List, [], ◌∷◌, ◌++◌, filter, flat_map, refl, sym, ap, ◌∙◌, arith}
use Rattle.std.specs.Prelude.{not, Option, Some, None}
use Rattle.std.specs.List.{sum_by}
use Rattle.std.proofs.lemmas.List.Sums.{sum_by-cons, sum_by-append}
use Rattle.tql_spec.specs.Words.{map_all}
use Rattle.tql_spec.specs.Bag.{SameBag}
use Rattle.tql_spec.specs.Definition.{TableDef, Stamped, shown}
use Rattle.tql_spec.specs.Change.{Fate, Untouched, Replaced, after_fates, new_rows, touched_count, row_faults, fate}
use Rattle.tql_spec.specs.Change.{outcome_of}
use Rattle.tql_spec.specs.ChangeLaws.{SameOutcome, ChangesKeepNoOrder, goes, ChangesByParts}
use Rattle.tql_spec.proofs.Bags.{sum-filter, same-flat_map, same-refl}
use Rattle.tql_spec.proofs.FaultBags.{first_by_bag}
use Rattle.tql_spec.proofs.MappedBags.{lack_of, none_lacks, some_lacks}
use Rattle.tql_spec.proofs.Steady.{front_is}

-- ---- weights of one row

-- the weight of the rows that a row becomes
abbrev pub left_of : (Stamped → ℕ) → Stamped → Option Fate → ℕ
left_of w r None = 0
left_of w r (Some Untouched) = w r
left_of w r (Some (Replaced new)) = sum_by w new

-- the weight of the new rows among them
abbrev pub new_of : (Stamped → ℕ) → Option Fate → ℕ
new_of w None = 0
new_of w (Some Untouched) = 0
new_of w (Some (Replaced new)) = sum_by w new

-- 1 for a row that is touched, else 0
abbrev touch_of : Option Fate → ℕ
touch_of o = cond (goes o) 1 0

module _ (f : Stamped → Option Fate) where
  -- the weight of the rows after a change is a sum over the rows before it
  pub left_total : (w : Stamped → ℕ) (rows : List Stamped) (fates : List Fate) → map_all f rows ≡ Some fates
      → sum_by w (after_fates rows fates) ≡ sum_by (λ r. left_of w r (f r)) rows
  left_total w [] fates e = refl
  left_total w (x ∷ rows) fates e =
      let k = front_is (f x) (map_all f rows) fates e in
      ap (λ fs. sum_by w (after_fates (x ∷ rows) fs)) k.whole
      ∙ by_fate k.head k.tail (left_total w rows k.tail k.more)
      ∙ ap (λ o. left_of w x o + sum_by (λ r. left_of w r (f r)) rows) (sym k.one)
      ∙ sym (sum_by-cons (λ r. left_of w r (f r)) x rows)
    where
      by_fate : (y : Fate) (ys : List Fate)
          → sum_by w (after_fates rows ys) ≡ sum_by (λ r. left_of w r (f r)) rows
          → sum_by w (after_fates (x ∷ rows) (y ∷ ys)) ≡ left_of w x (Some y) + sum_by (λ r. left_of w r (f r)) rows
      by_fate Untouched ys ih = sum_by-cons w x (after_fates rows ys) ∙ ap (λ n. w x + n) ih
      by_fate (Replaced new) ys ih = sum_by-append w new (after_fates rows ys) ∙ ap (λ n. sum_by w new + n) ih

  -- the weight of the new rows is a sum over the rows before the change
  pub new_total : (w : Stamped → ℕ) (rows : List Stamped) (fates : List Fate) → map_all f rows ≡ Some fates
      → sum_by w (new_rows fates) ≡ sum_by (λ r. new_of w (f r)) rows
  new_total w [] fates e = let q : [] ≡ fates = cc in ap (λ fs. sum_by w (new_rows fs)) (sym q)
  new_total w (x ∷ rows) fates e =
      let k = front_is (f x) (map_all f rows) fates e in
      ap (λ fs. sum_by w (new_rows fs)) k.whole
      ∙ by_fate k.head k.tail (new_total w rows k.tail k.more)
      ∙ ap (λ o. new_of w o + sum_by (λ r. new_of w (f r)) rows) (sym k.one)
      ∙ sym (sum_by-cons (λ r. new_of w (f r)) x rows)
    where
      by_fate : (y : Fate) (ys : List Fate) → sum_by w (new_rows ys) ≡ sum_by (λ r. new_of w (f r)) rows
          → sum_by w (new_rows (y ∷ ys)) ≡ new_of w (Some y) + sum_by (λ r. new_of w (f r)) rows
      by_fate Untouched ys ih = ih ∙ omega arith
      by_fate (Replaced new) ys ih = sum_by-append w new (new_rows ys) ∙ ap (λ n. sum_by w new + n) ih

  -- the count of touched rows is a sum over the rows before the change
  touch_total : (rows : List Stamped) (fates : List Fate) → map_all f rows ≡ Some fates
      → touched_count fates ≡ sum_by (λ r. touch_of (f r)) rows
  touch_total [] fates e = let q : [] ≡ fates = cc in ap touched_count (sym q)
  touch_total (x ∷ rows) fates e =
      let k = front_is (f x) (map_all f rows) fates e in
      ap touched_count k.whole
      ∙ by_fate k.head k.tail (touch_total rows k.tail k.more)
      ∙ ap (λ o. touch_of o + sum_by (λ r. touch_of (f r)) rows) (sym k.one)
      ∙ sym (sum_by-cons (λ r. touch_of (f r)) x rows)
    where
      by_fate : (y : Fate) (ys : List Fate) → touched_count ys ≡ sum_by (λ r. touch_of (f r)) rows
          → touched_count (y ∷ ys) ≡ touch_of (Some y) + sum_by (λ r. touch_of (f r)) rows
      by_fate Untouched ys ih = omega (arith, ih)
      by_fate (Replaced new) ys ih = omega (arith, ih)

  -- ---- rows in another order

  -- the outcomes for two orders of the rows are the same
  same_outcome : (d : TableDef) (rows others : List Stamped) → SameBag rows others → (o p : Option (List Fate))
      → map_all f rows ≡ o → map_all f others ≡ p → SameOutcome (outcome_of d rows o) (outcome_of d others p)
  same_outcome d rows others h None None e k = record { rows = h; count = refl; fault = refl }
  same_outcome d rows others h None (Some fates) e k =
      absurd (omega (arith, some_lacks f rows e, h.totals (λ r. lack_of (f r)), none_lacks f others fates k))
  same_outcome d rows others h (Some fates) None e k =
      absurd (omega (arith, some_lacks f others k, h.totals (λ r. lack_of (f r)), none_lacks f rows fates e))
  same_outcome d rows others h (Some fates) (Some gates) e k = record {
    rows = record {
      totals = λ w. left_total w rows fates e ∙ h.totals (λ r. left_of w r (f r)) ∙ sym (left_total w others gates k);
    };
    count = touch_total rows fates e ∙ h.totals (λ r. touch_of (f r)) ∙ sym (touch_total others gates k);
    fault = first_by_bag (flat_map (λ r. row_faults d (shown d r)) (new_rows fates))
        (flat_map (λ r. row_faults d (shown d r)) (new_rows gates))
        (same-flat_map (λ r. row_faults d (shown d r)) (λ r. row_faults d (shown d r)) new
        (λ r. same-refl (row_faults d (shown d r))));
  }
    where
      new : SameBag (new_rows fates) (new_rows gates)
      new = record {
        totals = λ w. new_total w rows fates e ∙ h.totals (λ r. new_of w (f r)) ∙ sym (new_total w others gates k);
      }

  -- ---- rows by parts

  -- a row is kept, or its new rows replace it
  one_part : (w : Stamped → ℕ) (r : Stamped) (o : Option Fate) → (o ≡ None → ⊥)
      → left_of w r o ≡ cond (not (goes o)) (w r) 0 + new_of w o
  one_part w r None n = absurd (n refl)
  one_part w r (Some Untouched) n = omega arith
  one_part w r (Some (Replaced new)) n = omega arith

  -- the weight of all rows after a change: kept rows and new rows
  both_total : (w : Stamped → ℕ) (rows : List Stamped) (fates : List Fate) → map_all f rows ≡ Some fates
      → sum_by (λ r. left_of w r (f r)) rows
      ≡ sum_by (λ r. cond (not (goes (f r))) (w r) 0) rows + sum_by (λ r. new_of w (f r)) rows
  both_total w [] fates e = refl
  both_total w (x ∷ rows) fates e =
      let k = front_is (f x) (map_all f rows) fates e in
      let later = both_total w rows k.tail k.more in
      let here : left_of w x (f x) ≡ cond (not (goes (f x))) (w x) 0 + new_of w (f x) =
      one_part w x (f x) (λ n. there k.head (sym n ∙ k.one)) in
      omega (
        arith,
        here,
        later,
        sum_by-cons (λ r. left_of w r (f r)) x rows,
        sum_by-cons (λ r. cond (not (goes (f r))) (w r) 0) x rows,
        sum_by-cons (λ r. new_of w (f r)) x rows,
      )
    where
      there : (y : Fate) → None ≡ Some y → ⊥
      there y e = cc

  parts : (rows : List Stamped) (fates : List Fate) → map_all f rows ≡ Some fates
      → SameBag (after_fates rows fates) (filter (λ r. not (goes (f r))) rows ++ new_rows fates)
  parts rows fates e = record {
    totals = λ w. omega (
      arith,
      left_total w rows fates e,
      both_total w rows fates e,
      sum-filter (λ r. not (goes (f r))) w rows,
      new_total w rows fates e,
      sum_by-append w (filter (λ r. not (goes (f r))) rows) (new_rows fates),
    );
  }

-- the law: a change does not depend on the order of the rows
pub no_order : ChangesKeepNoOrder
no_order d m rows others portion work conds h =
    let f : Stamped → Option Fate = λ r. fate d m portion work conds (shown d r) in
    same_outcome f d rows others h (map_all f rows) (map_all f others) refl refl

-- the law: the rows after a change are the untouched rows and the new ones
pub by_parts : ChangesByParts
by_parts d m rows portion work conds fates e =
    let f : Stamped → Option Fate = λ r. fate d m portion work conds (shown d r) in
    parts f rows fates e
