-- The rows of a table after a modification, from its effect on the versions that were read.
use Rattle.std.proofs.Common.{◌≡◌, refl, ap, sym, subst, ◌∙◌, Bool, true, false, List, [], ◌∷◌, ◌++◌, map, filter}
use Rattle.std.proofs.Common.{cond, Option, Some, None}
use Rattle.std.specs.Prelude.{ℤ, not}
use Rattle.std.proofs.lemmas.List.{map-append}
use Rattle.tql_spec.specs.Bag.{SameBag}
use Rattle.tql_spec.proofs.Bags.{same-refl, same-sym, same-trans, same-filter, same-append}
use Rattle.tql_spec.specs.Words.{◌>>=◌, with_front, map_all}
use Rattle.tql_spec.specs.Datum.{Row}
use Rattle.tql_spec.specs.Period.{Period}
use Rattle.tql_spec.specs.Refusal.{first}
use Rattle.tql_spec.specs.Definition.{Stamped, TableDef, shown, stamped}
use Rattle.tql_spec.specs.Expression.{Cond}
use Rattle.tql_spec.specs.Change.{Fate, Untouched, Replaced, Work, fate, fate_where, made_of, pieces}
use Rattle.tql_spec.specs.Change.{is_touched, after_fates, new_rows, outcome_of, modify}
use Rattle.tql_spec.specs.ChangeLaws.{goes, SameOutcome, ChangesKeepNoOrder, ChangesByParts}
use Rattle.tql_store.specs.Changes.{starting, rows_after}
use Rattle.tql_dml.specs.Alters.{is_yes, coming}

-- ---- lists of optional values

-- both parts of a list that is there
front : {A : Type 0} (o : Option A) (os : Option (List A)) (zs : List A) → with_front o os ≡ Some zs
    → (y : A) × (ys : List A) × (o ≡ Some y) × (os ≡ Some ys) × (zs ≡ y ∷ ys)
front None os zs e = absurd (cc)
front (Some y) None zs e = absurd (cc)
front {A} (Some y) (Some ys) zs e = (y, ys, refl, refl, same (y ∷ ys) zs e)
  where
    same : (us vs : List A) → Some us ≡ Some vs → vs ≡ us
    same us vs e = cc

-- new rows at a moment
abbrev begun_at : ℤ → List Row → List Stamped
begun_at m rows = map (starting m) rows

-- whether a row is touched
abbrev pub touches : TableDef → Option Period → List Cond → Stamped → Bool
touches d portion conds r = is_yes (is_touched d portion conds (shown d r))

-- the laws of changes, as tql_spec states them
module _ (no_order : ChangesKeepNoOrder) (by_parts : ChangesByParts) (d : TableDef) (m : ℤ) (portion : Option Period)
    (work : Work) (conds : List Cond) where
  -- the fate of a row
  abbrev fate_of : Stamped → Option Fate
  fate_of r = fate d m portion work conds (shown d r)

  -- ---- a removed row is one that is touched

  abbrev made_fate : Row → List Row → Option Fate
  made_fate row made = Some (Replaced (map (stamped d m) (pieces d portion row made)))

  goes_by : (row : Row) (o : Option Bool) (made : Option (List Row)) (y : Fate)
      → (o >>= λ b. fate_where b (made >>= made_fate row)) ≡ Some y
      → goes (o >>= λ b. fate_where b (made >>= made_fate row)) ≡ is_yes o
  goes_by row None made y e = absurd (cc)
  goes_by row (Some false) made y e = refl
  goes_by row (Some true) None y e = absurd (cc)
  goes_by row (Some true) (Some rows) y e = refl

  stay_by : (a b : Bool) (r : Stamped) (xs ys : List Stamped) → a ≡ b → xs ≡ ys
      → cond (not a) (r ∷ xs) xs ≡ cond (not b) (r ∷ ys) ys
  stay_by a b r xs ys e f = λ i. cond (not (e i)) (r ∷ f i) (f i)

  -- the same rows stay
  same_stay : (rows : List Stamped) (fs : List Fate) → map_all fate_of rows ≡ Some fs
      → filter (λ r. not (goes (fate_of r))) rows ≡ filter (λ r. not (touches d portion conds r)) rows
  same_stay [] fs e = refl
  same_stay (r ∷ rows) fs e =
      let k = front (fate_of r) (map_all fate_of rows) fs e in
      stay_by (goes (fate_of r)) (touches d portion conds r) r _ _
      (goes_by (shown d r) (is_touched d portion conds (shown d r)) (made_of work (shown d r)) k.0 k.2)
      (same_stay rows k.1 k.3)

  -- ---- new rows begin at the moment

  -- rows that are their cells, beginning at the moment
  abbrev Begun : List Stamped → Type 0
  Begun rows = rows ≡ begun_at m (map (λ (r : Stamped). r.cells) rows)

  begun_stamped : (rows : List Row) → Begun (map (stamped d m) rows)
  begun_stamped [] = refl
  begun_stamped (r ∷ rows) = ap {B = List Stamped} (λ xs. stamped d m r ∷ xs) (begun_stamped rows)

  begun_both : (xs ys : List Stamped) → Begun xs → Begun ys → Begun (xs ++ ys)
  begun_both [] ys p q = q
  begun_both (x ∷ xs) ys p q =
      (λ i. p i ++ q i)
      ∙ sym (map-append (λ (cells : Row). record { cells = cells; start = m })
      (map (λ (r : Stamped). r.cells) (x ∷ xs)) (map (λ (r : Stamped). r.cells) ys))
      ∙ ap (begun_at m) (sym (map-append (λ (r : Stamped). r.cells) (x ∷ xs) ys))

  -- the new rows of a fate
  abbrev news : Fate → List Stamped
  news Untouched = []
  news (Replaced new) = new

  news_begun : (row : Row) (o : Option Bool) (made : Option (List Row)) (y : Fate)
      → (o >>= λ b. fate_where b (made >>= made_fate row)) ≡ Some y → Begun (news y)
  news_begun row None made y e = absurd (cc)
  news_begun row (Some false) made y e = subst (λ z. Begun (news z)) (inside Untouched y e) refl
    where
      inside : (u v : Fate) → Some u ≡ Some v → u ≡ v
      inside u v e = cc
  news_begun row (Some true) None y e = absurd (cc)
  news_begun row (Some true) (Some rows) y e =
      subst (λ z. Begun (news z)) (inside _ y e) (begun_stamped (pieces d portion row rows))
    where
      inside : (u v : Fate) → Some u ≡ Some v → u ≡ v
      inside u v e = cc

  front_begun : (y : Fate) (fs : List Fate) → Begun (news y) → Begun (new_rows fs) → Begun (new_rows (y ∷ fs))
  front_begun Untouched fs p q = q
  front_begun (Replaced new) fs p q = begun_both new (new_rows fs) p q

  all_begun : (rows : List Stamped) (fs : List Fate) → map_all fate_of rows ≡ Some fs → Begun (new_rows fs)
  all_begun [] fs e = subst (λ gs. Begun (new_rows gs)) (inside [] fs e) refl
    where
      inside : (us vs : List Fate) → Some us ≡ Some vs → us ≡ vs
      inside us vs e = cc
  all_begun (r ∷ rows) fs e =
      let k = front (fate_of r) (map_all fate_of rows) fs e in
      subst (λ gs. Begun (new_rows gs)) (sym k.4)
      (front_begun k.0 k.1
      (news_begun (shown d r) (is_touched d portion conds (shown d r)) (made_of work (shown d r)) k.0 k.2)
      (all_begun rows k.1 k.3))

  -- ---- the rows after the change

  -- without a fault no fate is missing
  pub fates_there : (rows : List Stamped) (o : Option (List Fate)) → map_all fate_of rows ≡ o
      → first (modify d m rows portion work conds).faults ≡ None → (fs : List Fate) × (o ≡ Some fs)
  fates_there rows None e k = absurd (missing rows e k)
    where
      missing : (xs : List Stamped) → map_all fate_of xs ≡ None
          → first (modify d m xs portion work conds).faults ≡ None → ⊥
      missing xs e k = cc
  fates_there rows (Some fs) e k = (fs, refl)

  -- the rows that stay, and the added rows, beginning at the moment
  pub made_after : (rows : List Stamped) (fs : List Fate) (added : List Row) → map_all fate_of rows ≡ Some fs
      → map (λ (r : Stamped). r.cells) (new_rows fs) ≡ added
      → SameBag (after_fates rows fs) (rows_after m (touches d portion conds) added rows)
  made_after rows fs added e cells =
      let parts = by_parts d m rows portion work conds fs e in
      subst (SameBag (after_fates rows fs))
      (λ i. same_stay rows fs e i ++ (all_begun rows fs e ∙ ap (begun_at m) cells) i)
      parts

  -- its effect on any rows that are the same bag as those read
  pub rows_made : (read rows : List Stamped) (added : List Row) → SameBag read rows
      → first (modify d m read portion work conds).faults ≡ None
      → map (λ (r : Stamped). r.cells) (coming (map_all fate_of read)) ≡ added
      → SameBag (rows_after m (touches d portion conds) added rows) (modify d m rows portion work conds).rows
  rows_made read rows added b sound cells =
      let k = fates_there read (map_all fate_of read) refl sound in
      let same : SameOutcome (modify d m read portion work conds) (modify d m rows portion work conds) =
      no_order d m read rows portion work conds b in
      let made : (modify d m read portion work conds).rows ≡ after_fates read k.0 =
      outcome_rows (map_all fate_of read) k.0 k.1 in
      let come : map (λ (r : Stamped). r.cells) (new_rows k.0) ≡ added =
      ap (λ o. map (λ (r : Stamped). r.cells) (coming o)) (sym k.1) ∙ cells in
      same-trans (same-append (same-filter (λ r. not (touches d portion conds r)) (same-sym b))
      (same-refl (begun_at m added)))
      (same-trans (same-sym (made_after read k.0 added k.1 come))
      (subst (λ xs. SameBag xs (modify d m rows portion work conds).rows) made same.rows))
    where
      outcome_rows : (o : Option (List Fate)) (fs : List Fate) → o ≡ Some fs
          → (outcome_of d read o).rows ≡ after_fates read fs
      outcome_rows None fs e = absurd (cc)
      outcome_rows (Some gs) fs e = ap (after_fates read) (inside gs fs e)
        where
          inside : (us vs : List Fate) → Some us ≡ Some vs → us ≡ vs
          inside us vs e = cc
