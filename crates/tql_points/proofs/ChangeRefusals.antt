-- A change of a table is refused exactly if the change given to some point is, with the first of the refusals.
use Rattle.std.proofs.Common.{◌≡◌, ◌≤◌, refl, sym, ap, subst, ◌∙◌, ℕ, Bool, true, false, List, [], ◌∷◌, ◌++◌}
use Rattle.std.proofs.Common.{flat_map, inl, inr, arith}
use Rattle.std.specs.Prelude.{◌⊎◌, ◌&&◌, ◌↔◌, ℤ, Option, Some, None}
use Rattle.std.specs.List.{list_all, sum_by}
use Rattle.tql_spec.specs.Words.{map_all}
use Rattle.tql_spec.specs.Truth.{Truth, is_false}
use Rattle.tql_spec.specs.Bag.{In}
use Rattle.tql_spec.specs.Datum.{Row, is_null}
use Rattle.tql_spec.specs.Refusal.{Refusal, ValueOutOfRange, NullNotAllowed, CheckFailed, place, fault_if, first}
use Rattle.tql_spec.specs.Expression.{eval, judge}
use Rattle.tql_spec.specs.Definition as D
use Rattle.tql_spec.specs.Definition.{TableDef, Stamped, shown}
use Rattle.tql_spec.specs.Change.{Outcome, Fate, fate, is_too_long, cell_faults, period_faults_by, check_fault}
use Rattle.tql_spec.specs.Change.{row_faults, new_rows, insert, modify, outcome_of}
use Rattle.tql_spec.proofs.FaultBags.{IsFirst, first_is}
use Rattle.tql_spec.proofs.FirstFaults.{none_first}
use Rattle.tql_spec.proofs.MemberLists.{in_either}
use Rattle.tql_spec.proofs.Widths.{shown_length}
use Rattle.tql_spec.specs.Reached.{Fits}
use Rattle.tql_points.specs.PointTable.{moved, point_table}
use Rattle.tql_points.specs.PointStatement.{renumbered_work, conds_at, columns_at, tuples_at}
use Rattle.tql_points.specs.Scope.{IsPointTable, is_free_work, is_free_cond}
use Rattle.tql_points.specs.RefusalLaw.{gives_period, once}
use Rattle.tql_points.specs.FaultLaw.{AreSound, IsPointRefusal, IsFirstAtPoints, ModificationRefusals}
use Rattle.tql_points.specs.FaultLaw.{InsertionRefusals}
use Rattle.tql_points.proofs.Changes.{works_free, no_faults}
use Rattle.tql_points.proofs.FaultPoints.{FaultsAtPoints, modify_at_points}
use Rattle.tql_points.proofs.Faults.{own_faults, payload_faults}
use Rattle.tql_points.specs.Slice.{payload}
use Rattle.tql_points.proofs.Good.{AllGood}
use Rattle.tql_points.proofs.InsertPoints.{insert_at_points}
use Rattle.tql_points.proofs.Refusals.{Within, within_flat, within_row, within_out, mark, marked, found_mark, one_fault}
use Rattle.tql_points.proofs.Views.{both_true}

-- ---- the faults of rows without a period

abbrev Numbered : List Refusal → Type 0
Numbered xs = (f : Refusal) → In f xs → IsPointRefusal f

numbered_append : (xs ys : List Refusal) → Numbered xs → Numbered ys → Numbered (xs ++ ys)
numbered_append xs ys h k f n = elim (in_either f xs ys n) [ inl i ↦ h f i | inr i ↦ k f i ]

numbered_if : (b : Bool) (e : Refusal) → IsPointRefusal e → Numbered (fault_if b e)
numbered_if true e l f (inl q) = subst IsPointRefusal (sym q) l
numbered_if true e l f (inr n) = absurd n
numbered_if false e l f n = absurd n

numbered_cells : (cs : List D.Column) (row : Row) → Numbered (cell_faults cs row)
numbered_cells [] row f n = absurd n
numbered_cells (c ∷ cs) [] f n = absurd n
numbered_cells (c ∷ cs) (v ∷ row) f n =
    numbered_append (fault_if (is_too_long c.limit v) ValueOutOfRange ++ fault_if (c.required && is_null v)
    NullNotAllowed) (cell_faults cs row)
    (numbered_append (fault_if (is_too_long c.limit v) ValueOutOfRange)
    (fault_if (c.required && is_null v) NullNotAllowed)
    (numbered_if (is_too_long c.limit v) ValueOutOfRange (inl refl))
    (numbered_if (c.required && is_null v) NullNotAllowed (inr (inl refl))))
    (numbered_cells cs row) f n

numbered_check : (o : Option Truth) → Numbered (check_fault o)
numbered_check None f (inl q) = inl q
numbered_check None f (inr n) = absurd n
numbered_check (Some t) f n = numbered_if (is_false t) CheckFailed (inr (inr refl)) f n

numbered_flat : {A : Type 0} (g : A → List Refusal) (xs : List A) → ((x : A) → Numbered (g x))
    → Numbered (flat_map g xs)
numbered_flat g [] h f n = absurd n
numbered_flat g (x ∷ xs) h f n = numbered_append (g x) (flat_map g xs) (h x) (numbered_flat g xs h) f n

numbered_row : (d : TableDef) → d.application ≡ None → (row : Row) → Numbered (row_faults d row)
numbered_row d e row =
    numbered_append (cell_faults d.columns row ++ period_faults_by d.application d row)
    (flat_map (λ c. check_fault (judge [] row c)) d.checks)
    (numbered_append (cell_faults d.columns row) (period_faults_by d.application d row)
    (numbered_cells d.columns row)
    (λ f n. absurd (subst (λ o. In f (period_faults_by o d row)) e n)))
    (numbered_flat (λ c. check_fault (judge [] row c)) d.checks (λ c. numbered_check (judge [] row c)))

numbered_out : Numbered (ValueOutOfRange ∷ [])
numbered_out f (inl q) = inl q
numbered_out f (inr n) = absurd n

-- ---- the faults of outcomes

within_inserted : (d : TableDef) (m : ℤ) (rows : List Stamped) (columns : List ℕ) (o : Option (List Row))
    → Within (insert d m rows columns o).faults
within_inserted d m rows columns None = within_out
within_inserted d m rows columns (Some tuples) =
    within_flat (λ r. row_faults d (shown d r)) _ (λ r. within_row d (shown d r))

within_fates : (d : TableDef) (rows : List Stamped) (o : Option (List Fate)) → Within (outcome_of d rows o).faults
within_fates d rows None = within_out
within_fates d rows (Some fates) =
    within_flat (λ r. row_faults d (shown d r)) (new_rows fates) (λ r. within_row d (shown d r))

numbered_inserted : (d : TableDef) → d.application ≡ None → (m : ℤ) (rows : List Stamped) (columns : List ℕ)
    (o : Option (List Row)) → Numbered (insert d m rows columns o).faults
numbered_inserted d e m rows columns None = numbered_out
numbered_inserted d e m rows columns (Some tuples) =
    numbered_flat (λ r. row_faults d (shown d r)) _ (λ r. numbered_row d e (shown d r))

numbered_fates : (d : TableDef) → d.application ≡ None → (rows : List Stamped) (o : Option (List Fate))
    → Numbered (outcome_of d rows o).faults
numbered_fates d e rows None = numbered_out
numbered_fates d e rows (Some fates) =
    numbered_flat (λ r. row_faults d (shown d r)) (new_rows fates) (λ r. numbered_row d e (shown d r))

-- ---- the first refusal, of the whole and of the points

module _ (whole : Outcome) (reduced : ℤ → Outcome) (h : FaultsAtPoints whole reduced)
    (w : (p : ℤ) → Within (reduced p).faults) (n : (p : ℤ) → Numbered (reduced p).faults) where
  -- no refusal of a point comes before the first refusal of the whole
  none_earlier : (e : Refusal) → IsFirst e whole.faults → (p : ℤ) (f : Refusal) → In f (reduced p).faults
      → place e ≤ place f
  none_earlier e k p f i = elim h.less [
    | inl q ↦
        let only : e ≡ ValueOutOfRange = alone (subst (In e) q k.there) in
        let range = w p f i in omega (arith, ap place only, range.0)
    | inr l ↦
        let counted = marked f (reduced p).faults i in
        let there = found_mark (place f) whole.faults (omega (arith, counted, l (mark (place f)) p)) in
        let first = k.least there.0 there.1 in omega (arith, first, there.2)
  ]
    where
      alone : In e (ValueOutOfRange ∷ []) → e ≡ ValueOutOfRange
      alone (inl q) = q
      alone (inr m) = absurd m

  -- the first refusal of the whole occurs at some point
  some_has : (e : Refusal) → IsFirst e whole.faults → (p : ℤ) × In e (reduced p).faults
  some_has e k =
      let counted = marked e whole.faults k.there in
      let z = h.some (mark (place e)) counted in
      let there = found_mark (place e) (reduced z.0).faults z.1 in
      (z.0, subst (λ f. In f (reduced z.0).faults) (one_fault there.0 e there.2) there.1)

  first_at : (e : Refusal) → first whole.faults ≡ Some e → IsFirstAtPoints reduced e
  first_at e x =
      let k = first_is whole.faults e x in
      let y = some_has e k in
      record {
        point = y.0;
        refused = by_first k y.0 y.1 (first (reduced y.0).faults) refl;
        least = λ p f v. none_earlier e k p f (first_is (reduced p).faults f v).there;
        number = n y.0 e y.1;
      }
    where
      by_first : IsFirst e whole.faults → (p : ℤ) → In e (reduced p).faults → (o : Option Refusal)
          → first (reduced p).faults ≡ o → first (reduced p).faults ≡ Some e
      by_first k p i None v = absurd (subst (λ xs. In e xs) (none_first (reduced p).faults v) i)
      by_first k p i (Some f) v =
          let z = first_is (reduced p).faults f v in
          v ∙ ap (λ (y : Refusal). Some y)
          (one_fault f e (omega (arith, z.least e i, none_earlier e k p f z.there)))

  from_points : (e : Refusal) → IsFirstAtPoints reduced e → first whole.faults ≡ Some e
  from_points e x = by_whole (first whole.faults) refl
    where
      by_whole : (o : Option Refusal) → first whole.faults ≡ o → first whole.faults ≡ Some e
      by_whole (Some f) q =
          let y = first_at f q in
          q ∙ ap (λ (z : Refusal). Some z)
          (one_fault f e (omega (arith, x.least y.point f y.refused, y.least x.point e x.refused)))
      by_whole None q =
          let none : whole.faults ≡ [] = none_first whole.faults q in
          let sound : (reduced x.point).faults ≡ [] = by_less none h.less in
          let never : None ≡ Some e = sym (ap first sound) ∙ x.refused in absurd (cc)
        where
          by_less : whole.faults ≡ [] → (whole.faults ≡ ValueOutOfRange ∷ [])
              ⊎ ((u : Refusal → ℕ) (p : ℤ) → sum_by u (reduced p).faults ≤ sum_by u whole.faults)
              → (reduced x.point).faults ≡ []
          by_less none (inl some) = let never : [] ≡ ValueOutOfRange ∷ [] = sym none ∙ some in absurd (cc)
          by_less none (inr l) =
              let less = l (λ f. 1) x.point in
              let zero = ap (sum_by (λ (f : Refusal). 1)) none in
              no_faults (reduced x.point).faults (omega (arith, less, zero))

  either_way : (e : Refusal) → (first whole.faults ≡ Some e) ↔ IsFirstAtPoints reduced e
  either_way e = (first_at e, from_points e)

-- ---- the laws

-- sound rows are good
all_good : (defs : List TableDef) (d : TableDef) → IsPointTable defs d → (rows : List Stamped)
    → ((r : Stamped) → In r rows → Fits d r) → AreSound d rows → AllGood d rows
all_good defs d t rows fits s r i =
    record {
      rising = (s r i).rising;
      sound = no_faults (payload_faults d (payload d (shown d r)))
          (let less = own_faults defs d t (λ f. 1) (shown d r) (shown_length d r (fits r i)) in
          let zero = ap (sum_by (λ (f : Refusal). 1)) (s r i).faultless in omega (arith, less, zero));
    }

pub modification_refusals : ModificationRefusals
modification_refusals defs d m rows others portion work conds e h s k =
    let y = both_true (is_free_work d work) (list_all (is_free_cond d) conds) k in
    either_way (modify d m rows portion work conds)
    (λ p. modify (point_table defs d) m (others p) None (renumbered_work (moved d) work) (conds_at d p portion conds))
    (modify_at_points defs d (h m).table m rows portion work conds others h
    (all_good defs d (h m).table rows (h m).fits s) (works_free d work y.0) y.1)
    (λ p. within_fates (point_table defs d) (others p) (fates p))
    (λ p. numbered_fates (point_table defs d) refl (others p) (fates p)) e
  where
    fates : ℤ → Option (List Fate)
    fates p = map_all (λ r. fate (point_table defs d) m None (renumbered_work (moved d) work)
        (conds_at d p portion conds) (shown (point_table defs d) r)) (others p)

pub insertion_refusals : InsertionRefusals
insertion_refusals defs d m rows others columns tuples e h c k =
    let y = both_true (once columns) (list_all (gives_period d columns) tuples) k in
    either_way (insert d m rows columns (map_all (map_all (eval [] [])) tuples))
    (λ p. insert (point_table defs d) m (others p) (columns_at d columns)
    (map_all (map_all (eval [] [])) (tuples_at d p columns tuples)))
    (insert_at_points defs d (h m).table m rows columns tuples others h c y.0 y.1)
    (λ p. within_inserted (point_table defs d) m (others p) (columns_at d columns) _)
    (λ p. numbered_inserted (point_table defs d) refl m (others p) (columns_at d columns) _) e
