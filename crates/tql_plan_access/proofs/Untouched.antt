-- A change leaves the rows outside its access path unchanged. So its outcome on the rows of the path is its outcome on
-- all rows: the same new rows, the same number of touched rows and the same fault.
use Rattle.std.proofs.Common.{◌≡◌, refl, ap, sym, subst, ◌∙◌, suc, Bool, true, false, cond, List, [], ◌∷◌, ◌++◌}
use Rattle.std.proofs.Common.{filter, flat_map}
use Rattle.std.specs.Prelude.{ℤ, not, ◌&&◌, Option, Some, None, if◌then◌else◌}
use Rattle.std.specs.List.{AllByRecursion}
use Rattle.std.proofs.lemmas.List.Filters.{sum_by-filter_both}
use Rattle.std.proofs.lemmas.List.Sums.{sum_by-append}
use Rattle.tql_spec.specs.Bag.{SameBag}
use Rattle.tql_spec.specs.Calendar.{high}
use Rattle.tql_spec.specs.Change.{Fate, Untouched, Replaced, Work, fate, fate_where, is_touched, new_rows, outcome_of}
use Rattle.tql_spec.specs.Change.{replacement, row_faults, touched_count}
use Rattle.tql_spec.specs.Datum.{Row}
use Rattle.tql_spec.specs.Definition.{Stamped, TableDef, period_of, shown}
use Rattle.tql_spec.specs.Expression.{Cond, passes, SafeConditionsAreJudged}
use Rattle.tql_spec.specs.Period.{Period, share_a_point}
use Rattle.tql_spec.specs.Words.{◌>>=◌, map_all, with_front}
use Rattle.tql_spec.proofs.Bags.{same-refl, same-trans, same-append}
use Rattle.tql_spec.proofs.Members.{by_bool}
use Rattle.tql_plan_laws.specs.Conjuncts.{meets}
use Rattle.tql_plan_access.specs.Access.{IsShown, ServesChange, may_touch, safe_part}
use Rattle.tql_plan_access.proofs.SafePart.{decides}

-- ---- the rows that are not looked at

-- a row of the table that is not looked at
pub record IsPassedOver (d : TableDef) (looks : Row → Bool) (r : Stamped) : Type 0 where
  pub row : IsShown d r
  pub unseen : looks r.cells ≡ false

-- the rows that are not looked at
abbrev pub unseen_of : (Row → Bool) → List Stamped → List Stamped
unseen_of looks rows = filter (λ r. not (looks r.cells)) rows

-- the rows of a table that are not looked at are passed over
pub passed_over : (d : TableDef) (looks : Row → Bool) (rows : List Stamped)
    → AllByRecursion (IsShown d) rows
    → AllByRecursion (IsPassedOver d looks) (unseen_of looks rows)
passed_over d looks [] wide = tt
passed_over d looks (r ∷ rows) wide = either (looks r.cells) refl (passed_over d looks rows wide.1)
  where
    either : (b : Bool) → looks r.cells ≡ b → AllByRecursion (IsPassedOver d looks) (unseen_of looks rows)
        → AllByRecursion (IsPassedOver d looks) (cond (not b) (r ∷ unseen_of looks rows) (unseen_of looks rows))
    either true e a = a
    either false e a = (record { row = wide.0; unseen = e }, a)

-- the rows that are looked at and the others are together all rows
pub seen_and_unseen : (looks : Row → Bool) (seen rows : List Stamped)
    → SameBag seen (filter (λ (r : Stamped). looks r.cells) rows)
    → SameBag (seen ++ unseen_of looks rows) rows
seen_and_unseen looks seen rows b =
    same-trans (same-append b (same-refl (unseen_of looks rows))) (record {
      totals = λ w.
          sum_by-append w (filter (λ (r : Stamped). looks r.cells) rows) (unseen_of looks rows)
          ∙ sum_by-filter_both (λ (r : Stamped). looks r.cells) (λ r. not (looks r.cells)) (λ r. refl)
          w rows;
    })

-- ---- the outcome of a change

-- both have the same new rows and the same number of touched rows, or both fail since an evaluation is out of range
abbrev pub SameNews : Option (List Fate) → Option (List Fate) → Type 0
SameNews None None = Unit {0}
SameNews (Some fs) (Some gs) = (new_rows fs ≡ new_rows gs) × (touched_count fs ≡ touched_count gs)
SameNews _ _ = ⊥

module _ (law : SafeConditionsAreJudged) (d : TableDef) (portion : Option Period) (conds : List Cond)
    (looks : Row → Bool) (serves : ServesChange d portion conds looks) where
  -- a row that is passed over is not touched, and the change is not refused because of it
  unmet : (r : Stamped) → IsPassedOver d looks r → may_touch d portion conds (shown d r) ≡ false
  unmet r p = by_bool (may_touch d portion conds (shown d r))
      (λ e. absurd (let k : true ≡ false = sym (serves r.cells r.start high p.row e) ∙ p.unseen in cc))
      (λ e. e)

  -- a row that is passed over is not touched
  pub untouched : (r : Stamped) → IsPassedOver d looks r → is_touched d portion conds (shown d r) ≡ Some false
  untouched r p = by_portion portion (unmet r p)
    where
      by_portion : (q : Option Period) → may_touch d q conds (shown d r) ≡ false
          → is_touched d q conds (shown d r) ≡ Some false
      by_portion None h = decides law conds (shown d r) h
      by_portion (Some x) h = either (share_a_point (period_of d (shown d r)) x) h
        where
          either : (b : Bool) → b && meets (safe_part conds) (shown d r) ≡ false
              → (if b then passes [] (shown d r) conds else Some false) ≡ Some false
          either true e = decides law conds (shown d r) e
          either false e = refl

  module _ (m : ℤ) (work : Work) where
    abbrev fate_of : Stamped → Option Fate
    fate_of r = fate d m portion work conds (shown d r)

    stays : (r : Stamped) → IsPassedOver d looks r → fate_of r ≡ Some Untouched
    stays r p =
        ap (λ q. q >>= λ b. fate_where b (replacement d m portion work (shown d r))) (untouched r p)

    rest_stays : (rest : List Stamped) → AllByRecursion (IsPassedOver d looks) rest
        → SameNews (Some []) (map_all fate_of rest)
    rest_stays [] a = (refl, refl)
    rest_stays (r ∷ rest) a =
        subst (λ q. SameNews (Some []) (with_front q (map_all fate_of rest))) (sym (stays r a.0))
        (more (map_all fate_of rest) (rest_stays rest a.1))
      where
        more : (q : Option (List Fate)) → SameNews (Some []) q → SameNews (Some []) (with_front (Some Untouched) q)
        more None h = absurd h
        more (Some fs) h = h

    -- appending rows that are passed over does not change the new rows
    pub same_news : (seen rest : List Stamped) → AllByRecursion (IsPassedOver d looks) rest
        → SameNews (map_all fate_of seen) (map_all fate_of (seen ++ rest))
    same_news [] rest a = rest_stays rest a
    same_news (r ∷ seen) rest a =
        before (fate_of r) (map_all fate_of seen) (map_all fate_of (seen ++ rest)) (same_news seen rest a)
      where
        before : (y : Option Fate) (fs gs : Option (List Fate)) → SameNews fs gs
            → SameNews (with_front y fs) (with_front y gs)
        before None fs gs h = tt
        before (Some y) None None h = tt
        before (Some y) None (Some gs) h = absurd h
        before (Some y) (Some fs) None h = absurd h
        before (Some Untouched) (Some fs) (Some gs) h = h
        before (Some (Replaced new)) (Some fs) (Some gs) h = (ap (λ rows. new ++ rows) h.0, ap suc h.1)

-- ---- the answer of the change

-- the count is the same
pub news_count : (d : TableDef) (seen rows : List Stamped) (o p : Option (List Fate)) → SameNews o p
    → (outcome_of d seen o).count ≡ (outcome_of d rows p).count
news_count d seen rows None None h = refl
news_count d seen rows None (Some gs) h = absurd h
news_count d seen rows (Some fs) None h = absurd h
news_count d seen rows (Some fs) (Some gs) h = h.1

-- the faults are the same
pub news_faults : (d : TableDef) (seen rows : List Stamped) (o p : Option (List Fate)) → SameNews o p
    → (outcome_of d seen o).faults ≡ (outcome_of d rows p).faults
news_faults d seen rows None None h = refl
news_faults d seen rows None (Some gs) h = absurd h
news_faults d seen rows (Some fs) None h = absurd h
news_faults d seen rows (Some fs) (Some gs) h = ap (flat_map (λ r. row_faults d (shown d r))) h.0
