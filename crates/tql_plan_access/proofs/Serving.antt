-- The chosen lookup serves: no row outside it passes the conjuncts or is touched by a change.
use Rattle.std.proofs.Common.{◌≡◌, ◌∙◌, refl, sym, subst, ap, ℕ, ◌^◌, ◌-◌, Bool, true, false, List, map, length}
use Rattle.std.proofs.Common.{cond, arith}
use Rattle.std.specs.Prelude.{IfOk, Result, Ok, Err, ℤ, pos, ◌+ℤ◌, int_le, int_lt, ◌&&◌, if◌then◌else◌}
use Rattle.std.specs.Prelude.{Option, Some, None}
use Rattle.std.specs.Int.{int_max, int_min}
use Rattle.std.proofs.lemmas.Bool.{and_from}
use Rattle.std.proofs.lemmas.Int.{ints, clamps}
use Rattle.tql_spec.proofs.Members.{both}
use Rattle.tql_spec.specs.Datum.{Datum, Row}
use Rattle.tql_spec.specs.Definition.{TableDef, period_between, with_generated}
use Rattle.tql_spec.specs.Expression.{Cond}
use Rattle.tql_spec.specs.Period.{Period, share_a_point}
use Rattle.tql_catalog.specs.Defined.{IsDefinition}
use Rattle.tql_catalog.specs.Sought.{sought_columns}
use Rattle.tql_plan_laws.specs.Conjuncts.{meets}
use Rattle.tql_plan_laws.specs.Constants.{PointsAreMet, StretchesAreMet, ValuesAreMet}
use Rattle.tql_store_index.specs.Basis.{Sought, With, WithIn, Holding, Sharing, Between, is_between}
use Rattle.tql_store_index.specs.Basis.{is_looked_at, is_sought}
use Rattle.tql_store_index.specs.Tuple.{is_at}
use Rattle.tql_plan_access.specs.Access.{IsRow, ServesChange, ServesTable, first_given, is_within}
use Rattle.tql_plan_access.specs.Access.{narrowed, period_columns, period_given, safe_part, value_or_null, with_in}
use Rattle.tql_plan_access.specs.Alternatives.{ServesAny, has_any}
use Rattle.tql_plan_access.specs.Ranges.{ranged_in}
use Rattle.tql_plan_access.specs.Said.{IsOrRanged, IsPortionBy, IsRangedBy, IsSaidBy, IsSoughtBy, IsSoughtFor}
use Rattle.tql_plan_access.specs.Said.{IsSoughtForChange}
use Rattle.tql_plan_access.proofs.ByKey.{given_found, stored_long}
use Rattle.tql_plan_access.proofs.ByPeriod.{portion_found, said_found}
use Rattle.tql_plan_access.proofs.GivenLists.{given_first}
use Rattle.tql_plan_access.proofs.InRange.{ranges_met}

-- a property of a result's value implies a weaker property
pub ok_then : {A E : Type 0} {P Q : A → Type 0} (result : Result A E) → ((x : A) → P x → Q x) → IfOk result P
    → IfOk result Q
ok_then (Ok x) f h = f x h
ok_then (Err e) f h = h

-- two properties of a result's value imply a third
pub ok_both : {A E : Type 0} {P Q R : A → Type 0} (result : Result A E) → ((x : A) → P x → Q x → R x) → IfOk result P
    → IfOk result Q → IfOk result R
ok_both (Ok x) f h k = f x h k
ok_both (Err e) f h k = h

-- ---- a key and a period

-- a period that contains a point shares it with the period of that point alone
point_shared : (a b p : ℤ) → int_le a p && int_lt p b ≡ true
    → int_lt (int_max a p) (int_min b (p +ℤ pos 1)) ≡ true
point_shared a b p h = let t = both (int_le a p) (int_lt p b) h in shared a b p t.0 t.1
  where
    shared : (a b p : ℤ) → int_le a p ≡ true → int_lt p b ≡ true
        → int_lt (int_max a p) (int_min b (p +ℤ pos 1)) ≡ true
    shared a b p l m = grind (arith, ints, clamps)

-- a row with these values that a lookup by period finds is found by the narrowed lookup
pub narrowed_found : (columns : List ℕ) (tuple : List Datum) (said : Option Sought) (cells : Row)
    → is_at columns tuple cells ≡ true → is_looked_at said cells ≡ true
    → is_sought (narrowed columns tuple said) cells ≡ true
narrowed_found columns tuple None cells at seen = at
narrowed_found columns tuple (Some (With other values)) cells at seen = at
narrowed_found columns tuple (Some (WithIn other values start end x)) cells at seen = at
narrowed_found columns tuple (Some (Between column low high)) cells at seen = at
narrowed_found columns tuple (Some (Sharing start end x)) cells at seen =
    and_from (is_at columns tuple cells) (share_a_point (period_between cells start end) x) at seen
narrowed_found columns tuple (Some (Holding start end p)) cells at seen = either (int_lt p (pos (2 ^ 63 - 1)))
  where
    x : Period
    x = period_between cells start end

    either : (b : Bool)
        → is_sought (with_in columns tuple start end (cond b (Some (record { start = p; end = p +ℤ pos 1 })) None))
        cells ≡ true
    either true =
        and_from (is_at columns tuple cells) (share_a_point x (record { start = p; end = p +ℤ pos 1 })) at
        (point_shared x.start x.end p seen)
    either false = at

-- ---- lookups by a key and by a period

module _ (d : TableDef) (conds : List Cond) where
  -- a lookup that meets a predicate of the period's lookup meets a weaker one
  pub by_weaker : (is_current : Bool) (first : Option (List ℕ)) (P Q : Option Sought → Type 0)
      → ((o : Option Sought) → P o → Q o) → (o : Option Sought) → IsSoughtBy d conds is_current first P o
      → IsSoughtBy d conds is_current first Q o
  by_weaker is_current None P Q h o s = record { said = s.said; by = h s.said s.by; is = s.is }
  by_weaker is_current (Some columns) P Q h o s = record {
    stored = s.stored;
    there = s.there;
    said = s.said;
    by = h s.said s.by;
    is = s.is;
  }

  -- rows that meet the conjuncts are in their range
  ranged_found : IsDefinition d → (first : Option (List ℕ)) (o : Option Sought) → IsRangedBy d conds first o
      → (cells : Row) (start end : ℤ) → length (with_generated d.system cells start end) ≡ length d.columns
      → meets conds (with_generated d.system cells start end) ≡ true → is_looked_at o cells ≡ true
  ranged_found right None o s cells start end wide m = ap (λ q. is_looked_at q cells) s
  ranged_found right (Some columns) o s cells start end wide m =
      ap (λ q. is_looked_at q cells) s.is
      ∙ subst (λ x. is_between s.range.0 s.range.1 x ≡ true)
      (s.there cells start end (stored_long d right cells start end wide))
      (ranges_met conds (with_generated d.system cells start end) m s.column s.range.0 s.range.1 s.limited)

  or_ranged_found : IsDefinition d → (is_current : Bool) (said o : Option Sought) → IsOrRanged d conds is_current said o
      → (cells : Row) (start end : ℤ) → length (with_generated d.system cells start end) ≡ length d.columns
      → meets conds (with_generated d.system cells start end) ≡ true → is_looked_at said cells ≡ true
      → is_looked_at o cells ≡ true
  or_ranged_found right is_current None o s cells start end wide m seen =
      ranged_found right (ranged_in d is_current conds) o s cells start end wide m
  or_ranged_found right is_current (Some said) o s cells start end wide m seen =
      ap (λ q. is_looked_at q cells) s ∙ seen

  -- rows that meet the conjuncts and that the period's lookup finds are looked at
  sought_found : ValuesAreMet → IsDefinition d → (is_current : Bool) (first : Option (List ℕ))
      → first_given conds (sought_columns d) ≡ first
      → (IsSaid : Option Sought → Type 0) (o : Option Sought) → IsSoughtBy d conds is_current first IsSaid o
      → (cells : Row) (start end : ℤ) → length (with_generated d.system cells start end) ≡ length d.columns
      → meets conds (with_generated d.system cells start end) ≡ true
      → ((said : Option Sought) → IsSaid said → is_looked_at said cells ≡ true) → is_looked_at o cells ≡ true
  sought_found law right is_current None e IsSaid o s cells start end wide m seen =
      or_ranged_found right is_current s.said o s.is cells start end wide m (seen s.said s.by)
  sought_found law right is_current (Some columns) e IsSaid o s cells start end wide m seen =
      let tuple = map (value_or_null conds) columns in
      ap (λ q. is_looked_at q cells) s.is
      ∙ narrowed_found s.stored tuple s.said cells
      (given_found law d right conds columns s.stored (given_first conds d right columns e) s.there cells start end wide
      m)
      (seen s.said s.by)

  module _ (values : ValuesAreMet) (points : PointsAreMet) (stretches : StretchesAreMet) where
    -- rows that meet the conjuncts are looked at
    met_found : IsDefinition d → (is_current : Bool) (o : Option Sought)
        → IsSoughtBy d conds is_current (first_given conds (sought_columns d))
        (IsSaidBy d conds (period_given d is_current)) o
        → (cells : Row) (start end : ℤ)
        → IsRow (period_columns d) (length d.columns) (with_generated d.system cells start end)
        → meets conds (with_generated d.system cells start end) ≡ true → is_looked_at o cells ≡ true
    met_found right is_current o s cells start end r m =
        sought_found values right is_current (first_given conds (sought_columns d)) refl
        (IsSaidBy d conds (period_given d is_current)) o s cells start end r.wide m (seen is_current)
      where
        seen : (b : Bool) (said : Option Sought) → IsSaidBy d conds (if b then d.application else None) said
            → is_looked_at said cells ≡ true
        seen true said by =
            said_found d right points stretches conds d.application refl said by cells start end r m
        seen false said by = ap (λ q. is_looked_at q cells) by

    -- rows of a portion that meet the conjuncts are looked at
    portion_met : IsDefinition d → (portion : Period) (o : Option Sought)
        → IsSoughtBy d conds true (first_given conds (sought_columns d)) (IsPortionBy d portion d.application) o
        → (cells : Row) (start end : ℤ)
        → IsRow (period_columns d) (length d.columns) (with_generated d.system cells start end)
        → is_within d (Some portion) (with_generated d.system cells start end) && meets conds
        (with_generated d.system cells start end) ≡ true
        → is_looked_at o cells ≡ true
    portion_met right portion o s cells start end r m =
        let row = with_generated d.system cells start end in
        let parts = both (is_within d (Some portion) row) (meets conds row) m in
        sought_found values right true (first_given conds (sought_columns d)) refl
        (IsPortionBy d portion d.application) o s cells start end r.wide parts.1
        (λ said by. portion_found d right portion d.application refl said by cells start end r.wide parts.0)

-- ---- for the safe part

-- the lookup for the safe part of conjuncts is the lookup for the conjuncts
pub sought_for : (d : TableDef) (conds : List Cond) (is_current : Bool) (part : List Cond)
    → part ≡ safe_part conds → (said : Option Sought) → IsSaidBy d part (period_given d is_current) said
    → (o : Option Sought) → IsSoughtBy d part is_current (first_given part (sought_columns d)) (λ q. q ≡ said) o
    → IsSoughtFor d conds is_current o
sought_for d conds is_current part e said by o s =
    subst (λ cs. IsSoughtBy d cs is_current (first_given cs (sought_columns d))
    (IsSaidBy d cs (period_given d is_current)) o) e
    (by_weaker d part is_current (first_given part (sought_columns d)) (λ q. q ≡ said)
    (IsSaidBy d part (period_given d is_current))
    (λ q k. subst (IsSaidBy d part (period_given d is_current)) (sym k) by) o s)

module _ (values : ValuesAreMet) (points : PointsAreMet) (stretches : StretchesAreMet) (d : TableDef)
    (right : IsDefinition d) (conds : List Cond) where
  pub serves_table : (is_current : Bool) (o : Option Sought) → IsSoughtFor d conds is_current o
      → ServesTable d conds o
  serves_table is_current o s =
      record { all = met_found d (safe_part conds) values points stretches right is_current o s }

  pub serves_portion : (portion : Period) (o : Option Sought) → IsSoughtForChange d (Some portion) conds o
      → ServesChange d (Some portion) conds (is_looked_at o)
  serves_portion portion o s = portion_met d (safe_part conds) values points stretches right portion o s

-- a change touches only rows that meet WHERE, so values of which each such row has one serve it
pub values_serve : (d : TableDef) (conds : List Cond) (column : ℕ) (values : List Datum)
    → ServesAny d.system (period_columns d) (length d.columns) conds column values → (portion : Option Period)
    → ServesChange d portion conds (has_any column values)
values_serve d conds column values serves portion cells start end r m =
    let row = with_generated d.system cells start end in
    serves.all cells start end r (both (is_within d portion row) (meets (safe_part conds) row) m).1

-- a change without a portion touches only rows that meet WHERE, so a lookup that serves the table serves it
pub serves_plain : (d : TableDef) (conds : List Cond) (o : Option Sought) → ServesTable d conds o
    → ServesChange d None conds (is_looked_at o)
serves_plain d conds o serves cells start end r m = serves.all cells start end r m
