-- The values that a change of a portion makes have texts: the period of each part lies within the row's.
use Rattle.std.specs.Prelude.{◌≡◌, refl, ℤ, ◌≤ℤ◌, Bool, true, false, IsTrue, List, [], ◌∷◌, ◌++◌, map, All, Option}
use Rattle.std.specs.Prelude.{Some, None, if◌then◌else◌}
use Rattle.std.proofs.Common.{sym, ap, subst, ◌∙◌, arith, inl, inr}
use Rattle.std.proofs.lemmas.Int.{ints, clamps}
use Rattle.std.proofs.lemmas.List.Elements.{All-set}
use Rattle.tql_spec.specs.Bag.{In}
use Rattle.tql_spec.specs.Creation.{kinds_of, are_ends}
use Rattle.tql_spec.specs.Datum.{Row, Kind, Ints, Texts, Days, Moments}
use Rattle.tql_spec.specs.Definition.{TableDef, Application, cell, period_of, point_like, with_period, with_period_by}
use Rattle.tql_spec.specs.Change.{Work, made_of, pieces}
use Rattle.tql_spec.specs.Period.{Period, rises, share_a_point, before, inside, after, if_any}
use Rattle.tql_spec.specs.Typing.{AreOfKinds, HasPeriod, IsTypedDefinition, column_kind}
use Rattle.tql_spec.specs.TypingLaws.{IsTypedWork}
use Rattle.tql_spec.proofs.CreateKinds.{own_points}
use Rattle.tql_spec.proofs.MemberLists.{in_either, in_image}
use Rattle.tql_spec.proofs.RowChanges.{made_kinds, made_periods}
use Rattle.tql_value.specs.Points.{IsPrintable, IsDay, IsMoment}
use Rattle.tql_expr.proofs.Printing.{printable_cell}

-- ---- points

-- both ends lie between those of another period
pub record LiesWithin (x p : Period) : Type 0 where
  pub start_from : x.start ≤ℤ p.start
  pub start_to : p.start ≤ℤ x.end
  pub end_from : x.start ≤ℤ p.end
  pub end_to : p.end ≤ℤ x.end

-- a row of a table whose values have texts and are of its kinds, with no NULL in the columns of its period
pub record IsRight (d : TableDef) (row : Row) : Type 0 where
  pub kinds : AreOfKinds (kinds_of d) row
  pub period : HasPeriod d row
  pub prints : All IsPrintable row

-- a point between two days is a day; the same for moments
day_between : (s e p : ℤ) → IsDay s → IsDay e → s ≤ℤ p → p ≤ℤ e → IsDay p
day_between s e p h k l m = let low = h.0 in let up = k.1 in (omega (arith, ints), omega (arith, ints))

moment_between : (s e p : ℤ) → IsMoment s → IsMoment e → s ≤ℤ p → p ≤ℤ e → IsMoment p
moment_between s e p h k l m = let low = h.0 in let up = k.1 in (omega (arith, ints), omega (arith, ints))

-- a point in a row's period has a text in another row's columns of the period
start_prints : (d : TableDef) (a : Application) (row other : Row) → d.application ≡ Some a
    → IsTrue (are_ends (column_kind d a.start) (column_kind d a.end)) → IsRight d row → IsRight d other
    → (p : ℤ) → (period_of d row).start ≤ℤ p → p ≤ℤ (period_of d row).end
    → IsPrintable (point_like (cell other a.start) p) × IsPrintable (point_like (cell other a.end) p)
start_prints d a row other q ends h k p from to = by_kinds (column_kind d a.start) (column_kind d a.end) refl refl ends
  where
    by_kinds : (s e : Kind) → column_kind d a.start ≡ s → column_kind d a.end ≡ e → IsTrue (are_ends s e)
        → IsPrintable (point_like (cell other a.start) p) × IsPrintable (point_like (cell other a.end) p)
    by_kinds Days Days s e t =
        let of_row = own_points.days d a row q h.kinds h.period in
        let of_other = own_points.days d a other q k.kinds k.period in
        let low : IsDay (period_of d row).start =
        subst IsPrintable (of_row.0 s) (printable_cell row a.start h.prints) in
        let up : IsDay (period_of d row).end = subst IsPrintable (of_row.1 e) (printable_cell row a.end h.prints) in
        let day : IsDay p = day_between (period_of d row).start (period_of d row).end p low up from to in (
          subst (λ v. IsPrintable (point_like v p)) (sym (of_other.0 s)) day,
          subst (λ v. IsPrintable (point_like v p)) (sym (of_other.1 e)) day,
        )
    by_kinds Moments Moments s e t =
        let of_row = own_points.moments d a row q h.kinds h.period in
        let of_other = own_points.moments d a other q k.kinds k.period in
        let low : IsMoment (period_of d row).start =
        subst IsPrintable (of_row.0 s) (printable_cell row a.start h.prints) in
        let up : IsMoment (period_of d row).end = subst IsPrintable (of_row.1 e) (printable_cell row a.end h.prints) in
        let moment : IsMoment p = moment_between (period_of d row).start (period_of d row).end p low up from to in (
          subst (λ v. IsPrintable (point_like v p)) (sym (of_other.0 s)) moment,
          subst (λ v. IsPrintable (point_like v p)) (sym (of_other.1 e)) moment,
        )
    by_kinds Ints l s e t = absurd (cc)
    by_kinds Texts l s e t = absurd (cc)
    by_kinds Days Ints s e t = absurd (cc)
    by_kinds Days Texts s e t = absurd (cc)
    by_kinds Days Moments s e t = absurd (cc)
    by_kinds Moments Ints s e t = absurd (cc)
    by_kinds Moments Texts s e t = absurd (cc)
    by_kinds Moments Days s e t = absurd (cc)

-- a row whose period is replaced by a period within it has only printable values
within_prints : (d : TableDef) → IsTypedDefinition d → (row other : Row) → IsRight d row → IsRight d other
    → (p : Period) → LiesWithin (period_of d row) p
    → All IsPrintable (with_period d p other)
within_prints d t row other h k p w = by_application d.application refl
  where
    by_application : (o : Option Application) → d.application ≡ o → All IsPrintable (with_period_by o p other)
    by_application None q = k.prints
    by_application (Some a) q =
        let ends = (t.application a q).kinds in
        let first : IsPrintable (point_like (cell other a.start) p.start) =
        (start_prints d a row other q ends h k p.start w.start_from w.start_to).0 in
        let last : IsPrintable (point_like (cell other a.end) p.end) =
        (start_prints d a row other q ends h k p.end w.end_from w.end_to).1 in
        All-set IsPrintable _ a.end (point_like (cell other a.end) p.end) last
        (All-set IsPrintable other a.start (point_like (cell other a.start) p.start) first k.prints)

-- ---- the parts

in_any : (x p : Period) → In p (if_any x) → (rises x ≡ true) × (p ≡ x)
in_any x p m = by_rises (rises x) refl m
  where
    by_rises : (b : Bool) → rises x ≡ b → In p (if b then x ∷ [] else []) → (rises x ≡ true) × (p ≡ x)
    by_rises true r m = elim m [ inl e ↦ (r, e) | inr z ↦ absurd z ]
    by_rises false r m = absurd m

before_within : (x : Period) (f : ℤ) → rises (before f x) ≡ true → LiesWithin x (before f x)
before_within x f r = record {
  start_from = grind (arith, ints, clamps);
  start_to = grind (arith, ints, clamps);
  end_from = grind (arith, ints, clamps);
  end_to = grind (arith, ints, clamps);
}

after_within : (x : Period) (g : ℤ) → rises (after g x) ≡ true → LiesWithin x (after g x)
after_within x g r = record {
  start_from = grind (arith, ints, clamps);
  start_to = grind (arith, ints, clamps);
  end_from = grind (arith, ints, clamps);
  end_to = grind (arith, ints, clamps);
}

inside_within : (x portion : Period) → share_a_point x portion ≡ true → LiesWithin x (inside portion x)
inside_within x portion r =
    record {
      start_from = grind (arith, ints, clamps);
      start_to = grind (arith, ints, clamps);
      end_from = grind
          (arith, ints, clamps);
      end_to = grind (arith, ints, clamps);
    }

-- the rows that replace a touched row
pub pieces_print : (d : TableDef) → IsTypedDefinition d → (portion : Period) (work : Work)
    → IsTypedWork d (Some portion) work → (row : Row) → IsRight d row
    → share_a_point (period_of d row) portion ≡ true → (made : List Row) → made_of work row ≡ Some made
    → ((x : Row) → In x made → All IsPrintable x)
    → (x : Row) → In x (pieces d (Some portion) row made) → All IsPrintable x
pieces_print d t portion work w row h shared made e prints x m = elim
    (in_either x (map (λ p. with_period d p row) (if_any (before portion.start y)) ++ map
    (λ r. with_period d (inside portion y) r) made) rest m) [
      | inl n ↦ elim (in_either x (map (λ p. with_period d p row) (if_any (before portion.start y)))
          (map (λ r. with_period d (inside portion y) r) made) n) [
            | inl i ↦ own (before portion.start y) (before_within y portion.start) i
            | inr i ↦ let j = in_image (λ r. with_period d (inside portion y) r) x made i in
                subst (All IsPrintable) (sym j.2) (within_prints d t row j.0 h (record {
                  kinds = made_kinds d (Some portion) work w row h.kinds made e j.0 j.1;
                  period = made_periods d portion work w row h.period made e j.0 j.1;
                  prints = prints j.0 j.1;
                }) (inside portion y) (inside_within y portion shared))
          ]
      | inr i ↦ own (after portion.end y) (after_within y portion.end) i
    ]
  where
    y : Period
    y = period_of d row

    rest : List Row
    rest = map (λ p. with_period d p row) (if_any (after portion.end y))

    own : (p : Period) → (rises p ≡ true → LiesWithin y p) → In x (map (λ p. with_period d p row) (if_any p))
        → All IsPrintable x
    own p lies n =
        let i = in_image (λ p. with_period d p row) x (if_any p) n in
        let k = in_any p i.0 i.1 in
        subst (All IsPrintable) (sym (i.2
        ∙ ap (λ z. with_period d z row) k.1)) (within_prints d t row row h h p (lies k.0))
