-- The periods of a created table are of points; the columns of a row's application period hold its ends.
use Rattle.std.proofs.Common.{◌≡◌, ◌<◌, refl, sym, ap, subst, ◌∙◌, ℕ, zero, suc, Bool, true, false, List, [], ◌∷◌, ◌++◌}
use Rattle.std.proofs.Common.{map, get_or, length, arith}
use Rattle.std.specs.Prelude.{◌||◌, not, Option, Some}
use Rattle.std.specs.List.{flat_map}
use Rattle.tql_spec.specs.Words.{same_text}
use Rattle.tql_spec.specs.Datum.{Datum, Null, Int, Text, Day, Moment, Row, Kind, Ints, Texts, Days, Moments, same_kind}
use Rattle.tql_spec.specs.Datum.{is_null}
use Rattle.tql_spec.specs.Refusal.{Refusal, TypesDoNotFit, FormNotAllowedHere, fault_if}
use Rattle.tql_spec.specs.Definition as definition
use Rattle.tql_spec.specs.Definition.{Name, TableDef, Application, System, cell, point_of, period_by, period_of}
use Rattle.tql_spec.specs.Syntax.{Element, ColumnTree}
use Rattle.tql_spec.specs.Names.{Checked, check_each}
use Rattle.tql_spec.specs.Creation.{PeriodPart, application_parts, system_parts, application_period, system_period}
use Rattle.tql_spec.specs.Creation.{whole_faults, column_names, columns_of, column_number, constraints_of, kind_in}
use Rattle.tql_spec.specs.Creation.{kind_of_type, kinds_of, has_name, has_number, is_generated_at, starts, stops}
use Rattle.tql_spec.specs.Creation.{first_of, part_names, primary_names, column, are_ends, create}
use Rattle.tql_spec.specs.Typing.{IsOfKind, AreOfKinds, column_kind, is_required, IsTypedDefinition}
use Rattle.tql_spec.specs.TypingLaws.{OwnPeriodsArePoints}
use Rattle.tql_spec.proofs.RunKeeps.{no_left, no_right}
use Rattle.tql_spec.proofs.InOrder.{no_fault}
use Rattle.tql_spec.proofs.Constraints.{same_text-self}
use Rattle.tql_spec.proofs.WidthRuns.{IsAt, number_found, created_sound}
use Rattle.tql_spec.proofs.RowKinds.{cell_kind}

-- ---- kinds

-- kinds that the test finds equal are equal
pub same_kind_is : (k l : Kind) → same_kind k l ≡ true → k ≡ l
same_kind_is Ints Ints e = refl
same_kind_is Texts Texts e = refl
same_kind_is Days Days e = refl
same_kind_is Moments Moments e = refl
same_kind_is Ints Texts e = absurd (cc)
same_kind_is Ints Days e = absurd (cc)
same_kind_is Ints Moments e = absurd (cc)
same_kind_is Texts Ints e = absurd (cc)
same_kind_is Texts Days e = absurd (cc)
same_kind_is Texts Moments e = absurd (cc)
same_kind_is Days Ints e = absurd (cc)
same_kind_is Days Texts e = absurd (cc)
same_kind_is Days Moments e = absurd (cc)
same_kind_is Moments Ints e = absurd (cc)
same_kind_is Moments Texts e = absurd (cc)
same_kind_is Moments Days e = absurd (cc)

-- a test whose negation is false is true
pub not_false : (b : Bool) → not b ≡ false → b ≡ true
not_false true e = refl
not_false false e = absurd (cc)

-- the first part of a false OR is false
pub or_first_false : (a b : Bool) → a || b ≡ false → a ≡ false
or_first_false false b e = refl
or_first_false true b e = absurd (cc)

-- the second part of a false OR is false
pub or_second_false : (a b : Bool) → a || b ≡ false → b ≡ false
or_second_false false b e = e
or_second_false true b e = absurd (cc)

-- the kinds of the defined columns are the written ones
kinds_written : (implied : List Name) (cs : List ColumnTree)
    → map (λ (c : definition.Column). c.kind) (map (column implied) cs)
    ≡ map (λ (c : ColumnTree). kind_of_type c.type_name) cs
kinds_written implied [] = refl
kinds_written implied (c ∷ cs) = ap (λ ks. kind_of_type c.type_name ∷ ks) (kinds_written implied cs)

-- ---- the system period

-- the columns of a system period without a fault are of moments
system_kinds : (es : List Element) (p : PeriodPart) → (system_period es p).faults ≡ []
    → (kind_in es (system_period es p).value.start ≡ Moments) × (kind_in es (system_period es p).value.end ≡ Moments)
system_kinds es p e =
    let names : List Name = column_names es in
    let s : Checked ℕ = column_number names p.start in
    let t : Checked ℕ = column_number names p.end in
    let kinds : List Refusal = fault_if
    (not (same_kind (kind_in es s.value) Moments) || not (same_kind (kind_in es t.value) Moments)) TypesDoNotFit in
    let forms : List Refusal = fault_if
    (same_text p.start p.end || not (has_number s.value (starts es)) || not
    (has_number t.value (stops es))) FormNotAllowedHere in
    let second : t.faults ++ (kinds ++ (forms ++ [])) ≡ [] = no_right s.faults
    (t.faults ++ (kinds ++ (forms ++ []))) e in
    let third : kinds ++ (forms ++ []) ≡ [] = no_right t.faults (kinds ++ (forms ++ [])) second in
    let both = no_fault (not (same_kind (kind_in es s.value) Moments) || not
    (same_kind (kind_in es t.value) Moments)) TypesDoNotFit
    (no_left kinds (forms ++ []) third) in (
      same_kind_is (kind_in es s.value) Moments
          (not_false _ (or_first_false _ (not (same_kind (kind_in es t.value) Moments)) both)),
      same_kind_is (kind_in es t.value) Moments
          (not_false _ (or_second_false (not (same_kind (kind_in es s.value) Moments)) _ both)),
    )

-- the same for the first of several system periods
first_system : (es : List Element) (parts : List PeriodPart) → (check_each (system_period es) parts).faults ≡ []
    → (s : System) → first_of (check_each (system_period es) parts).value ≡ Some s
    → (kind_in es s.start ≡ Moments) × (kind_in es s.end ≡ Moments)
first_system es [] e s q = absurd (cc)
first_system es (p ∷ parts) e s q =
    let same : (system_period es p).value ≡ s = cc in
    subst (λ (x : System). (kind_in es x.start ≡ Moments) × (kind_in es x.end ≡ Moments)) same
    (system_kinds es p (no_left (system_period es p).faults _ e))

-- ---- the application period

-- a column whose name is implied is required
implied_required : (implied : List Name) (cs : List ColumnTree) (i : ℕ)
    → i < length (map (λ (c : ColumnTree). c.name) cs)
    → has_name (get_or (map (λ (c : ColumnTree). c.name) cs) i []) implied ≡ true
    → is_required (map (column implied) cs) i ≡ true
implied_required implied [] i l h = absurd (omega arith)
implied_required implied (c ∷ cs) zero l h = either c.required
  where
    either : (b : Bool) → b || has_name c.name implied ≡ true
    either true = refl
    either false = h
implied_required implied (c ∷ cs) (suc i) l h = implied_required implied cs i (omega arith) h

-- the columns of an application period are of one kind of points, and required
record AreEnds (es : List Element) (implied : List Name) (a : Application) : Type 0 where
  kinds : are_ends (kind_in es a.start) (kind_in es a.end) ≡ true
  start : is_required (map (column implied) (columns_of es)) a.start ≡ true
  end : is_required (map (column implied) (columns_of es)) a.end ≡ true

application_ends : (es : List Element) (implied : List Name) (p : PeriodPart) → has_name p.start implied ≡ true
    → has_name p.end implied ≡ true
    → (application_period es p).faults ≡ [] → AreEnds es implied (application_period es p).value
application_ends es implied p h k e =
    let names : List Name = column_names es in
    let s : Checked ℕ = column_number names p.start in
    let t : Checked ℕ = column_number names p.end in
    let kinds : List Refusal = fault_if (not (are_ends (kind_in es s.value) (kind_in es t.value))) TypesDoNotFit in
    let forms : List Refusal = fault_if
    (same_text p.start p.end || is_generated_at es s.value || is_generated_at es t.value) FormNotAllowedHere in
    let second : t.faults ++ (kinds ++ (forms ++ [])) ≡ [] = no_right s.faults
    (t.faults ++ (kinds ++ (forms ++ []))) e in
    let third : kinds ++ (forms ++ []) ≡ [] = no_right t.faults (kinds ++ (forms ++ [])) second in
    let a : IsAt p.start names s.value = number_found names p.start
    (no_left s.faults (t.faults ++ (kinds ++ (forms ++ []))) e) in
    let b : IsAt p.end names t.value = number_found names p.end (no_left t.faults (kinds ++ (forms ++ [])) second) in
    record {
      kinds = not_false (are_ends (kind_in es s.value) (kind_in es t.value))
          (no_fault (not (are_ends (kind_in es s.value) (kind_in es t.value))) TypesDoNotFit
          (no_left kinds (forms ++ []) third));
      start = implied_required implied (columns_of es) s.value a.within (ap (λ n. has_name n implied) a.named ∙ h);
      end = implied_required implied (columns_of es) t.value b.within (ap (λ n. has_name n implied) b.named ∙ k);
    }

first_application : (es : List Element) (parts : List PeriodPart) (more : List Name)
    → (check_each (application_period es) parts).faults ≡ []
    → (a : Application) → first_of (check_each (application_period es) parts).value ≡ Some a
    → AreEnds es (flat_map part_names parts ++ more) a
first_application es [] more e a q = absurd (cc)
first_application es (p ∷ parts) more e a q =
    let same : (application_period es p).value ≡ a = cc in
    subst (AreEnds es (flat_map part_names (p ∷ parts) ++ more)) same
    (application_ends es (flat_map part_names (p ∷ parts) ++ more) p
    (ap (λ b. b || has_name p.start (p.end ∷ flat_map part_names parts ++ more)) (same_text-self p.start))
    (second (same_text p.end p.start))
    (no_left (application_period es p).faults _ e))
  where
    second : (b : Bool) → b || (same_text p.end p.end || has_name p.end (flat_map part_names parts ++ more)) ≡ true
    second true = refl
    second false = ap (λ b. b || has_name p.end (flat_map part_names parts ++ more)) (same_text-self p.end)

-- ---- the table

-- CREATE TABLE without a fault gives a typed definition
pub created_typed : (defs : List TableDef) (n : Name) (es : List Element) (versioned : Bool)
    → (create defs n es versioned).faults ≡ [] → IsTypedDefinition (create defs n es versioned).value
created_typed defs n es versioned e =
    let implied : List Name = flat_map part_names (application_parts es) ++ primary_names (constraints_of es) in
    let one = no_right (whole_faults defs n es versioned) _ e in
    let two = no_right (check_each (application_period es) (application_parts es)).faults _ one in
    let first = no_left (check_each (application_period es) (application_parts es)).faults _ one in
    let three = no_left (check_each (system_period es) (system_parts es)).faults _ two in
    let kinds = kinds_written implied (columns_of es) in
    record {
      system = λ s q.
          let p = created_sound defs n es versioned e s q in
          let k = first_system es (system_parts es) three s q in
          record {
            start_there = p.start_there;
            end_there = p.end_there;
            apart = p.apart;
            start_kind = ap (λ ks. get_or ks s.start Ints) kinds ∙ k.0;
            end_kind = ap (λ ks. get_or ks s.end Ints) kinds ∙ k.1;
          };
      application = λ a q.
          let k = first_application es (application_parts es) (primary_names (constraints_of es)) first a q in
          record {
            kinds = ap (λ ks. are_ends (get_or ks a.start Ints) (get_or ks a.end Ints)) kinds ∙ k.kinds;
            start_required = k.start;
            end_required = k.end;
          };
    }

-- ---- points

-- a value of the kind of days that is not null is a day
day_is : (v : Datum) → IsOfKind (Some Days) v → is_null v ≡ false → v ≡ Day (point_of v)
day_is Null h n = absurd (cc)
day_is (Int x) h n = absurd (cc)
day_is (Text x) h n = absurd (cc)
day_is (Day x) h n = refl
day_is (Moment x) h n = absurd (cc)

-- a value of the kind of moments that is not null is a moment
moment_is : (v : Datum) → IsOfKind (Some Moments) v → is_null v ≡ false → v ≡ Moment (point_of v)
moment_is Null h n = absurd (cc)
moment_is (Int x) h n = absurd (cc)
moment_is (Text x) h n = absurd (cc)
moment_is (Day x) h n = absurd (cc)
moment_is (Moment x) h n = refl

-- a cell is of its column's kind
of_column : (d : TableDef) (row : Row) (i : ℕ) (k : Kind) → AreOfKinds (kinds_of d) row → column_kind d i ≡ k
    → IsOfKind (Some k) (cell row i)
of_column d row i k h e = subst (λ l. IsOfKind (Some l) (cell row i)) e (cell_kind (kinds_of d) row h i)

-- the law: the columns of a row's application period hold its ends
pub own_points : OwnPeriodsArePoints
own_points = record {
  days = λ d a row q h n. (
    λ k. subst (λ (o : Option Application). cell row a.start ≡ Day (period_by o row).start) (sym q)
        (day_is (cell row a.start) (of_column d row a.start Days h k) (n a q).0),
    λ k. subst (λ (o : Option Application). cell row a.end ≡ Day (period_by o row).end) (sym q)
        (day_is (cell row a.end) (of_column d row a.end Days h k) (n a q).1),
  );
  moments = λ d a row q h n. (
    λ k. subst (λ (o : Option Application). cell row a.start ≡ Moment (period_by o row).start) (sym q)
        (moment_is (cell row a.start) (of_column d row a.start Moments h k) (n a q).0),
    λ k. subst (λ (o : Option Application). cell row a.end ≡ Moment (period_by o row).end) (sym q)
        (moment_is (cell row a.end) (of_column d row a.end Moments h k) (n a q).1),
  );
}
