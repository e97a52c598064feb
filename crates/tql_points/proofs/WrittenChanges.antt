-- A statement that is written in scope is bound to one that can be considered at each point.
use Rattle.std.proofs.Common.{◌≡◌, ◌<◌, ◌+◌, refl, sym, ap, subst, ◌∙◌, ℕ, zero, suc, Bool, true, false, List, []}
use Rattle.std.proofs.Common.{◌∷◌, ◌++◌}
use Rattle.std.proofs.Common.{map, get_or, length, inl, inr, arith}
use Rattle.std.specs.Prelude.{not, ◌||◌, ◌&&◌, ◌==◌, nat_lt, ℤ, int_lt, if◌then◌else◌, slice_set, replicate, Option}
use Rattle.std.specs.Prelude.{Some, None}
use Rattle.std.specs.List.{list_all, list_any, range_with_len}
use Rattle.std.proofs.lemmas.Bool.Decides.{nat_tests}
use Rattle.std.proofs.lemmas.List.{length-map, length-replicate}
use Rattle.std.proofs.Math.ListN.{length-set}
use Rattle.tql_spec.specs.Words.{same_text, listed}
use Rattle.tql_spec.specs.Bag.{In}
use Rattle.tql_spec.specs.Calendar.{read_date, read_timestamp}
use Rattle.tql_spec.specs.Datum.{Datum, Null, Day, Moment, Row, Kind, Days, Moments}
use Rattle.tql_spec.specs.Period.{Period, rises}
use Rattle.tql_spec.specs.Refusal.{Refusal, NameUnknownAmbiguousOrRepeated, FormNotAllowedHere, TypesDoNotFit, fault_if}
use Rattle.tql_spec.specs.Expression.{Expr, Cond, eval}
use Rattle.tql_spec.specs.Definition.{Name, TableDef, Application, point_of, period_by, table_at, place_of}
use Rattle.tql_spec.specs.Definition as definition
use Rattle.tql_spec.specs.Change.{Assignment, Work, filled, new_row}
use Rattle.tql_spec.specs.Machine.{Bound}
use Rattle.tql_spec.specs.Syntax.{Sum, Terms, NoTerm, PlusTerm, MinusTerm, Factors}
use Rattle.tql_spec.specs.Syntax.{NoFactor, TimesFactor, Unsigned, Positive, Negative, Primary, NumberLiteral}
use Rattle.tql_spec.specs.Syntax.{TextLiteral, DateLiteral, TimestampLiteral, ColumnNamed, Enclosed, CountStar, Over}
use Rattle.tql_spec.specs.Syntax.{Condition, CellTree, NullCell, ValueCell, Tuple, SetTree, PortionTree, Statement}
use Rattle.tql_spec.specs.Syntax.{CreateTree, DropTree, InsertValues, InsertSelect, UpdateTree, DeleteTree, QueryTree}
use Rattle.tql_spec.specs.Syntax.{StartTree, CommitTree, RollbackTree, AtTree, PruneTree}
use Rattle.tql_spec.specs.Names.{Checked, check_each, Known, Typed, expr, primary, literal}
use Rattle.tql_spec.specs.Creation.{has_name, has_number, names_of, column_number, repeats}
use Rattle.tql_spec.specs.Creation.{period_columns, application_name, uses_column}
use Rattle.tql_spec.specs.Binding.{or_no_table, table_number, insert_columns, assigned_columns, all_assignable}
use Rattle.tql_spec.specs.Binding.{is_generated, generated_columns, insert_values, kinds_for, cell, cells_misfit, tuple}
use Rattle.tql_spec.specs.Binding.{own_scope, assignment, portion, sets_period, plain_filter, update, delete, bind}
use Rattle.tql_spec.specs.Syntax.{OpenTree, ReadTree, CloseTree}
use Rattle.tql_spec.proofs.BoundKinds.{in_checked, none_any}
use Rattle.tql_spec.proofs.CreateKinds.{or_first_false, or_second_false}
use Rattle.tql_spec.proofs.InOrder.{no_fault}
use Rattle.tql_spec.proofs.Members.{by_bool}
use Rattle.tql_spec.proofs.MemberLists.{in_kept, in_left, in_right, in_either, in_map}
use Rattle.tql_spec.proofs.RunKeeps.{no_left, no_right}
use Rattle.tql_spec.proofs.WidthRuns.{number_found}
use Rattle.tql_points.specs.Slice.{own_columns}
use Rattle.tql_points.specs.PointStatement.{or_null, given}
use Rattle.tql_points.specs.Scope.{IsPointTable, ArePointTables, is_payload, is_free, is_free_cond, is_free_work}
use Rattle.tql_points.specs.Scope.{are_filled, is_in_scope}
use Rattle.tql_points.specs.RefusalLaw.{is_point, has_points, has_period, once, gives_period, gives_periods}
use Rattle.tql_points.specs.StatementScope.{point_of_sum, point_of_primary, point_in, cell_for, do_rise, cells_rise}
use Rattle.tql_points.specs.StatementScope.{tuple_rises, own_names, cell_avoids, set_avoids, change_avoids, of_table}
use Rattle.tql_points.specs.StatementScope.{is_query, defines, is_statement_in_scope}
use Rattle.tql_points.specs.NamesAvoided.{filter_avoids}
use Rattle.tql_points.proofs.Avoided.{IsClear, AreClear, sum_free, filter_free}
use Rattle.tql_points.proofs.Creations.{name_in, all_member, member_all, place_within, place_named}
use Rattle.tql_points.proofs.Numbers.{Apart, equal, equal_test, in_number, not_in, not_number, filter_apart}
use Rattle.tql_points.proofs.Numbers.{range_apart, range_in}
use Rattle.tql_points.proofs.Steps.{got_same, got_other}
use Rattle.tql_points.proofs.Tables.{not_true, some_there, to_payload, apart_there}
use Rattle.tql_points.proofs.Views.{both_true}

-- ---- tables

-- a table found by its name
record IsFound (n : Name) (defs : List TableDef) (t : ℕ) : Type 0 where
  within : t < length defs
  named : same_text n (table_at defs t).name ≡ true

is_found : (n : Name) (defs : List TableDef) → (table_number defs n).faults ≡ []
    → IsFound n defs (table_number defs n).value
is_found n defs e = by_place (place_of n defs) refl e
  where
    by_place : (o : Option ℕ) → place_of n defs ≡ o → (or_no_table o).faults ≡ [] → IsFound n defs (or_no_table o).value
    by_place None q f = absurd (cc)
    by_place (Some t) q f = record { within = place_within n defs t q; named = place_named n defs t q }

in_at : {X : Type 0} (xs : List X) (i : ℕ) (d : X) → i < length xs → In (get_or xs i d) xs
in_at [] i d l = absurd (omega arith)
in_at (x ∷ xs) zero d l = inl refl
in_at (x ∷ xs) (suc i) d l = inr (in_at xs i d (omega arith))

-- what is true of each table with the name is true of the table found
test_found : (n : Name) (test : TableDef → Bool) (defs : List TableDef) (t : ℕ) → IsFound n defs t
    → of_table n test defs ≡ true → test (table_at defs t) ≡ true
test_found n test defs t f e =
    let k = all_member (λ (d : TableDef). not (same_text n d.name) || test d) defs e (table_at defs t)
    (in_at defs t _ f.within) in
    sym (ap (λ b. not b || test (table_at defs t)) f.named) ∙ k

within_test : (t n : ℕ) → t < n → nat_lt t n ≡ true
within_test t n l = grind (arith, nat_tests, l)

-- ---- columns

or_true : (b : Bool) → b || true ≡ true
or_true true = refl
or_true false = refl

-- the name of a period column is one of the table's own names
own_named : (d : TableDef) (i : ℕ) → In i (own_columns d)
    → has_name (get_or (names_of d) i []) (own_names d) ≡ true
own_named d i m = name_in (get_or (names_of d) i []) (own_names d)
    (in_right (get_or (names_of d) i []) (application_name d.application)
    (map (λ j. get_or (names_of d) j []) (own_columns d)) (in_map (λ j. get_or (names_of d) j []) i (own_columns d) m))

-- a column with another name belongs to no period
named_payload : (d : TableDef) (i : ℕ) → i < length d.columns
    → has_name (get_or (names_of d) i []) (own_names d) ≡ false → is_payload d i ≡ true
named_payload d i l e = in_number i _ (to_payload d i l (λ m.
    let never : true ≡ false = sym (own_named d i m) ∙ e in absurd (cc)))

-- the name scope of a change
own_clear : (d : TableDef) → AreClear (own_names d) (λ i. not (is_payload d i)) (own_scope d)
own_clear d = record { each = known }
  where
    zero_plus : (k : ℕ) → 0 + k ≡ k
    zero_plus k = omega arith

    named : (o : Option Application) (a : Application) → In a (listed o) → In a.name (application_name o)
    named None a m = absurd m
    named (Some b) a (inl q) = inl (ap (λ (x : Application). x.name) q)
    named (Some b) a (inr m) = absurd m

    known : (k : Known) → In k (own_scope d) → IsClear (own_names d) (λ i. not (is_payload d i)) k
    known k (inl q) = subst (IsClear (own_names d) (λ i. not (is_payload d i))) (sym q) (record {
      columns = λ i l e. ap (λ j. not (is_payload d j)) (zero_plus i) ∙ ap not (named_payload d i l e);
      periods = λ a m. name_in a.name (own_names d)
          (in_left a.name (application_name d.application) (map (λ j. get_or (names_of d) j []) (own_columns d))
          (named d.application a m));
    })
    known k (inr m) = absurd m

-- ---- the columns that an INSERT fills

-- each column exists and is not generated, and none is listed twice
record AreOpen (d : TableDef) (is : List ℕ) : Type 0 where
  there : (i : ℕ) → In i is → i < length d.columns
  own : (i : ℕ) → In i is → is_generated d i ≡ false
  once : once is ≡ true

as_named : (d : TableDef) → length (names_of d) ≡ length d.columns
as_named d = length-map d.columns _

apart_once : (is : List ℕ) → Apart is → once is ≡ true
apart_once [] h = refl
apart_once (i ∷ is) h = ap (λ b. not b && once is) (not_number i is h.0) ∙ apart_once is h.1

pub once_apart : (is : List ℕ) → once is ≡ true → Apart is
once_apart [] e = tt
once_apart (i ∷ is) e =
    let s = both_true (not (has_number i is)) (once is) e in
    (not_in i is (not_true (has_number i is) s.0), once_apart is s.1)

-- different names have different numbers
numbers_once : (names ns : List Name) → (check_each (column_number names) ns).faults ≡ [] → repeats ns ≡ false
    → once (check_each (column_number names) ns).value ≡ true
numbers_once names [] e r = refl
numbers_once names (n ∷ ns) e r =
    let each : Checked (List ℕ) = check_each (column_number names) ns in
    let more = no_left each.faults [] (no_right (column_number names n).faults (each.faults ++ []) e) in
    let at = number_found names n (no_left (column_number names n).faults (each.faults ++ []) e) in
    ap (λ b. not b && once each.value) (not_number (column_number names n).value each.value (λ m.
    let k = in_checked (column_number names) (column_number names n).value ns m more in
    let other = number_found names k.0 k.3 in
    let same : n ≡ k.0 = sym at.named ∙ ap (λ i. get_or names i []) k.2 ∙ other.named in
    never (sym (name_in n ns (subst (λ x. In x ns) (sym same) k.1))
    ∙ or_first_false (has_name n ns) (repeats ns) r)))
    ∙ numbers_once names ns more (or_second_false (has_name n ns) (repeats ns) r)
  where
    never : true ≡ false → ⊥
    never q = cc

assigned_open : (d : TableDef) (ns : List Name) → (assigned_columns d ns).faults ≡ []
    → AreOpen d (assigned_columns d ns).value
assigned_open d ns e =
    let each : Checked (List ℕ) = check_each (column_number (names_of d)) ns in
    let twice : List Refusal = fault_if (repeats ns) NameUnknownAmbiguousOrRepeated in
    let form : Bool = list_any (is_generated d) each.value in
    let one = no_left (each.faults ++ twice) (fault_if form FormNotAllowedHere) e in
    let found = no_left each.faults twice one in
    record {
      there = λ i m.
          let k = in_checked (column_number (names_of d)) i ns m found in
          let l = (number_found (names_of d) k.0 k.3).within in
          omega (arith, l, k.2, as_named d);
      own = λ i m. none_any (is_generated d) i each.value m
          (no_fault form FormNotAllowedHere (no_right (each.faults ++ twice) (fault_if form FormNotAllowedHere) e));
      once = numbers_once (names_of d) ns found
          (no_fault (repeats ns) NameUnknownAmbiguousOrRepeated (no_right each.faults twice one));
    }

columns_open : (d : TableDef) (ns : List Name) → (insert_columns d ns).faults ≡ []
    → AreOpen d (insert_columns d ns).value
columns_open d [] e = record {
  there = λ i m. let k = range_in i 0 (length d.columns) (kept i m).0 in omega (arith, k.1);
  own = λ i m. not_true (is_generated d i) (kept i m).1;
  once = apart_once (all_assignable d)
      (filter_apart (λ i. not (is_generated d i)) (range_with_len 0 (length d.columns))
      (range_apart 0 (length d.columns)));
}
  where
    kept : (i : ℕ) → In i (all_assignable d)
        → In i (range_with_len 0 (length d.columns)) × (not (is_generated d i) ≡ true)
    kept i m = in_kept (λ j. not (is_generated d j)) i (range_with_len 0 (length d.columns)) m
columns_open d (n ∷ ns) e = assigned_open d (n ∷ ns) e

-- they are payload columns or columns of the period
open_filled : (d : TableDef) (is : List ℕ) → AreOpen d is → are_filled d is ≡ true
open_filled d is h = member_all (λ i. is_payload d i || has_number i (period_columns d.application)) is (λ i m.
    by_bool (has_number i (period_columns d.application))
    (λ e. ap (λ b. is_payload d i || b) e ∙ or_true (is_payload d i))
    (λ e. ap (λ b. b || has_number i (period_columns d.application))
    (in_number i _ (to_payload d i (h.there i m) (λ k. elim
    (in_either i (period_columns d.application) (generated_columns d.system) k) [
      | inl y ↦ not_in i (period_columns d.application) e y
      | inr y ↦ not_in i (generated_columns d.system) (h.own i m) y
    ])))))

-- ---- the periods of an INSERT

-- a value that is this point
record IsPoint (p : ℤ) (v : Datum) : Type 0 where
  is : is_point v ≡ true
  at : point_of v ≡ p

-- the value of an expression without a row
abbrev value_of : Expr → Datum
value_of e = or_null (eval [] [] e)

some_is : {A : Type 0} {a b : A} → Some a ≡ Some b → a ≡ b
some_is q = cc

date_point : (o : Option ℤ) (p : ℤ) → o ≡ Some p → IsPoint p (value_of (literal Days Day o).value.expr)
date_point None p e = absurd (cc)
date_point (Some x) p e = record { is = refl; at = some_is e }

moment_point : (o : Option ℤ) (p : ℤ) → o ≡ Some p → IsPoint p (value_of (literal Moments Moment o).value.expr)
moment_point None p e = absurd (cc)
moment_point (Some x) p e = record { is = refl; at = some_is e }

mutual
  sum_point : (e : Sum) (p : ℤ) → point_of_sum e ≡ Some p → IsPoint p (value_of (expr [] e).value.expr)
  sum_point (Terms (Factors (Unsigned q) NoFactor) NoTerm) p e = primary_point q p e
  sum_point (Terms (Factors (Unsigned q) NoFactor) (PlusTerm t m)) p e = absurd (cc)
  sum_point (Terms (Factors (Unsigned q) NoFactor) (MinusTerm t m)) p e = absurd (cc)
  sum_point (Terms (Factors (Unsigned q) (TimesFactor s f)) m) p e = absurd (cc)
  sum_point (Terms (Factors (Positive q) f) m) p e = absurd (cc)
  sum_point (Terms (Factors (Negative q) f) m) p e = absurd (cc)

  primary_point : (q : Primary) (p : ℤ) → point_of_primary q ≡ Some p → IsPoint p (value_of (primary [] q).value.expr)
  primary_point (NumberLiteral ds) p e = absurd (cc)
  primary_point (TextLiteral t) p e = absurd (cc)
  primary_point (DateLiteral t) p e = date_point (read_date t) p e
  primary_point (TimestampLiteral t) p e = moment_point (read_timestamp t) p e
  primary_point (ColumnNamed r) p e = absurd (cc)
  primary_point (Enclosed x) p e = sum_point x p e
  primary_point CountStar p e = absurd (cc)
  primary_point (Over f x) p e = absurd (cc)

-- the value of a cell
abbrev cell_value : CellTree → Datum
cell_value c = value_of (cell [] c).value.expr

cell_point : (c : CellTree) (p : ℤ) → point_in c ≡ Some p → IsPoint p (cell_value c)
cell_point NullCell p e = absurd (cc)
cell_point (ValueCell x) p e = sum_point x p e

-- a column that is not filled keeps its value
filled_other : (row : Row) (is : List ℕ) (vs : List Datum) (i : ℕ) → (In i is → ⊥)
    → definition.cell (filled row is vs) i ≡ definition.cell row i
filled_other row [] vs i h = refl
filled_other row (c ∷ cs) [] i h = refl
filled_other row (c ∷ cs) (v ∷ vs) i h = filled_other (slice_set row c v) cs vs i (λ m. h (inr m))
    ∙ got_other row c i v Null (λ q. h (inl (sym q)))

-- a filled column has the value of its cell
filled_point : (row : Row) (is : List ℕ) (cells : List CellTree) (i : ℕ) (p : ℤ) → i < length row → Apart is
    → point_in (cell_for i is cells) ≡ Some p → IsPoint p (definition.cell (filled row is (map cell_value cells)) i)
filled_point row [] cells i p l a e = absurd (cc)
filled_point row (c ∷ cs) [] i p l a e = absurd (cc)
filled_point row (c ∷ cs) (x ∷ xs) i p l a e = by_bool (i == c)
    (λ q. let same = equal i c q in
    let here : point_in x ≡ Some p = sym (ap (λ b. point_in (if b then x else cell_for i cs xs)) q) ∙ e in
    subst (IsPoint p)
    (sym (filled_other (slice_set row c (cell_value x)) cs (map cell_value xs) i
    (λ m. a.0 (subst (λ j. In j cs) same m))
    ∙ ap (definition.cell (slice_set row c (cell_value x))) same
    ∙ got_same row c (cell_value x) Null (omega (arith, l, same))))
    (cell_point x p here))
    (λ q. filled_point (slice_set row c (cell_value x)) cs xs i p
    (omega (arith, l, length-set row c (cell_value x))) a.1
    (sym (ap (λ b. point_in (if b then x else cell_for i cs xs)) q) ∙ e))

-- the values of a tuple
values_are : (cells : List CellTree)
    → map value_of (map (λ (c : Typed). c.expr) (check_each (cell []) cells).value) ≡ map cell_value cells
values_are [] = refl
values_are (c ∷ cells) = ap (λ vs. cell_value c ∷ vs) (values_are cells)

cells_many : (cells : List CellTree)
    → length (map (λ (c : Typed). c.expr) (check_each (cell []) cells).value)
    ≡ length (check_each (cell []) cells).value
cells_many cells = length-map (check_each (cell []) cells).value _

-- if the test finds no misfit, there are as many cells as columns
as_many : (ks : List Kind) (cs : List (Option Kind)) → cells_misfit ks cs ≡ false → length cs ≡ length ks
as_many [] [] e = refl
as_many [] (c ∷ cs) e = absurd (cc)
as_many (k ∷ ks) [] e = absurd (cc)
as_many (k ∷ ks) (c ∷ cs) e =
    let l = as_many ks cs (or_second_false _ (cells_misfit ks cs) e) in omega (arith, l)

-- two points, the first before the second
both_rise : (o o' : Option ℤ) → do_rise o o' ≡ true
    → (f : ℤ) × (g : ℤ) × (o ≡ Some f) × (o' ≡ Some g) × (int_lt f g ≡ true)
both_rise None o' e = absurd (cc)
both_rise (Some f) None e = absurd (cc)
both_rise (Some f) (Some g) e = (f, g, refl, refl, e)

-- a row whose cells give a rising period has one
cells_give : (o : Option Application) (a : Application) → o ≡ Some a → (row : Row) (is : List ℕ) (cells : List CellTree)
    → a.start < length row → a.end < length row → Apart is → cells_rise o is cells ≡ true
    → has_points o (filled row is (map cell_value cells)) && rises (period_by o (filled row is (map cell_value cells)))
    ≡ true
cells_give None a q row is cells l k h e = absurd (cc)
cells_give (Some b) a q row is cells l k h e =
    let same : b ≡ a = cc in
    let z = both_rise (point_in (cell_for b.start is cells)) (point_in (cell_for b.end is cells)) e in
    let start = filled_point row is cells b.start z.0 (subst (λ (x : Application). x.start < length row) (sym same) l) h
    z.2 in
    let end = filled_point row is cells b.end z.1 (subst (λ (x : Application). x.end < length row) (sym same) k) h
    z.3 in
    let new : Row = filled row is (map cell_value cells) in
    ap (λ x. x && is_point (definition.cell new b.end) && rises (period_by (Some b) new)) start.is
    ∙ ap (λ x. x && rises (period_by (Some b) new)) end.is
    ∙ ap (λ x. int_lt x (point_of (definition.cell new b.end))) start.at
    ∙ ap (int_lt z.0) end.at ∙ z.4

-- a tuple in scope
tuple_gives : (defs : List TableDef) (d : TableDef) → IsPointTable defs d → (is : List ℕ) → once is ≡ true → (t : Tuple)
    → (tuple (kinds_for d is) t).faults ≡ [] → cells_rise d.application is (t.first ∷ t.more) ≡ true
    → gives_period d is (tuple (kinds_for d is) t).value ≡ true
tuple_gives defs d h is o t e r =
    let cells : Checked (List Typed) = check_each (cell []) (t.first ∷ t.more) in
    let exprs : List Expr = map (λ (c : Typed). c.expr) cells.value in
    let kinds : List (Option Kind) = map (λ (c : Typed). c.kind) cells.value in
    let misfit : Bool = cells_misfit (kinds_for d is) kinds in
    let many : length exprs ≡ length is =
    cells_many (t.first ∷ t.more) ∙ sym (length-map cells.value _)
    ∙ as_many (kinds_for d is) kinds
    (no_fault misfit TypesDoNotFit (no_right cells.faults (fault_if misfit TypesDoNotFit) e))
    ∙ length-map is _ in
    let a = some_there d.application h.period in
    let wide : length (replicate (length d.columns) Null) ≡ length d.columns =
    length-replicate (length d.columns) Null in
    ap (λ b. b && has_period d (given d is exprs)) (equal_test (length exprs) (length is) many)
    ∙ ap (λ vs. has_points d.application (new_row d is vs) && rises (period_by d.application (new_row d is vs)))
    (values_are (t.first ∷ t.more))
    ∙ cells_give d.application a.0 a.1 (replicate (length d.columns) Null) is (t.first ∷ t.more)
    (within a.0.start (in_left a.0.start (period_columns d.application) (generated_columns d.system)
    (subst (λ x. In a.0.start (period_columns x)) (sym a.1) (inl refl))) wide)
    (within a.0.end (in_left a.0.end (period_columns d.application) (generated_columns d.system)
    (subst (λ x. In a.0.end (period_columns x)) (sym a.1) (inr (inl refl)))) wide)
    (once_apart is o) r
  where
    within : (i : ℕ) → In i (own_columns d) → length (replicate (length d.columns) Null) ≡ length d.columns
        → i < length (replicate (length d.columns) Null)
    within i m w =
        let l = apart_there (length d.columns) (own_columns d) h.apart i m in omega (arith, l, w)

-- ---- statements

module _ (defs : List TableDef) (all : ArePointTables defs) where
  -- a bound statement in scope
  pub record IsWithin (b : Bound) : Type 0 where
    pub scope : is_in_scope defs b ≡ true
    pub periods : gives_periods defs b ≡ true

  insert_within : (n : Name) (ns : List Name) (tuples : List Tuple) → (insert_values defs n ns tuples).faults ≡ []
      → of_table n (λ d. list_all (tuple_rises d ns) tuples) defs ≡ true
      → IsWithin (insert_values defs n ns tuples).value
  insert_within n ns tuples e k =
      let t : Checked ℕ = table_number defs n in
      let d : TableDef = table_at defs t.value in
      let is : Checked (List ℕ) = insert_columns d ns in
      let rows : Checked (List (List Expr)) = check_each (tuple (kinds_for d is.value)) tuples in
      let found = is_found n defs (no_left t.faults (is.faults ++ (rows.faults ++ [])) e) in
      let e1 : is.faults ++ (rows.faults ++ []) ≡ [] = no_right t.faults (is.faults ++ (rows.faults ++ [])) e in
      let e2 = no_left rows.faults [] (no_right is.faults (rows.faults ++ []) e1) in
      let filled_in = columns_open d ns (no_left is.faults (rows.faults ++ []) e1) in
      let risen = test_found n (λ x. list_all (tuple_rises x ns) tuples) defs t.value found k in
      record {
        scope = ap (λ b. b && are_filled d is.value) (within_test t.value (length defs) found.within)
            ∙ open_filled d is.value filled_in;
        periods = ap (λ b. b && list_all (gives_period d is.value) rows.value) filled_in.once
            ∙ member_all (gives_period d is.value) rows.value (λ x m.
            let z = in_checked (tuple (kinds_for d is.value)) x tuples m e2 in
            ap (gives_period d is.value) z.2
            ∙ tuple_gives defs d (all t.value found.within) is.value filled_in.once z.0 z.3
            (all_member (tuple_rises d ns) tuples risen z.0 z.1));
      }

  set_free : (d : TableDef) (s : SetTree) → (assignment d s).faults ≡ [] → set_avoids (own_names d) s ≡ true
      → is_payload d (assignment d s).value.column && is_free d (assignment d s).value.value ≡ true
  set_free d s e k =
      let z = both_true (not (has_name s.column (own_names d))) (cell_avoids (own_names d) s.value) k in
      let at = number_found (names_of d) s.column (no_left (column_number (names_of d) s.column).faults _ e) in
      let l = at.within in
      let clear : has_name s.column (own_names d) ≡ false = not_true (has_name s.column (own_names d)) z.0 in
      ap (λ b. b && is_free d (assignment d s).value.value)
      (named_payload d (column_number (names_of d) s.column).value (omega (arith, l, as_named d))
      (ap (λ x. has_name x (own_names d)) at.named ∙ clear))
      ∙ ap not (by_cell s.value z.1)
    where
      by_cell : (c : CellTree) → cell_avoids (own_names d) c ≡ true
          → uses_column (λ i. not (is_payload d i)) (cell (own_scope d) c).value.expr ≡ false
      by_cell NullCell w = refl
      by_cell (ValueCell x) w = sum_free (own_names d) (λ i. not (is_payload d i)) (own_scope d) (own_clear d) x w

  update_within : (n : Name) (p : Option PortionTree) (sets : List SetTree) (c : Option Condition)
      → (update defs n p sets c).faults ≡ [] → of_table n (change_avoids sets c) defs ≡ true
      → IsWithin (update defs n p sets c).value
  update_within n p sets c e k =
      let t : Checked ℕ = table_number defs n in
      let d : TableDef = table_at defs t.value in
      let r : Checked (Option Period) = portion d p in
      let is : Checked (List ℕ) = assigned_columns d (map (λ (x : SetTree). x.column) sets) in
      let own : Bool = sets_period d p is.value in
      let as' : Checked (List Assignment) = check_each (assignment d) sets in
      let conds : Checked (List Cond) = plain_filter (own_scope d) c in
      let five : List Refusal = as'.faults ++ (conds.faults ++ []) in
      let four : List Refusal = fault_if own FormNotAllowedHere ++ five in
      let found = is_found n defs (no_left t.faults (r.faults ++ (is.faults ++ four)) e) in
      let e1 : r.faults ++ (is.faults ++ four) ≡ [] = no_right t.faults (r.faults ++ (is.faults ++ four)) e in
      let e2 : four ≡ [] = no_right is.faults four (no_right r.faults (is.faults ++ four) e1) in
      let e3 : five ≡ [] = no_right (fault_if own FormNotAllowedHere) five e2 in
      let free = both_true (list_all (set_avoids (own_names d)) sets) (filter_avoids (own_names d) c)
      (test_found n (change_avoids sets c) defs t.value found k) in
      record {
        scope = ap (λ b. b && (is_free_work d (Work.Set as'.value) && list_all (is_free_cond d) conds.value))
            (within_test t.value (length defs) found.within)
            ∙ ap (λ b. b && list_all (is_free_cond d) conds.value)
            (member_all (λ (a : Assignment). is_payload d a.column && is_free d a.value) as'.value (λ a m.
            let z = in_checked (assignment d) a sets m (no_left as'.faults (conds.faults ++ []) e3) in
            ap (λ (x : Assignment). is_payload d x.column && is_free d x.value) z.2
            ∙ set_free d z.0 z.3 (all_member (set_avoids (own_names d)) sets free.0 z.0 z.1)))
            ∙ filter_free (own_names d) (λ i. not (is_payload d i)) (own_scope d) (own_clear d) c free.1;
        periods = refl;
      }

  delete_within : (n : Name) (p : Option PortionTree) (c : Option Condition)
      → (delete defs n p c).faults ≡ [] → of_table n (change_avoids [] c) defs ≡ true
      → IsWithin (delete defs n p c).value
  delete_within n p c e k =
      let t : Checked ℕ = table_number defs n in
      let d : TableDef = table_at defs t.value in
      let r : Checked (Option Period) = portion d p in
      let conds : Checked (List Cond) = plain_filter (own_scope d) c in
      let found = is_found n defs (no_left t.faults (r.faults ++ (conds.faults ++ [])) e) in
      record {
        scope = ap (λ b. b && list_all (is_free_cond d) conds.value)
            (within_test t.value (length defs) found.within)
            ∙ filter_free (own_names d) (λ i. not (is_payload d i)) (own_scope d) (own_clear d) c
            (test_found n (change_avoids [] c) defs t.value found k);
        periods = refl;
      }

  -- a statement in scope without a fault
  pub bound_within : (t : Statement) → is_query t ≡ false → defines t ≡ false
      → is_statement_in_scope defs t ≡ true → (bind defs t).faults ≡ [] → IsWithin (bind defs t).value
  bound_within (CreateTree n x es versioned) q l k e = absurd (cc)
  bound_within (DropTree n) q l k e = absurd (cc)
  bound_within (InsertValues n ns t ts) q l k e = insert_within n ns (t ∷ ts) e k
  bound_within (InsertSelect n ns s) q l k e = absurd (cc)
  bound_within (UpdateTree n p s ss c) q l k e = update_within n p (s ∷ ss) c e k
  bound_within (DeleteTree n p c) q l k e = delete_within n p c e k
  bound_within (QueryTree s keys) q l k e = absurd (cc)
  bound_within StartTree q l k e = record { scope = refl; periods = refl }
  bound_within CommitTree q l k e = record { scope = refl; periods = refl }
  bound_within RollbackTree q l k e = record { scope = refl; periods = refl }
  bound_within (AtTree m) q l k e = record { scope = refl; periods = refl }
  bound_within (PruneTree m) q l k e = record { scope = refl; periods = refl }
  bound_within (OpenTree n) q l k e = record { scope = refl; periods = refl }
  bound_within (ReadTree n s keys) q l k e = absurd (cc)
  bound_within (CloseTree n) q l k e = record { scope = refl; periods = refl }
