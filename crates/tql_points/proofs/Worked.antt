-- A worked list of statements, computed on whole tables and at single points.
use Rattle.std.specs.Prelude.{◌≡◌, refl, ℕ, zero, suc, true, false, IsTrue, List, [], ◌∷◌, length, take, ℤ, pos, Some}
use Rattle.std.specs.Prelude.{None}
use Rattle.std.specs.List.{list_all}
use Rattle.std.proofs.Common.{arith, inl, inr, subst, sym}
use Rattle.tql_spec.specs.Bag.{In}
use Rattle.tql_spec.specs.Datum.{Int, Text, Day, Ints, Texts, Days, Moments, Above, Row}
use Rattle.tql_spec.specs.Expression.{Expr, Literal, Column, Compare}
use Rattle.tql_spec.specs.Definition.{Name, TableDef, Key}
use Rattle.tql_spec.specs.History.{Now}
use Rattle.tql_spec.specs.Change.{Work}
use Rattle.tql_spec.specs.Machine.{Bound, ChangeRows, Change, InsertTuples, Modify, Start, Rollback, Prune, Reply, Done}
use Rattle.tql_spec.specs.Machine.{State, Refused, OpenReader, CreateTable, DropTable}
use Rattle.tql_spec.specs.Machine.{Inserted, step}
use Rattle.tql_spec.specs.Refusal.{DuplicateKey}
use Rattle.tql_points.specs.Slice.{slice, payloads}
use Rattle.tql_points.specs.PointTable.{point_table}
use Rattle.tql_points.specs.Scope.{is_payload, ArePointTables, is_in_scope}
use Rattle.tql_points.specs.PointStatement.{statement_at}
use Rattle.tql_points.specs.RefusalLaw.{gives_periods, state_at}
use Rattle.tql_points.specs.PointMachine.{after_all, accepted, beginning, point_beginning, given_at, answer_of, read_of}

-- a versioned table with an application period between its columns 1 and 2, a key WITHOUT OVERLAPS and a CHECK
abbrev pay : TableDef
pay = record {
  name = 112 ∷ [];
  columns = record { name = 101 ∷ []; kind = Ints; limit = None; required = true }
      ∷ record { name = 102 ∷ []; kind = Days; limit = None; required = true }
      ∷ record { name = 103 ∷ []; kind = Days; limit = None; required = true }
      ∷ record { name = 104 ∷ []; kind = Moments; limit = None; required = false }
      ∷ record { name = 105 ∷ []; kind = Texts; limit = Some 3; required = false }
      ∷ record { name = 106 ∷ []; kind = Moments; limit = None; required = false } ∷ [];
  system = Some (record { start = 3; end = 5 });
  application = Some (record { name = 112 ∷ 112 ∷ []; start = 1; end = 2 });
  keys = record { columns = 0 ∷ []; by_period = true } ∷ [];
  references = [];
  checks = Compare Above (Column 0) (Literal (Int (pos 0))) ∷ [];
}

-- the table is in scope
pay_in_scope : ArePointTables (pay ∷ [])
pay_in_scope zero l = record {
  period = refl;
  apart = (omega arith, refl, (omega arith, refl, (omega arith, refl, (omega arith, refl, tt))));
  checks = refl;
  keys = λ k m. only k m;
  references = λ f m. absurd m;
}
  where
    only : (k : Key) → In k pay.keys → IsTrue k.by_period × IsTrue (list_all (is_payload pay) k.columns)
    only k (inl e) = subst (λ (z : Key). IsTrue z.by_period × IsTrue (list_all (is_payload pay) z.columns)) (sym e)
        (refl, refl)
    only k (inr n) = absurd n
pay_in_scope (suc t) l = absurd (omega arith)

-- cell values
abbrev num : ℕ → Expr
num n = Literal (Int (pos n))

abbrev day : ℕ → Expr
day n = Literal (Day (pos n))

abbrev text : ℕ → Expr
text b = Literal (Text (b ∷ []))

-- A row for the days 0 to 99; 'B' for the days 30 to 59; an overlap that is refused; a change that is rolled back;
-- pruned history, and an earlier horizon that is refused; 'C' from the day on which the row ends; and the days 50 to 69
-- deleted.
abbrev script : List Bound
script =
    ChangeRows (InsertTuples 0 (0 ∷ 1 ∷ 2 ∷ 4 ∷ []) ((num 7 ∷ day 0 ∷ day 100 ∷ text 65 ∷ []) ∷ []))
    ∷ ChangeRows (Modify 0 (Some (record { start = pos 30; end = pos 60 }))
    (Work.Set (record { column = 4; value = text 66 } ∷ [])) [])
    ∷ ChangeRows (InsertTuples 0 (0 ∷ 1 ∷ 2 ∷ 4 ∷ []) ((num 7 ∷ day 99 ∷ day 120 ∷ text 67 ∷ []) ∷ []))
    ∷ Start ∷ ChangeRows (Modify 0 None Work.Remove []) ∷ Rollback ∷ Prune (pos 6) ∷ Prune (pos 5)
    ∷ ChangeRows (InsertTuples 0 (0 ∷ 1 ∷ 2 ∷ 4 ∷ []) ((num 7 ∷ day 100 ∷ day 120 ∷ text 67 ∷ []) ∷ []))
    ∷ ChangeRows (Modify 0 (Some (record { start = pos 50; end = pos 70 })) Work.Remove
    (Compare Above (Column 0) (num 0) ∷ [])) ∷ []

-- the list is in scope
script_in_scope : IsTrue (list_all (is_in_scope (pay ∷ [])) script)
script_in_scope = refl

-- the rows found now in the whole tables, at a point
abbrev sliced : ℤ → List Row
sliced p = slice pay p (answer_of (after_all (beginning (pay ∷ []) (pos 5) (pos 0)) script) 0 Now)

-- the rows found now by the model of the point
abbrev plain : ℤ → List Row
plain p = payloads (point_table (pay ∷ []) pay)
    (answer_of (after_all (point_beginning (pay ∷ []) (pos 5) (pos 0)) (given_at (pay ∷ []) (pos 5) (pos 0) p script)) 0
    Now)

-- a row with the number and a letter
abbrev says : ℕ → List Row
says b = (Int (pos 7) ∷ Text (b ∷ []) ∷ []) ∷ []

on_day_10 : (sliced (pos 10) ≡ says 65) × (plain (pos 10) ≡ says 65)
on_day_10 = (refl, refl)

on_day_40 : (sliced (pos 40) ≡ says 66) × (plain (pos 40) ≡ says 66)
on_day_40 = (refl, refl)

on_day_55 : (sliced (pos 55) ≡ []) × (plain (pos 55) ≡ [])
on_day_55 = (refl, refl)

on_day_99 : (sliced (pos 99) ≡ says 65) × (plain (pos 99) ≡ says 65)
on_day_99 = (refl, refl)

on_day_100 : (sliced (pos 100) ≡ says 67) × (plain (pos 100) ≡ says 67)
on_day_100 = (refl, refl)

on_day_120 : (sliced (pos 120) ≡ []) × (plain (pos 120) ≡ [])
on_day_120 = (refl, refl)

-- two of the ten statements are refused
eight_taken : length (accepted (beginning (pay ∷ []) (pos 5) (pos 0)) script) ≡ 8
eight_taken = refl

-- ---- a refusal

-- its INSERTs give rising periods
periods_given : IsTrue (list_all (gives_periods (pay ∷ [])) script)
periods_given = refl

-- a change that is refused because of a key on one day
abbrev overlap : Change
overlap = InsertTuples 0 (0 ∷ 1 ∷ 2 ∷ 4 ∷ []) ((num 7 ∷ day 99 ∷ day 120 ∷ text 67 ∷ []) ∷ [])

-- the replies to this change after the first two statements: that of the whole tables, and those of the models of two
-- days
overlap_refused : (step (after_all (beginning (pay ∷ []) (pos 5) (pos 0)) (take 2 script)) (ChangeRows overlap)).0
    ≡ Refused DuplicateKey
overlap_refused = refl

at_day : ℤ → Reply
at_day p = (step (state_at (pay ∷ []) (pos 5) (pos 0) (take 2 script) p)
    (statement_at (pay ∷ []) p (ChangeRows overlap))).0

refused_on_day_99 : at_day (pos 99) ≡ Refused DuplicateKey
unfolding at_day
refused_on_day_99 = refl

taken_on_day_100 : at_day (pos 100) ≡ Done Inserted (Some 1)
unfolding at_day
taken_on_day_100 = refl

idle_on_day_98 : at_day (pos 98) ≡ Done Inserted (Some 0)
unfolding at_day
idle_on_day_98 = refl

-- ---- a reader

-- the row for the days 0 to 99; a reader; and 'B' for the days 30 to 59
abbrev report : Name
report = 114 ∷ []

abbrev opened : List Bound
opened =
    ChangeRows (InsertTuples 0 (0 ∷ 1 ∷ 2 ∷ 4 ∷ []) ((num 7 ∷ day 0 ∷ day 100 ∷ text 65 ∷ []) ∷ []))
    ∷ OpenReader report
    ∷ ChangeRows (Modify 0 (Some (record { start = pos 30; end = pos 60 }))
    (Work.Set (record { column = 4; value = text 66 } ∷ [])) []) ∷ []

opened_in_scope : IsTrue (list_all (is_in_scope (pay ∷ [])) opened)
opened_in_scope = refl

-- the rows that the reader finds in the whole tables, at a point
abbrev read_sliced : ℤ → List Row
read_sliced p = slice pay p (read_of (after_all (beginning (pay ∷ []) (pos 5) (pos 0)) opened) report 0 Now)

-- the rows that it finds in the model of the point
abbrev read_plain : ℤ → List Row
read_plain p = payloads (point_table (pay ∷ []) pay)
    (read_of (after_all (point_beginning (pay ∷ []) (pos 5) (pos 0)) (given_at (pay ∷ []) (pos 5) (pos 0) p opened))
    report 0 Now)

read_on_day_40 : (read_sliced (pos 40) ≡ says 65) × (read_plain (pos 40) ≡ says 65)
read_on_day_40 = (refl, refl)

read_on_day_100 : (read_sliced (pos 100) ≡ []) × (read_plain (pos 100) ≡ [])
read_on_day_100 = (refl, refl)

-- ---- a table that is made later, and one that is dropped

-- the table of a point
abbrev plain_pay : TableDef
plain_pay = point_table (pay ∷ []) pay

abbrev tax : TableDef
tax = record pay { name = 116 ∷ [] }

-- the model of a point, given the table and then the dropping of the first one
abbrev one_more : State
one_more = after_all (point_beginning (pay ∷ []) (pos 5) (pos 0))
    (statement_at (pay ∷ []) (pos 10) (CreateTable tax) ∷ [])

abbrev one_fewer : State
one_fewer = after_all one_more (statement_at (pay ∷ tax ∷ []) (pos 10) (DropTable 0) ∷ [])

plain_tables_made : one_more.definitions ≡ plain_pay ∷ record plain_pay { name = 116 ∷ [] } ∷ []
plain_tables_made = refl

plain_tables_left : one_fewer.definitions ≡ record plain_pay { name = 116 ∷ [] } ∷ []
plain_tables_left = refl

-- it has neither the period nor its columns
plain_columns : (length plain_pay.columns ≡ 4) × (plain_pay.application ≡ None)
plain_columns = (refl, refl)
