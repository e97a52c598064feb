-- Changes of a table's bag, plain or for a portion.
use Rattle.std.specs.Prelude.{ℕ, suc, Bool, true, false, not, ◌&&◌, List, [], ◌∷◌, ◌++◌, map, length, replicate}
use Rattle.std.specs.Prelude.{slice_set, nat_lt, ℤ, Option, Some, None, if◌then◌else◌}
use Rattle.std.specs.List.{flat_map}
use Rattle.tql_spec.specs.Words.{◌>>=◌, map_all}
use Rattle.tql_spec.specs.Truth.{Truth, is_false}
use Rattle.tql_spec.specs.Datum.{Datum, Null, Text, Row, characters, is_null}
use Rattle.tql_spec.specs.Period.{Period, rises, share_a_point, before, inside, after, if_any}
use Rattle.tql_spec.specs.Refusal.{Refusal, ValueOutOfRange, NullNotAllowed, PeriodNotRising, CheckFailed, fault_if}
use Rattle.tql_spec.specs.Expression.{Expr, Cond, eval, judge, passes}
use Rattle.tql_spec.specs.Definition.{TableDef, Column, Application, Stamped, period_of, with_period, stamped, shown}
use Rattle.tql_spec.specs.Definition.{cell}

-- a column, and the expression that it is set to
pub record Assignment : Type 0 where
  pub column : ℕ
  pub value : Expr

-- ---- the tests of a new row

-- whether a text has more characters than its column allows
abbrev pub is_too_long : Option ℕ → Datum → Bool
is_too_long (Some n) (Text t) = nat_lt n (characters t)
is_too_long _ _ = false

-- the faults of the cells: texts that are too long, and nulls that are not allowed
abbrev pub cell_faults : List Column → Row → List Refusal
cell_faults [] row = []
cell_faults (c ∷ cs) [] = []
cell_faults (c ∷ cs) (v ∷ vs) =
    fault_if (is_too_long c.limit v) ValueOutOfRange ++ fault_if (c.required && is_null v) NullNotAllowed
    ++ cell_faults cs vs

-- the fault of an application period without nulls that does not rise
abbrev pub period_faults_by : Option Application → TableDef → Row → List Refusal
period_faults_by None d row = []
period_faults_by (Some a) d row =
    fault_if (not (is_null (cell row a.start)) && not (is_null (cell row a.end)) && not (rises (period_of d row)))
    PeriodNotRising

-- the fault of a new row's application period
abbrev pub period_faults : TableDef → Row → List Refusal
period_faults d row = period_faults_by d.application d row

-- the fault of a CHECK: out of range, or false
abbrev pub check_fault : Option Truth → List Refusal
check_fault None = ValueOutOfRange ∷ []
check_fault (Some t) = fault_if (is_false t) CheckFailed

-- all faults of a new row
abbrev pub row_faults : TableDef → Row → List Refusal
row_faults d row =
    cell_faults d.columns row ++ period_faults d row ++ flat_map (λ c. check_fault (judge [] row c)) d.checks

-- ---- changes

-- the result of a change: the table's rows after it, the number of rows inserted or touched, and the faults
pub record Outcome : Type 0 where
  pub rows : List Stamped
  pub count : ℕ
  pub faults : List Refusal

-- the outcome of a change with an evaluation out of range
abbrev pub out_of_range : List Stamped → Outcome
out_of_range rows = record { rows = rows; count = 0; faults = ValueOutOfRange ∷ [] }

-- the row with these values set in these columns
abbrev pub filled : Row → List ℕ → List Datum → Row
filled row [] values = row
filled row (c ∷ cs) [] = row
filled row (c ∷ cs) (v ∷ vs) = filled (slice_set row c v) cs vs

-- a new row with these values in these columns, and null elsewhere
abbrev pub new_row : TableDef → List ℕ → List Datum → Row
new_row d columns values = filled (replicate (length d.columns) Null) columns values

-- the outcome of adding these rows
abbrev pub added_to : TableDef → List Stamped → List Stamped → Outcome
added_to d rows new =
    record { rows = rows ++ new; count = length new; faults = flat_map (λ r. row_faults d (shown d r)) new }

-- INSERT: one new row for each tuple; None is an evaluation out of range
abbrev pub insert : TableDef → ℤ → List Stamped → List ℕ → Option (List (List Datum)) → Outcome
insert d m rows columns None = out_of_range rows
insert d m rows columns (Some tuples) = added_to d rows (map (λ values. stamped d m (new_row d columns values)) tuples)

-- the fate of a row under a change
pub data Fate : Type 0 where
  Untouched : Fate
  Replaced : List Stamped → Fate

-- the rows after the change; the new rows are in the places of the rows that they replace
abbrev pub after_fates : List Stamped → List Fate → List Stamped
after_fates (r ∷ rs) (Untouched ∷ fs) = r ∷ after_fates rs fs
after_fates (r ∷ rs) (Replaced new ∷ fs) = new ++ after_fates rs fs
after_fates _ _ = []

-- the new rows of these fates
abbrev pub new_rows : List Fate → List Stamped
new_rows [] = []
new_rows (Untouched ∷ fs) = new_rows fs
new_rows (Replaced new ∷ fs) = new ++ new_rows fs

-- the number of rows touched
abbrev pub touched_count : List Fate → ℕ
touched_count [] = 0
touched_count (Untouched ∷ fs) = touched_count fs
touched_count (Replaced new ∷ fs) = suc (touched_count fs)

-- the outcome of a change from the fates of its rows
abbrev pub outcome_of : TableDef → List Stamped → Option (List Fate) → Outcome
outcome_of d rows None = out_of_range rows
outcome_of d rows (Some fates) =
    record {
      rows = after_fates rows fates;
      count = touched_count fates;
      faults = flat_map (λ r. row_faults d (shown d r)) (new_rows fates);
    }

-- the row with the values of SET, each computed on the old row
abbrev pub assigned : Row → Row → List Assignment → Option Row
assigned old row [] = Some row
assigned old row (a ∷ as') = eval [] old a.value >>= λ v. assigned old (slice_set row a.column v) as'

-- the work of a change: UPDATE with its assignments, or DELETE
pub data Work : Type 0 where
  Set : List Assignment → Work
  Remove : Work

-- the rows that a touched row becomes: one under UPDATE, none under DELETE
abbrev pub made_of : Work → Row → Option (List Row)
made_of (Set sets) row = assigned row row sets >>= λ new. Some (new ∷ [])
made_of Remove row = Some []

-- whether the change touches a row: it shares a point with the portion, if any, and WHERE is true. WHERE is evaluated
-- only on rows that share a point with the portion
abbrev pub is_touched : TableDef → Option Period → List Cond → Row → Option Bool
is_touched d None conds row = passes [] row conds
is_touched d (Some portion) conds row =
    if share_a_point (period_of d row) portion then passes [] row conds else Some false

-- the rows that replace a touched row: its changed rows within the portion, and its old values before and after it
abbrev pub pieces : TableDef → Option Period → Row → List Row → List Row
pieces d None row made = made
pieces d (Some portion) row made =
    let x = period_of d row in
    map (λ p. with_period d p row) (if_any (before portion.start x))
    ++ map (λ r. with_period d (inside portion x) r) made
    ++ map (λ p. with_period d p row) (if_any (after portion.end x))

-- the fate of a touched row: each piece is a new row that begins at the moment m
abbrev pub replacement : TableDef → ℤ → Option Period → Work → Row → Option Fate
replacement d m portion work row =
    made_of work row >>= λ made. Some (Replaced (map (stamped d m) (pieces d portion row made)))

-- the fate of a touched row, or `Untouched`
abbrev pub fate_where : Bool → Option Fate → Option Fate
fate_where true o = o
fate_where false o = Some Untouched

-- the fate of a row; None if an evaluation is out of range
abbrev pub fate : TableDef → ℤ → Option Period → Work → List Cond → Row → Option Fate
fate d m portion work conds row =
    is_touched d portion conds row >>= λ b. fate_where b (replacement d m portion work row)

-- UPDATE and DELETE, plain or for a portion
abbrev pub modify : TableDef → ℤ → List Stamped → Option Period → Work → List Cond → Outcome
modify d m rows portion work conds = outcome_of d rows (map_all (λ r. fate d m portion work conds (shown d r)) rows)
