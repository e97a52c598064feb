-- Access paths, and when they serve: each row outside the path fails one of the conjuncts before the first that can be
-- out of range.
use Rattle.std.specs.Prelude.{◌≡◌, ℕ, ◌^◌, ◌-◌, ℤ, pos, ◌+ℤ◌, int_lt, Bool, true, false, ◌&&◌, ◌||◌, not, IsTrue}
use Rattle.std.specs.Prelude.{List, [], length, Option, Some, None, is_some, unwrap_or, option_map, if◌then◌else◌}
use Rattle.std.specs.Prelude.{All, filter, map, slice_index_or}
use Rattle.std.specs.List.{find, list_all, list_any, range_with_len, take_while}
use Rattle.tql_spec.specs.Datum.{Datum, Null, Row}
use Rattle.tql_spec.specs.Definition.{Application, Stamped, System, TableDef, Version, period_between, period_of}
use Rattle.tql_spec.specs.Definition.{shown, with_generated}
use Rattle.tql_spec.specs.Expression.{Cond, is_safe, passes}
use Rattle.tql_spec.specs.Period.{Period, rises, share_a_point}
use Rattle.tql_spec.specs.Query.{keep}
use Rattle.tql_catalog.specs.Sought.{sought_columns}
use Rattle.tql_plan_laws.specs.Conjuncts.{meets}
use Rattle.tql_plan_laws.specs.Constants.{ArePoints, point_in, stretch_in, value_in, tuple_in}
use Rattle.tql_period.specs.Points.{points_of}
use Rattle.tql_store_index.specs.Basis.{Sought, With, WithIn, Holding, Sharing, Between, is_looked_at}
use Rattle.tql_plan_access.specs.declared.access.Manner.{Manner}
use Rattle.tql_plan_access.specs.declared.access.Manner.TheVariants as manner

-- the conjuncts before the first that can be out of range: on a row that one of them fails, none after it is evaluated
abbrev pub safe_part : List Cond → List Cond
safe_part conds = take_while is_safe conds

-- the law: a row that does not meet the safe part fails the conjuncts, and is not refused
abbrev pub SafePartDecides : Type 0
SafePartDecides =
    (conds : List Cond) (row : Row) → meets (safe_part conds) row ≡ false → passes [] row conds ≡ Some false

-- the lookup of this manner; none if all rows are looked at
abbrev pub sought_by : Manner → List ℕ → List Datum → Option Sought
sought_by manner.Whole columns tuple = None
sought_by manner.Key columns tuple = Some (With columns tuple)
sought_by (manner.KeyWithin start end period) columns tuple = Some (WithIn columns tuple start end (points_of period))
sought_by (manner.Point start end point) columns tuple = Some (Holding start end point)
sought_by (manner.Stretch start end stretch) columns tuple = Some (Sharing start end (points_of stretch))
sought_by (manner.Range column low high) columns tuple = Some (Between column low high)

-- the lookup of a manner that uses no key values
abbrev pub sought_in : Manner → Option Sought
sought_in m = sought_by m [] []

-- whether rows are found by their values, within a period or not; whether by their period alone
abbrev pub is_by_key : Option Sought → Bool
is_by_key (Some (With columns tuple)) = true
is_by_key (Some (WithIn columns tuple start end period)) = true
is_by_key _ = false

abbrev pub is_by_period : Option Sought → Bool
is_by_period (Some (Holding start end point)) = true
is_by_period (Some (Sharing start end period)) = true
is_by_period _ = false

-- two columns of a row contain points of one kind, or NULL, and the period from the first to the second rises
pub record Lasts (row : Row) (columns : ℕ × ℕ) : Type 0 where
  pub points : ArePoints row columns.0 columns.1
  pub rising : IsTrue (rises (period_between row columns.0 columns.1))

-- a row of this width, whose application period, if its table has one, rises between points of one kind or NULL
pub record IsRow (period : Option (ℕ × ℕ)) (width : ℕ) (row : Row) : Type 0 where
  pub wide : length row ≡ width
  pub lasts : (columns : ℕ × ℕ) → period ≡ Some columns → Lasts row columns

-- the columns of a table's application period
abbrev pub period_columns : TableDef → Option (ℕ × ℕ)
period_columns d = option_map (λ a. (a.start, a.end)) d.application

-- a row of a copy, as a change sees it, is a row of its table
abbrev pub IsShown : TableDef → Stamped → Type 0
IsShown d r = IsRow (period_columns d) (length d.columns) (shown d r)

-- each row that meets the safe part of the conjuncts, with its generated cells, is looked at, whichever moments these
-- cells have
pub record Serves (system : Option System) (period : Option (ℕ × ℕ)) (width : ℕ) (conds : List Cond)
    (o : Option Sought) : Type 0 where
  pub all : (cells : Row) (start end : ℤ) → IsRow period width (with_generated system cells start end)
      → IsTrue (meets (safe_part conds) (with_generated system cells start end)) → IsTrue (is_looked_at o cells)

-- the lookup serves the rows of a table
abbrev pub ServesTable : TableDef → List Cond → Option Sought → Type 0
ServesTable d conds o = Serves d.system (period_columns d) (length d.columns) conds o

-- a version as a row, with its moments in the generated columns
abbrev pub completed : Option System → Version → Row
completed system v = with_generated system v.row.cells v.row.start v.end

-- the law: the versions that are looked at give the same result as all versions: the same rows pass the conjuncts, or
-- a conjunct is out of range for both
abbrev pub LookingIsEnough : Type 0
LookingIsEnough =
    (system : Option System) (period : Option (ℕ × ℕ)) (width : ℕ) (conds : List Cond) (o : Option Sought)
    → Serves system period width conds o → (vs : List Version)
    → All (λ v. IsRow period width (completed system v)) vs
    → keep conds (map (completed system) (filter (λ v. is_looked_at o v.row.cells) vs))
    ≡ keep conds (map (completed system) vs)

-- ---- a change

-- whether a row shares a point with the portion of a change; true if there is no portion
abbrev pub is_within : TableDef → Option Period → Row → Bool
is_within d None row = true
is_within d (Some portion) row = share_a_point (period_of d row) portion

-- whether a change may touch a row, or be refused for it: it is within the portion, and meets the safe part of WHERE
abbrev pub may_touch : TableDef → Option Period → List Cond → Row → Bool
may_touch d portion conds row = is_within d portion row && meets (safe_part conds) row

-- each row that a change may touch is looked at by this test of its stored cells, whichever moments its generated
-- columns have
abbrev pub ServesChange : TableDef → Option Period → List Cond → (Row → Bool) → Type 0
ServesChange d portion conds looks =
    (cells : Row) (start end : ℤ)
    → IsRow (period_columns d) (length d.columns) (with_generated d.system cells start end)
    → IsTrue (may_touch d portion conds (with_generated d.system cells start end)) → IsTrue (looks cells)

-- ---- a key

-- whether conjuncts give each of these columns a value
abbrev pub are_given : List Cond → List ℕ → Bool
are_given conds columns = is_some (tuple_in conds columns)

-- the value that conjuncts give to a column; NULL if they give it none
abbrev pub value_or_null : List Cond → ℕ → Datum
value_or_null conds column = unwrap_or (value_in column conds) Null

-- the first list whose columns are all given values by the conjuncts
abbrev pub first_given : List Cond → List (List ℕ) → Option (List ℕ)
first_given conds lists = find (are_given conds) lists

-- for each of `width` columns, whether conjuncts give it a value
abbrev pub given_marks : List Cond → ℕ → List Bool
given_marks conds width = map (λ i. is_some (value_in i conds)) (range_with_len 0 width)

-- whether all of these columns are marked
abbrev pub are_marked : List Bool → List ℕ → Bool
are_marked marks columns = list_all (λ i. slice_index_or marks i false) columns

-- of the keys and then the references of a table, in the order of declaration, the first list whose columns all have
-- values from the safe part
abbrev pub key_given : TableDef → List Cond → Option (List ℕ)
key_given d conds = first_given (safe_part conds) (sought_columns d)

-- whether the safe part gives a value to each column of some key or of some reference
abbrev pub names_key : TableDef → List Cond → Bool
names_key d conds = list_any (are_given (safe_part conds)) (sought_columns d)

-- ---- a period

-- the application period that a lookup may use: that of the table for current rows, none for other versions
abbrev pub period_given : TableDef → Bool → Option Application
period_given d is_current = if is_current then d.application else None

-- the lookup for the period between two stored columns; a point takes precedence over a period
abbrev pub sought_between : ℕ × ℕ → Option ℤ → Option Period → Option Sought
sought_between stored (Some point) stretch = Some (Holding stored.0 stored.1 point)
sought_between stored None (Some stretch) = Some (Sharing stored.0 stored.1 stretch)
sought_between stored None None = None

-- whether conjuncts say that a period contains a constant point, or overlaps a constant period
abbrev pub say_of : List Cond → Option Application → Bool
say_of conds None = false
say_of conds (Some a) = is_some (point_in a.start a.end conds) || is_some (stretch_in a.start a.end conds)

-- whether the safe part names no key, and says so of the table's application period
abbrev pub names_period : TableDef → List Cond → Bool
names_period d conds = not (names_key d conds) && say_of (safe_part conds) d.application

-- ---- a key and a period

-- the period of one point alone; none if its end does not fit into 64 bits
abbrev pub alone : ℤ → Option Period
alone p = if int_lt p (pos (2 ^ 63 - 1)) then Some (record { start = p; end = p +ℤ pos 1 }) else None

-- the lookup by these values, narrowed to rows whose period between two columns shares a point with this period, if
-- there is one
abbrev pub with_in : List ℕ → List Datum → ℕ → ℕ → Option Period → Sought
with_in columns tuple start end None = With columns tuple
with_in columns tuple start end (Some period) = WithIn columns tuple start end period

-- the lookup by these values, narrowed to the period of another lookup
abbrev pub narrowed : List ℕ → List Datum → Option Sought → Sought
narrowed columns tuple (Some (Holding start end point)) = with_in columns tuple start end (alone point)
narrowed columns tuple (Some (Sharing start end period)) = WithIn columns tuple start end period
narrowed columns tuple _ = With columns tuple
