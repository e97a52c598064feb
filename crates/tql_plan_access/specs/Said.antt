-- The lookup that conjuncts select: by their values for the columns of a key or a reference, narrowed to the
-- application period; else by the application period alone; else by a range of a single such column.
use Rattle.std.specs.Prelude.{◌≡◌, ℕ, ℤ, Bool, true, List, [], ◌∷◌, map, Option, Some, None}
use Rattle.tql_spec.specs.Definition.{Application, TableDef}
use Rattle.tql_spec.specs.Expression.{Cond}
use Rattle.tql_spec.specs.Period.{Period}
use Rattle.tql_catalog.specs.Rows.{AreStoredAt, IsStoredAt}
use Rattle.tql_plan_laws.specs.Constants.{point_in, stretch_in}
use Rattle.tql_store_index.specs.Basis.{Sought, Between}
use Rattle.tql_plan_access.specs.Access.{key_given, narrowed, period_given, safe_part, sought_between, value_or_null}
use Rattle.tql_plan_access.specs.Ranges.{range_in, ranged_in}

-- ---- a period

-- the lookup for the application period between two columns, by the numbers at which they are stored: for a point that
-- it contains, else for a period with which it shares a point
pub record IsSoughtAt (d : TableDef) (a : Application) (point : Option ℤ) (stretch : Option Period)
    (o : Option Sought) : Type 0 where
  pub stored : ℕ × ℕ
  pub start : IsStoredAt d a.start stored.0
  pub end : IsStoredAt d a.end stored.1
  pub is : o ≡ sought_between stored point stretch

-- the lookup that conjuncts give for this application period; none if there is no period
abbrev pub IsSaidBy : TableDef → List Cond → Option Application → Option Sought → Type 0
IsSaidBy d conds None o = o ≡ None
IsSaidBy d conds (Some a) o = IsSoughtAt d a (point_in a.start a.end conds) (stretch_in a.start a.end conds) o

-- the lookup for the portion of a change
abbrev pub IsPortionBy : TableDef → Period → Option Application → Option Sought → Type 0
IsPortionBy d portion None o = o ≡ None
IsPortionBy d portion (Some a) o = IsSoughtAt d a None (Some portion) o

-- ---- a range

-- the lookup by the range to which conjuncts limit the only one of these columns, at the number at which it is stored
pub record IsInRange (d : TableDef) (conds : List Cond) (columns : List ℕ) (o : Option Sought) : Type 0 where
  pub column : ℕ
  pub only : columns ≡ column ∷ []
  pub stored : ℕ
  pub there : IsStoredAt d column stored
  pub range : ℤ × ℤ
  pub limited : range_in column conds ≡ Some range
  pub is : o ≡ Some (Between stored range.0 range.1)

-- the lookup by a range of these columns, if any
abbrev pub IsRangedBy : TableDef → List Cond → Option (List ℕ) → Option Sought → Type 0
IsRangedBy d conds None o = o ≡ None
IsRangedBy d conds (Some columns) o = IsInRange d conds columns o

-- this lookup, if any; else by the range to which conjuncts limit the first key, else the first reference, of one
-- column, for other versions than current rows only if it is narrow
abbrev pub IsOrRanged : TableDef → List Cond → Bool → Option Sought → Option Sought → Type 0
IsOrRanged d conds is_current (Some s) o = o ≡ Some s
IsOrRanged d conds is_current None o = IsRangedBy d conds (ranged_in d is_current conds) o

-- the lookup for the period, if any, else by a range
pub record IsUnkeyed (d : TableDef) (conds : List Cond) (is_current : Bool) (IsSaid : Option Sought → Type 0)
    (o : Option Sought) : Type 0 where
  pub said : Option Sought
  pub by : IsSaid said
  pub is : IsOrRanged d conds is_current said o

-- ---- a key, else a period, else a range

-- the lookup by the values that conjuncts give to these columns, at the numbers at which they are stored, narrowed to
-- the lookup for the period
pub record IsGivenOf (d : TableDef) (conds : List Cond) (columns : List ℕ) (IsSaid : Option Sought → Type 0)
    (o : Option Sought) : Type 0 where
  pub stored : List ℕ
  pub there : AreStoredAt d columns stored
  pub said : Option Sought
  pub by : IsSaid said
  pub is : o ≡ Some (narrowed stored (map (value_or_null conds) columns) said)

-- the lookup by these columns, if any; else by the period alone, or by a range
abbrev pub IsSoughtBy : TableDef → List Cond → Bool → Option (List ℕ) → (Option Sought → Type 0) → Option Sought
    → Type 0
IsSoughtBy d conds is_current (Some columns) IsSaid o = IsGivenOf d conds columns IsSaid o
IsSoughtBy d conds is_current None IsSaid o = IsUnkeyed d conds is_current IsSaid o

-- the lookup by the first key, else the first reference, to each of whose columns the safe part gives a value; for
-- current rows also by what the safe part says of the application period; without either, by a range
abbrev pub IsSoughtFor : TableDef → List Cond → Bool → Option Sought → Type 0
IsSoughtFor d conds is_current o =
    IsSoughtBy d (safe_part conds) is_current (key_given d conds)
    (IsSaidBy d (safe_part conds) (period_given d is_current)) o

-- the lookup of a change, which reads current rows; a portion replaces what the safe part says of the period
abbrev pub IsSoughtForChange : TableDef → Option Period → List Cond → Option Sought → Type 0
IsSoughtForChange d None conds o = IsSoughtFor d conds true o
IsSoughtForChange d (Some portion) conds o =
    IsSoughtBy d (safe_part conds) true (key_given d conds) (IsPortionBy d portion d.application) o
