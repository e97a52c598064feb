-- The bound statements of the specification that those of the code represent, and the properties of each.
use Rattle.std.specs.Prelude.{◌≡◌, ◌<◌, ◌≤◌, List, length, None, string_bytes}
use Rattle.tql_spec.specs.Definition.{TableDef, place_of}
use Rattle.tql_spec.specs.Machine as machine
use Rattle.tql_bound.specs.Changes.{insertion_of, modification_of, query_insertion_of}
use Rattle.tql_bound.specs.Queries.{bound_query_of}
use Rattle.tql_value.specs.Points.{IsMoment}
use Rattle.tql_bound.specs.Placed.{IsPlacedQuery}
use Rattle.tql_bound.specs.declared.bound.Bound.{Bound}
use Rattle.tql_bound.specs.declared.bound.Bound.TheVariants.{CreateTable, DropTable, Insert as Inserts, InsertFrom}
use Rattle.tql_bound.specs.declared.bound.Bound.TheVariants.{Modify, AnswerQuery, SetClock, Prune, Start}
use Rattle.tql_bound.specs.declared.bound.Bound.TheVariants.{Commit, Rollback, OpenReader, Read, CloseReader}

-- ---- what they represent

-- the statement
abbrev pub bound_of : Bound → machine.Bound
bound_of (CreateTable d) = machine.CreateTable d
bound_of (DropTable t) = machine.DropTable t
bound_of (Inserts x) = machine.ChangeRows (insertion_of x)
bound_of (InsertFrom x) = machine.ChangeRows (query_insertion_of x)
bound_of (Modify x) = machine.ChangeRows (modification_of x)
bound_of (AnswerQuery x) = machine.AnswerQuery (bound_query_of x)
bound_of (SetClock m) = machine.SetClock m
bound_of (Prune m) = machine.Prune m
bound_of (OpenReader n) = machine.OpenReader (string_bytes n)
bound_of (Read x) = machine.Read (string_bytes x.reader) (bound_query_of x.query)
bound_of (CloseReader n) = machine.CloseReader (string_bytes n)
bound_of Start = machine.Start
bound_of Commit = machine.Commit
bound_of Rollback = machine.Rollback

-- ---- properties

-- no table has the name, there is room for one more, and it has at most 64 columns
pub record IsSoundTable (defs : List TableDef) (d : TableDef) : Type 0 where
  pub free : place_of d.name defs ≡ None
  pub room : length defs < 1000
  pub narrow : length d.columns ≤ 64

-- the moment that the clock or the horizon is set to is within the calendar
abbrev pub HasMoment : Bound → Type 0
HasMoment (SetClock m) = IsMoment m
HasMoment (Prune m) = IsMoment m
HasMoment _ = Unit {0}

-- a bound statement is valid for these tables
abbrev pub IsSound : List TableDef → Bound → Type 0
IsSound defs (CreateTable d) = IsSoundTable defs d
IsSound defs (DropTable t) = t < length defs
IsSound defs (Inserts x) = x.table < length defs
IsSound defs (InsertFrom x) = (x.table < length defs) × IsPlacedQuery defs (bound_query_of x.query)
IsSound defs (Modify x) = x.table < length defs
IsSound defs (AnswerQuery x) = IsPlacedQuery defs (bound_query_of x)
IsSound defs (SetClock m) = IsMoment m
IsSound defs (Prune m) = IsMoment m
IsSound defs (OpenReader n) = Unit {0}
IsSound defs (Read x) = IsPlacedQuery defs (bound_query_of x.query)
IsSound defs (CloseReader n) = Unit {0}
IsSound defs Start = Unit {0}
IsSound defs Commit = Unit {0}
IsSound defs Rollback = Unit {0}
