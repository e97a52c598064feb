-- Keys and references at every point, in each copy of a state.
use Rattle.std.specs.Prelude.{◌≡◌, ◌↔◌, ◌<◌, ℕ, List, [], length, Option, Some, None}
use Rattle.tql_spec.specs.Bag.{In}
use Rattle.tql_spec.specs.Datum.{Row}
use Rattle.tql_spec.specs.Definition.{TableDef, Key, Reference, no_table, table_at, place_of}
use Rattle.tql_spec.specs.History.{Copy, Entry, rows_in}
use Rattle.tql_spec.specs.Constraint.{KeyHolds, ReferenceHolds, shown_rows}
use Rattle.tql_spec.specs.Machine.{State, Reply, entries}
use Rattle.tql_spec.specs.Script.{Piece}
use Rattle.tql_spec.specs.Reached.{IsReached}
use Rattle.tql_spec.specs.Run.{CopyHolds, Run}

-- the rows of a table in a copy, column by column
abbrev pub table_rows : List TableDef → Copy → ℕ → List Row
table_rows defs copy t = shown_rows (table_at defs t) (rows_in copy t)

-- the parent table at this index; the empty definition if there is none
abbrev pub parent_at : List TableDef → Option ℕ → TableDef
parent_at defs None = no_table
parent_at defs (Some t) = table_at defs t

-- the rows of the parent table in a copy
abbrev pub parent_rows : List TableDef → Copy → Option ℕ → List Row
parent_rows defs copy None = []
parent_rows defs copy (Some t) = table_rows defs copy t

-- a copy has rows for each definition, and each key and each reference of each table holds in it; those with a period
-- hold at every point
pub record HoldsAtPoints (defs : List TableDef) (copy : Copy) : Type 0 where
  pub as_many : length copy ≡ length defs
  pub keys : (t : ℕ) → t < length defs → (k : Key) → In k (table_at defs t).keys
      → KeyHolds (table_at defs t) k k.by_period (table_rows defs copy t)
  pub references : (t : ℕ) → t < length defs → (f : Reference) → In f (table_at defs t).references
      → ReferenceHolds (table_at defs t) (parent_at defs (place_of f.parent defs)) f
      (parent_rows defs copy (place_of f.parent defs)) (table_rows defs copy t)

-- this holds for every copy of the history and for the working copy
abbrev pub HoldAtPoints : State → Type 0
HoldAtPoints s = (e : Entry) → In e (entries s) → HoldsAtPoints s.definitions e.copy

-- the law: a copy passes the tests exactly if its keys and references hold at every point
abbrev pub CopyTestsAreRight : Type 0
CopyTestsAreRight = (defs : List TableDef) (copy : Copy) → CopyHolds defs copy ↔ HoldsAtPoints defs copy

-- the law: a run preserves this
abbrev pub RunsKeepPoints : Type 0
RunsKeepPoints =
    (old new : State) (pieces : List Piece) (replies : List Reply) → HoldAtPoints old → Run old pieces replies new
    → HoldAtPoints new

-- the law: this holds in every state that a run reaches
abbrev pub ReachedHoldAtPoints : Type 0
ReachedHoldAtPoints = (s : State) → IsReached s → HoldAtPoints s
