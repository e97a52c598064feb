-- A statement that is bound without a fault names existing tables.
use Rattle.std.proofs.Common.{◌≡◌, ◌<◌, subst, List, [], length, None}
use Rattle.std.specs.Prelude.{IsTrue, not}
use Rattle.tql_spec.specs.Binding.{bind, insert_columns, select, table_number}
use Rattle.tql_spec.specs.Definition.{TableDef, table_at}
use Rattle.tql_spec.specs.Machine.{ChangeRows, AnswerQuery, Bound, Change, CreateTable, DropTable, InsertQuery}
use Rattle.tql_spec.specs.Machine.{SetClock, Prune, Start, OpenReader, Read, CloseReader}
use Rattle.tql_spec.specs.Machine.{Commit, Rollback, changed_table}
use Rattle.tql_spec.specs.Refusal.{first}
use Rattle.tql_spec.specs.Syntax.{AtTree, CommitTree, CreateTree, DeleteTree, DropTree, InsertSelect, InsertValues}
use Rattle.tql_spec.specs.Syntax.{QueryTree, RollbackTree, StartTree, Statement, UpdateTree, PruneTree, OpenTree}
use Rattle.tql_spec.specs.Syntax.{ReadTree, CloseTree}
use Rattle.tql_bind.specs.Creations.{is_creation}
use Rattle.tql_bound.specs.Bounds.{HasMoment, IsSound, bound_of}
use Rattle.tql_bound.specs.Placed.{IsPlacedQuery}
use Rattle.tql_bound.specs.declared.bound.Bound as bound
use Rattle.tql_bound.specs.declared.bound.Bound.TheVariants as statement
use Rattle.tql_bind.proofs.PlacedQueries.{behind_none, front_none, none_present, query_placed, table_there}

-- ---- statements

-- for a change: the tables of its query exist
abbrev pub AreSourcesPlaced : List TableDef → Change → Type 0
AreSourcesPlaced defs (InsertQuery t columns q) = IsPlacedQuery defs q
AreSourcesPlaced defs _ = Unit {0}

-- the tables that it names exist
abbrev pub IsPlaced : List TableDef → Bound → Type 0
IsPlaced defs (CreateTable d) = Unit {0}
IsPlaced defs (DropTable t) = t < length defs
IsPlaced defs (ChangeRows c) = (changed_table c < length defs) × AreSourcesPlaced defs c
IsPlaced defs (AnswerQuery q) = IsPlacedQuery defs q
IsPlaced defs (SetClock m) = Unit {0}
IsPlaced defs (Prune m) = Unit {0}
IsPlaced defs (OpenReader n) = Unit {0}
IsPlaced defs (Read n q) = IsPlacedQuery defs q
IsPlaced defs (CloseReader n) = Unit {0}
IsPlaced defs Start = Unit {0}
IsPlaced defs Commit = Unit {0}
IsPlaced defs Rollback = Unit {0}

pub placed : (defs : List TableDef) (s : Statement) → (bind defs s).faults ≡ [] → IsPlaced defs (bind defs s).value
placed defs (CreateTree n x xs versioned) e = tt
placed defs (DropTree n) e = table_there defs n (front_none (table_number defs n).faults _ e)
placed defs (InsertValues n ns t ts) e = (table_there defs n (front_none (table_number defs n).faults _ e), tt)
placed defs (InsertSelect n ns s) e =
    let t = table_number defs n in
    let columns = insert_columns (table_at defs t.value) ns in
    let asked = select defs s [] in (
      table_there defs n (front_none t.faults _ e),
      query_placed defs s [] (front_none asked.faults _ (behind_none columns.faults _ (behind_none t.faults _ e))),
    )
placed defs (UpdateTree n p s ss c) e = (table_there defs n (front_none (table_number defs n).faults _ e), tt)
placed defs (DeleteTree n p c) e = (table_there defs n (front_none (table_number defs n).faults _ e), tt)
placed defs (QueryTree s keys) e = query_placed defs s keys (front_none (select defs s keys).faults _ e)
placed defs StartTree e = tt
placed defs CommitTree e = tt
placed defs RollbackTree e = tt
placed defs (AtTree t) e = tt
placed defs (PruneTree t) e = tt
placed defs (OpenTree n) e = tt
placed defs (ReadTree n s keys) e = query_placed defs s keys (front_none (select defs s keys).faults _ e)
placed defs (CloseTree n) e = tt

-- ---- statements of the code

creates_none : (defs : List TableDef) (s : Statement) (d : TableDef) → IsTrue (not (is_creation s))
    → (bind defs s).value ≡ CreateTable d → ⊥
creates_none defs (CreateTree n x xs versioned) d other is = cc
creates_none defs (DropTree n) d other is = cc
creates_none defs (InsertValues n ns t ts) d other is = cc
creates_none defs (InsertSelect n ns s) d other is = cc
creates_none defs (UpdateTree n p s ss c) d other is = cc
creates_none defs (DeleteTree n p c) d other is = cc
creates_none defs (QueryTree s keys) d other is = cc
creates_none defs StartTree d other is = cc
creates_none defs CommitTree d other is = cc
creates_none defs RollbackTree d other is = cc
creates_none defs (AtTree t) d other is = cc
creates_none defs (PruneTree t) d other is = cc
creates_none defs (OpenTree n) d other is = cc
creates_none defs (ReadTree n s keys) d other is = cc
creates_none defs (CloseTree n) d other is = cc

sound_by : (defs : List TableDef) (s : Statement) (b : bound.Bound) → IsTrue (not (is_creation s))
    → (bind defs s).value ≡ bound_of b → HasMoment b → IsPlaced defs (bound_of b) → IsSound defs b
sound_by defs s (statement.CreateTable d) other is timed there = absurd (creates_none defs s d other is)
sound_by defs s (statement.DropTable t) other is timed there = there
sound_by defs s (statement.Insert x) other is timed there = there.0
sound_by defs s (statement.InsertFrom x) other is timed there = there
sound_by defs s (statement.Modify x) other is timed there = there.0
sound_by defs s (statement.AnswerQuery x) other is timed there = there
sound_by defs s (statement.SetClock m) other is timed there = timed
sound_by defs s (statement.Prune m) other is timed there = timed
sound_by defs s (statement.OpenReader n) other is timed there = tt
sound_by defs s (statement.Read x) other is timed there = there
sound_by defs s (statement.CloseReader n) other is timed there = tt
sound_by defs s statement.Start other is timed there = tt
sound_by defs s statement.Commit other is timed there = tt
sound_by defs s statement.Rollback other is timed there = tt

-- a statement that is bound without a fault is valid
pub sound_where_clean : (defs : List TableDef) (s : Statement) (b : bound.Bound) → IsTrue (not (is_creation s))
    → first (bind defs s).faults ≡ None → (bind defs s).value ≡ bound_of b → HasMoment b
    → IsSound defs b
sound_where_clean defs s b other none is timed =
    sound_by defs s b other is timed (subst (IsPlaced defs) is (placed defs s (none_present (bind defs s).faults none)))
