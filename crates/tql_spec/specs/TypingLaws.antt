-- The laws of kinds: bound statements give each column values of its kind, and rows of reached states have them.
use Rattle.std.specs.Prelude.{◌≡◌, ◌<◌, ℕ, ◌+◌, length, List, [], false, IsTrue, Option, Some, is_some}
use Rattle.tql_spec.specs.Bag.{In}
use Rattle.tql_spec.specs.Datum.{Datum, Row, Day, Moment, Days, Moments}
use Rattle.tql_spec.specs.Period.{Period}
use Rattle.tql_spec.specs.Expression.{Expr, eval}
use Rattle.tql_spec.specs.Definition.{TableDef, Application, cell, period_of, table_at}
use Rattle.tql_spec.specs.Creation.{kinds_of, has_number, period_columns}
use Rattle.tql_spec.specs.Query.{Ref, answer}
use Rattle.tql_spec.specs.Change.{Assignment, Work}
use Rattle.tql_spec.specs.Machine.{State, Change, InsertTuples, InsertQuery, Modify, Bound, CreateTable, DropTable}
use Rattle.tql_spec.specs.Machine.{SetClock, Start, Commit, Rollback, ChangeRows, AnswerQuery, bag_of, class_of}
use Rattle.tql_spec.specs.Machine.{state_faults}
use Rattle.tql_spec.specs.Machine.{effect, step, Prune}
use Rattle.tql_spec.specs.Machine.{OpenReader, Read, CloseReader}
use Rattle.tql_spec.specs.Syntax.{Sum, Statement}
use Rattle.tql_spec.specs.Names.{Known, expr, kind_at}
use Rattle.tql_spec.specs.Binding.{bind, kinds_for}
use Rattle.tql_spec.specs.Reached.{IsReached}
use Rattle.tql_spec.specs.Typing.{IsOfKind, AreOfKinds, GiveKinds, column_kind, IsTypedDefinition, HasPeriod}
use Rattle.tql_spec.specs.Typing.{IsTypedState}

-- ---- expressions

-- the row has values of the right kinds in the columns of each reference in scope
abbrev pub HasScopeKinds : List Known → Row → Type 0
HasScopeKinds scope row = (k : Known) → In k scope → (i : ℕ) → i < length k.columns
    → IsOfKind (Some (kind_at k.columns i)) (cell row (k.offset + i))

-- the law: if the row and its group are like this, the value of a bound expression is of its kind
abbrev pub ValuesAreOfKind : Type 0
ValuesAreOfKind = (scope : List Known) (e : Sum) (group : List Row) (row : Row)
    → ((r : Row) → In r group → HasScopeKinds scope r) → HasScopeKinds scope row
    → (v : Datum) → eval group row (expr scope e).value.expr ≡ Some v → IsOfKind (expr scope e).value.kind v

-- ---- bound statements

-- an assignment: its value on a row of the table is of its column's kind. A change of a portion sets no column of the
-- period
pub record IsTypedAssignment (d : TableDef) (portion : Option Period) (a : Assignment) : Type 0 where
  pub value : (row : Row) → AreOfKinds (kinds_of d) row → (v : Datum) → eval [] row a.value ≡ Some v
      → IsOfKind (Some (column_kind d a.column)) v
  pub column : IsTrue (is_some portion) → has_number a.column (period_columns d.application) ≡ false

-- the assignments of an UPDATE are typed
abbrev pub IsTypedWork : TableDef → Option Period → Work → Type 0
IsTypedWork d portion Work.Remove = Unit {0}
IsTypedWork d portion (Work.Set sets) = (a : Assignment) → In a sets → IsTypedAssignment d portion a

-- the rows of each reference are of its table's kinds
abbrev pub IsTypedBag : List TableDef → (Ref → List Row) → Type 0
IsTypedBag defs bag = (r : Ref) (row : Row) → In row (bag r) → AreOfKinds (kinds_of (table_at defs r.table)) row

-- a change that gives each column values of its kind
abbrev pub IsTypedChange : List TableDef → Change → Type 0
IsTypedChange defs (InsertTuples t columns tuples) =
    (tuple : List Expr) → In tuple tuples → GiveKinds (kinds_for (table_at defs t) columns) tuple
IsTypedChange defs (InsertQuery t columns q) =
    (bag : Ref → List Row) → IsTypedBag defs bag → (rows : List Row) → answer bag q ≡ Some rows
    → (row : Row) → In row rows → AreOfKinds (kinds_for (table_at defs t) columns) row
IsTypedChange defs (Modify t portion work conds) = IsTypedWork (table_at defs t) portion work

-- a bound statement whose change or table definition is typed
abbrev pub IsTypedBound : List TableDef → Bound → Type 0
IsTypedBound defs (CreateTable d) = IsTypedDefinition d
IsTypedBound defs (DropTable t) = Unit {0}
IsTypedBound defs (SetClock m) = Unit {0}
IsTypedBound defs Start = Unit {0}
IsTypedBound defs Commit = Unit {0}
IsTypedBound defs Rollback = Unit {0}
IsTypedBound defs (ChangeRows c) = IsTypedChange defs c
IsTypedBound defs (AnswerQuery q) = Unit {0}
IsTypedBound defs (Prune m) = Unit {0}
IsTypedBound defs (OpenReader n) = Unit {0}
IsTypedBound defs (Read n q) = Unit {0}
IsTypedBound defs (CloseReader n) = Unit {0}

-- ---- laws

-- the law: the binding of a statement without faults is typed
abbrev pub BoundAreTyped : Type 0
BoundAreTyped =
    (defs : List TableDef) (st : Statement) → (bind defs st).faults ≡ [] → IsTypedBound defs (bind defs st).value

-- the law: a step preserves the kinds, and so does an effect that the state does not refuse
pub record StepsKeepTypes : Type 0 where
  pub steps : (s : State) (b : Bound) → IsTypedState s → IsTypedBound s.definitions b → IsTypedState (step s b).1
  pub effects : (s : State) (b : Bound) → state_faults s (class_of b) ≡ [] → IsTypedState s
      → IsTypedBound s.definitions b → IsTypedState (effect s b).1

-- the law: in a typed state, the rows that a query of a table finds are of its kinds, also those of the past
abbrev pub BagsAreTyped : Type 0
BagsAreTyped = (s : State) → IsTypedState s → IsTypedBag s.definitions (bag_of s)

-- the law: every state that a run reaches has rows of its tables' kinds
abbrev pub ReachedAreTyped : Type 0
ReachedAreTyped = (s : State) → IsReached s → IsTypedState s

-- the law: in a row of the table's kinds with a period, the columns of the application period hold its ends
pub record OwnPeriodsArePoints : Type 0 where
  pub days : (d : TableDef) (a : Application) (row : Row) → d.application ≡ Some a → AreOfKinds (kinds_of d) row
      → HasPeriod d row
      → (column_kind d a.start ≡ Days → cell row a.start ≡ Day (period_of d row).start)
      × (column_kind d a.end ≡ Days → cell row a.end ≡ Day (period_of d row).end)
  pub moments : (d : TableDef) (a : Application) (row : Row) → d.application ≡ Some a → AreOfKinds (kinds_of d) row
      → HasPeriod d row
      → (column_kind d a.start ≡ Moments → cell row a.start ≡ Moment (period_of d row).start)
      × (column_kind d a.end ≡ Moments → cell row a.end ≡ Moment (period_of d row).end)
