-- A run of a script, compared with the models of all points.
use Rattle.std.specs.Prelude.{◌≡◌, ◌⊎◌, ◌≤◌, IsTrue, IsFalse, List, [], ◌∷◌, ◌++◌, ℤ, None}
use Rattle.tql_spec.specs.Bag.{In}
use Rattle.tql_spec.specs.Refusal.{Refusal, OutOfMemory, place}
use Rattle.tql_spec.specs.Definition.{TableDef}
use Rattle.tql_spec.specs.Machine.{State, Bound, Reply, Done, Refused, Table, step}
use Rattle.tql_spec.specs.Script.{Piece}
use Rattle.tql_spec.specs.Syntax.{Statement}
use Rattle.tql_spec.specs.Binding.{bind}
use Rattle.tql_spec.specs.Run.{Sense, Says, Faulty, HasSense, Answers, Run}
use Rattle.tql_points.specs.PointStatement.{statement_at}
use Rattle.tql_points.specs.Scope.{ArePointTables}
use Rattle.tql_points.specs.PointMachine.{is_refused, beginning, point_beginning, SlicesAgree}
use Rattle.tql_points.specs.StatementScope.{prepares, is_query, defines, is_statement_in_scope}

-- ---- the models of all points

-- the state of the model of each point
abbrev pub PointMachines : Type 0
PointMachines = ℤ → State

-- the models at the start, given the state of the whole: the same clock, horizon and open readers, and the tables
-- without their application periods
abbrev pub machines_of : State → PointMachines
machines_of s p = record (point_beginning s.definitions s.next s.horizon) { readers = s.readers }

-- the reply of the model of the point to the statement as given to the point
abbrev pub reply_at : List TableDef → PointMachines → Bound → ℤ → Reply
reply_at defs machines b p = (step (machines p) (statement_at defs p b)).0

-- the models after each was given the statement
abbrev pub after_each : List TableDef → PointMachines → Bound → PointMachines
after_each defs machines b p = (step (machines p) (statement_at defs p b)).1

-- no model refuses the statement
abbrev pub NoneRefuses : List TableDef → PointMachines → Bound → Type 0
NoneRefuses defs machines b = (p : ℤ) → IsFalse (is_refused (reply_at defs machines b p))

-- some model refuses it with e, and none has an earlier refusal
pub record IsFirstRefusal (defs : List TableDef) (machines : PointMachines) (b : Bound) (e : Refusal) : Type 0 where
  pub point : ℤ
  pub refused : reply_at defs machines b point ≡ Refused e
  pub first : (p : ℤ) (f : Refusal) → reply_at defs machines b p ≡ Refused f → place e ≤ place f

-- ---- one piece of a script

-- the refusal of a piece: the fault of its text; or, if the names, kinds, forms and literals of the statement have no
-- fault, the first of the refusals of the models
abbrev pub TellsRefusal : List TableDef → PointMachines → Sense → Refusal → Type 0
TellsRefusal defs machines (Faulty f) e = e ≡ f
TellsRefusal defs machines (Says t) e =
    (bind defs t).faults ≡ [] → IsFalse (is_query t) → IsFirstRefusal defs machines (bind defs t).value e

-- how the models follow a reply: a statement that was executed is executed by each model and refused by none. A refused
-- statement or a query is given to none. A refusal, unless out of memory, is the one above.
abbrev pub GoAlong : List TableDef → PointMachines → Piece → Reply → PointMachines → Type 0
GoAlong defs old x (Done verb count) new =
    (t : Statement) × HasSense x (Says t) × NoneRefuses defs old (bind defs t).value
    × (new ≡ after_each defs old (bind defs t).value)
GoAlong defs old x (Table headings rows) new = new ≡ old
GoAlong defs old x (Refused e) new =
    (new ≡ old) × ((e ≡ OutOfMemory) ⊎ ((sense : Sense) × HasSense x sense × TellsRefusal defs old sense e))

-- ---- runs

-- the answers to the pieces and the models at each step; after each answer, the slices agree at each point
abbrev pub RunsBeside : State → PointMachines → List Piece → List Reply → State → PointMachines → Type 0
RunsBeside s machines [] [] new after = (new ≡ s) × (after ≡ machines)
RunsBeside s machines (x ∷ xs) (r ∷ rs) new after =
    (mid : State) × (next : PointMachines) × Answers s x r mid × GoAlong s.definitions machines x r next
    × ((p : ℤ) → SlicesAgree mid.definitions p mid (next p)) × RunsBeside mid next xs rs new after
RunsBeside s machines _ _ new after = ⊥

-- tables in scope, with no commit and no open transaction, so all are empty
pub record IsAtStart (s : State) : Type 0 where
  pub tables : ArePointTables s.definitions
  pub uncommitted : s.history ≡ []
  pub idle : s.transaction ≡ None

-- each piece with a statement creates a table in scope, sets the clock or the horizon, is a query, or opens or closes a
-- reader
abbrev pub ArePreparing : List Piece → Type 0
ArePreparing pieces = (x : Piece) → In x pieces → (t : Statement) → HasSense x (Says t) → IsTrue (prepares t)

-- a piece with a statement has one in scope of these tables, or one with a fault in its names, kinds, forms or
-- literals. The latter is refused and is not given to the models.
abbrev pub IsInScope : List TableDef → Piece → Type 0
IsInScope defs x =
    (t : Statement) → HasSense x (Says t) → (bind defs t).faults ≡ [] → IsTrue (is_statement_in_scope defs t)

-- each piece is in scope of the tables that there are when it is answered
abbrev pub AreInScope : State → List Piece → List Reply → Type 0
AreInScope s (x ∷ xs) (r ∷ rs) =
    IsInScope s.definitions x × ((mid : State) → Answers s x r mid → AreInScope mid xs rs)
AreInScope s _ _ = Unit {0}

-- each piece is in scope of the same tables, and creates and drops none
abbrev pub AreInScopeOf : List TableDef → List Piece → Type 0
AreInScopeOf defs pieces =
    (x : Piece) → In x pieces → (t : Statement) → HasSense x (Says t) → (bind defs t).faults ≡ []
    → IsTrue (is_statement_in_scope defs t) × IsFalse (defines t)

-- the law: such pieces are in scope of the tables that there are
abbrev pub ScopesAreKept : Type 0
ScopesAreKept =
    (s : State) (pieces : List Piece) (replies : List Reply) → AreInScopeOf s.definitions pieces
    → AreInScope s pieces replies

-- the law: these statements preserve `IsAtStart`. The resulting state is the beginning state for its tables, clock,
-- horizon and open readers.
abbrev pub StartsAreKept : Type 0
StartsAreKept =
    (s : State) (pieces : List Piece) (replies : List Reply) (new : State) → IsAtStart s → ArePreparing pieces
    → Run s pieces replies new
    → IsAtStart new
    × (new ≡ record (beginning new.definitions new.next new.horizon) { readers = new.readers })

-- the first pieces create tables, or there are none; if the later ones are in scope, they run in agreement with the
-- models of all points
pub record RunsAtPoints (s : State) (made others : List Piece) (replies : List Reply) (new : State) : Type 0 where
  pub first : List Reply
  pub later : List Reply
  pub both : replies ≡ first ++ later
  pub start : State
  pub prepared : Run s made first start
  pub at_start : IsAtStart start
  pub ran : Run start others later new
  pub beside : AreInScope start others later → (after : PointMachines)
      × RunsBeside start (machines_of start) others later new after

-- a run agrees with the models of all points, however it is divided into pieces that create tables and later pieces
abbrev pub AgreesAtPoints : State → List Piece → List Reply → State → Type 0
AgreesAtPoints s pieces replies new =
    IsAtStart s → (made others : List Piece) → pieces ≡ made ++ others → ArePreparing made
    → RunsAtPoints s made others replies new

-- the law: every run does
abbrev pub RunsAgreeAtPoints : Type 0
RunsAgreeAtPoints =
    (s : State) (pieces : List Piece) (replies : List Reply) (new : State) → Run s pieces replies new
    → AgreesAtPoints s pieces replies new

-- after any earlier run that led to the state, the two runs as one agree with the models of all points; the earlier run
-- may be empty
abbrev pub AgreesBehind : State → List Piece → List Reply → State → Type 0
AgreesBehind s pieces replies new =
    (old : State) (earlier : List Piece) (answers : List Reply) → Run old earlier answers s
    → AgreesAtPoints old (earlier ++ pieces) (answers ++ replies) new

-- the law: every run does
abbrev pub RunsAgreeBehind : Type 0
RunsAgreeBehind =
    (s : State) (pieces : List Piece) (replies : List Reply) (new : State) → Run s pieces replies new
    → AgreesBehind s pieces replies new
