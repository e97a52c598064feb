-- The reference model: a full copy of the database at each commit. Runs one bound statement at a time.
use Rattle.std.specs.Prelude.{ℕ, Bool, false, not, ◌&&◌, ◌||◌, nat_le, List, [], ◌∷◌, ◌++◌, map, filter, length}
use Rattle.std.specs.Prelude.{slice_set, remove, ℤ, pos, ◌+ℤ◌, int_le, Option, Some, None, is_some, is_none, int_lt}
use Rattle.tql_spec.specs.Words.{listed, map_all, same_text}
use Rattle.tql_spec.specs.Limits.{most_readers}
use Rattle.tql_spec.specs.Calendar.{high, first_moment}
use Rattle.tql_spec.specs.Datum.{Row}
use Rattle.tql_spec.specs.Period.{Period}
use Rattle.tql_spec.specs.Refusal.{Refusal, ValueOutOfRange, DuplicateKey, ReferenceNotMet, NotInThisTransactionState}
use Rattle.tql_spec.specs.Refusal.{MomentNotAllowed, fault_if, first, BeforeTheHorizon, ReadersAreOpen}
use Rattle.tql_spec.specs.Refusal.{TooManyTablesOrReaders, ReaderNotUsable}
use Rattle.tql_spec.specs.Expression.{Expr, Cond, eval}
use Rattle.tql_spec.specs.Definition.{Name, TableDef, table_at}
use Rattle.tql_spec.specs.History.{Copy, Entry, rows_in, versions}
use Rattle.tql_spec.specs.Query.{Query, Ref, answer, in_order}
use Rattle.tql_spec.specs.Horizon.{pruned, asks_before}
use Rattle.tql_spec.specs.Readers.{Reader, Limits, names_of, is_named, pinned_of, is_any_open, passes_some, reads_plain}
use Rattle.tql_spec.specs.Change.{Outcome, Work, insert, modify}
use Rattle.tql_spec.specs.Constraint.{keys_hold, references_hold}

-- ---- statements and replies

-- a change of one table, by its index among the definitions
pub data Change : Type 0 where
  InsertTuples : (table : ℕ) → (columns : List ℕ) → List (List Expr) → Change
  InsertQuery : (table : ℕ) → (columns : List ℕ) → Query → Change
  Modify : (table : ℕ) → Option Period → Work → List Cond → Change

-- a statement whose names are bound; tables are given by their indices among the definitions
pub data Bound : Type 0 where
  CreateTable : TableDef → Bound
  DropTable : ℕ → Bound
  SetClock : ℤ → Bound
  Start : Bound
  Commit : Bound
  Rollback : Bound
  ChangeRows : Change → Bound
  AnswerQuery : Query → Bound
  Prune : ℤ → Bound
  OpenReader : Name → Bound
  Read : Name → Query → Bound
  CloseReader : Name → Bound

-- the verbs that replies begin with
pub data Verb : Type 0 where
  CreatedTable : Verb
  DroppedTable : Verb
  Inserted : Verb
  Updated : Verb
  Deleted : Verb
  Started : Verb
  Committed : Verb
  RolledBack : Verb
  ClockSet : Verb
  Pruned : Verb
  OpenedReader : Verb
  ClosedReader : Verb

-- the reply to a statement: done, with a count or without; a table; or a refusal
pub data Reply : Type 0 where
  Done : Verb → Option ℕ → Reply
  Table : (headings : List Name) → (rows : List Row) → Reply
  Refused : Refusal → Reply

-- ---- the state

-- the definitions; the copies of the commits, newest first; the moment of the next transaction; an open transaction
-- with its working copy; the horizon, before which no query may ask; and the open readers
pub record State : Type 0 where
  pub definitions : List TableDef
  pub history : List Entry
  pub next : ℤ
  pub transaction : Option Entry
  pub horizon : ℤ
  pub readers : List Reader

-- the first state: no tables, commits or readers; clock and horizon are at the first moment
abbrev pub new_state : State
new_state = record {
  definitions = [];
  history = [];
  next = first_moment;
  transaction = None;
  horizon = first_moment;
  readers = [];
}

-- the copies that queries see: an open transaction counts as the last commit
abbrev pub entries : State → List Entry
entries s = listed s.transaction ++ s.history

-- the newest of these copies; before any commit every table is empty
abbrev pub newest_copy : List TableDef → List Entry → Copy
newest_copy defs [] = map (λ d. []) defs
newest_copy defs (e ∷ older) = e.copy

-- the newest copy that queries see
abbrev pub last_copy : State → Copy
last_copy s = newest_copy s.definitions (entries s)

-- the transaction that a change runs in: the open one, or one of its own
abbrev pub working : State → Option Entry → Entry
working s None = record { moment = s.next; copy = last_copy s }
working s (Some e) = e

-- the bag of a table reference in these copies
abbrev pub bag_in : List TableDef → List Entry → Ref → List Row
bag_in defs es r = versions (table_at defs r.table) r.table r.when es

-- the bag of a table reference in the copies that queries see
abbrev pub bag_of : State → Ref → List Row
bag_of s = bag_in s.definitions (entries s)

-- ---- the faults of a state

-- the classes of statements, by their effect on the transaction, the clock and the history. AT and PRUNE carry their
-- moment if its literal is valid. OPEN, READ and CLOSE READER are classed as queries
pub data StatementClass : Type 0 where
  Defines : StatementClass
  SetsClock : Option ℤ → StatementClass
  Starts : StatementClass
  Ends : StatementClass
  Changes : StatementClass
  Queries : StatementClass
  Prunes : Option ℤ → StatementClass

-- the class of a bound statement
abbrev pub class_of : Bound → StatementClass
class_of (CreateTable d) = Defines
class_of (DropTable t) = Defines
class_of (SetClock m) = SetsClock (Some m)
class_of Start = Starts
class_of Commit = Ends
class_of Rollback = Ends
class_of (ChangeRows c) = Changes
class_of (AnswerQuery q) = Queries
class_of (Prune m) = Prunes (Some m)
class_of (OpenReader n) = Queries
class_of (Read n q) = Queries
class_of (CloseReader n) = Queries

-- whether a moment is not later than the last commit's
abbrev pub is_not_later : ℤ → List Entry → Bool
is_not_later m [] = false
is_not_later m (e ∷ older) = int_le m e.moment

-- whether the clock is at the highest moment, at which nothing can commit
abbrev pub is_clock_at_end : State → Bool
is_clock_at_end s = int_le high s.next

-- the faults of a class of statements by the transaction, the clock and the open readers
abbrev pub state_faults : State → StatementClass → List Refusal
state_faults s Defines =
    fault_if (is_some s.transaction) NotInThisTransactionState ++ fault_if (is_any_open s.readers) ReadersAreOpen
state_faults s (SetsClock None) = fault_if (is_some s.transaction) NotInThisTransactionState
state_faults s (SetsClock (Some m)) =
    fault_if (is_some s.transaction) NotInThisTransactionState ++ fault_if (is_not_later m s.history) MomentNotAllowed
state_faults s Starts =
    fault_if (is_some s.transaction) NotInThisTransactionState ++ fault_if (is_clock_at_end s) MomentNotAllowed
state_faults s Ends = fault_if (is_none s.transaction) NotInThisTransactionState
state_faults s Changes = fault_if (is_none s.transaction && is_clock_at_end s) MomentNotAllowed
state_faults s Queries = []
state_faults s (Prunes None) = fault_if (is_some s.transaction) NotInThisTransactionState
state_faults s (Prunes (Some m)) =
    fault_if (is_some s.transaction) NotInThisTransactionState ++ fault_if (passes_some m s.readers) ReadersAreOpen

-- the fault of a query by the horizon
abbrev pub query_faults : ℤ → Query → List Refusal
query_faults h q = fault_if (asks_before h q) BeforeTheHorizon

-- the fault of a change by the horizon: an INSERT's query is treated as any other query
abbrev pub change_faults : ℤ → Change → List Refusal
change_faults h (InsertTuples t columns tuples) = []
change_faults h (InsertQuery t columns q) = query_faults h q
change_faults h (Modify t portion work conds) = []

-- the faults of a bound statement by the horizon and the open readers. The placeholder for a literal out of range is
-- before no horizon
abbrev pub bound_faults : Limits → List TableDef → Bound → List Refusal
bound_faults l defs (ChangeRows c) = change_faults l.horizon c
bound_faults l defs (AnswerQuery q) = query_faults l.horizon q
bound_faults l defs (Prune m) = fault_if (int_lt m l.horizon) BeforeTheHorizon
bound_faults l defs (OpenReader n) =
    fault_if (nat_le most_readers (length l.names)) TooManyTablesOrReaders
    ++ fault_if (is_named n l.names) ReaderNotUsable
bound_faults l defs (Read n q) =
    fault_if (not (is_named n l.names) || reads_plain defs q) ReaderNotUsable ++ query_faults l.horizon q
bound_faults l defs (CloseReader n) = fault_if (not (is_named n l.names)) ReaderNotUsable
bound_faults l defs _ = []

-- the limits of a state
abbrev pub limits_of : State → Limits
limits_of s = record { horizon = s.horizon; names = names_of s.readers }

-- the faults of a bound statement by the limits of the state
abbrev pub limit_faults : State → Bound → List Refusal
limit_faults s b = bound_faults (limits_of s) s.definitions b

-- ---- effects

-- the state after a commit
abbrev pub committed : State → Entry → State
committed s e = record s { history = e ∷ s.history; next = e.moment +ℤ pos 1; transaction = None }

-- the state with a changed working copy: in the open transaction, or committed at once
abbrev pub with_working : State → Option Entry → Entry → State
with_working s None e = committed s e
with_working s (Some old) e = record s { transaction = Some e }

-- the state with the same change in each copy of the history
abbrev pub in_each_copy : (Copy → Copy) → State → State
in_each_copy f s = record s { history = map (λ (e : Entry). record e { copy = f e.copy }) s.history }

-- the state with one more table, empty in each copy
abbrev pub with_table : TableDef → State → State
with_table d s = in_each_copy (λ copy. copy ++ [] ∷ []) (record s { definitions = s.definitions ++ d ∷ [] })

-- the state without a table, in each copy
abbrev pub without_table : ℕ → State → State
without_table t s = in_each_copy (λ copy. remove copy t) (record s { definitions = remove s.definitions t })

-- the index of the changed table
abbrev pub changed_table : Change → ℕ
changed_table (InsertTuples t columns tuples) = t
changed_table (InsertQuery t columns q) = t
changed_table (Modify t portion work conds) = t

-- the verb of a kind of work
abbrev pub verb_of_work : Work → Verb
verb_of_work (Work.Set sets) = Updated
verb_of_work Work.Remove = Deleted

-- the verb of the reply to a change
abbrev pub verb_of : Change → Verb
verb_of (InsertTuples t columns tuples) = Inserted
verb_of (InsertQuery t columns q) = Inserted
verb_of (Modify t portion work conds) = verb_of_work work

-- the outcome of a change for its table in the working copy
abbrev pub outcome : State → ℤ → Copy → Change → Outcome
outcome s m copy (InsertTuples t columns tuples) =
    insert (table_at s.definitions t) m (rows_in copy t) columns (map_all (map_all (eval [] [])) tuples)
outcome s m copy (InsertQuery t columns q) =
    insert (table_at s.definitions t) m (rows_in copy t) columns (answer (bag_of s) q)
outcome s m copy (Modify t portion work conds) = modify (table_at s.definitions t) m (rows_in copy t) portion work conds

-- the faults of a whole copy by keys and references
abbrev pub constraint_faults : List TableDef → Copy → List Refusal
constraint_faults defs copy =
    fault_if (not (keys_hold defs copy)) DuplicateKey ++ fault_if (not (references_hold defs copy)) ReferenceNotMet

-- the new reply and state, or the refusal and the old state
abbrev pub unless_refused : Option Refusal → State → Reply → State → Reply × State
unless_refused None old reply new = (reply, new)
unless_refused (Some e) old reply new = (Refused e, old)

-- the reply to a change and the state after it; keys and references are tested on the new copy
abbrev pub changed : State → Change → Reply × State
changed s c =
    let e = working s s.transaction in
    let o = outcome s e.moment e.copy c in
    let copy = slice_set e.copy (changed_table c) o.rows in
    unless_refused (first (o.faults ++ constraint_faults s.definitions copy)) s
    (Done (verb_of c) (Some o.count)) (with_working s s.transaction (record { moment = e.moment; copy = copy }))

-- the reply to a query: its rows in order, or out of range; the state does not change
abbrev pub asked : State → Query → Option (List Row) → Reply × State
asked s q None = (Refused ValueOutOfRange, s)
asked s q (Some rows) = (Table q.headings (in_order q.ordering rows), s)

-- the state after COMMIT of the open transaction
abbrev pub with_commit : State → Option Entry → State
with_commit s None = s
with_commit s (Some e) = committed s e

-- the effect of a statement that the state does not refuse
abbrev pub effect : State → Bound → Reply × State
effect s (CreateTable d) = (Done CreatedTable None, with_table d s)
effect s (DropTable t) = (Done DroppedTable None, without_table t s)
effect s (SetClock m) = (Done ClockSet None, record s { next = m })
effect s Start = (Done Started None, record s { transaction = Some (working s None) })
effect s Commit = (Done Committed None, with_commit s s.transaction)
effect s Rollback = (Done RolledBack None, record s { transaction = None })
effect s (ChangeRows c) = changed s c
effect s (AnswerQuery q) = asked s q (answer (bag_of s) q)
effect s (OpenReader n) =
    (Done OpenedReader None, record s { readers = s.readers ++ record { name = n; pinned = s.history } ∷ [] })
effect s (Read n q) = asked s q (answer (bag_in s.definitions (pinned_of n s.readers)) q)
effect s (CloseReader n) =
    (Done ClosedReader None, record s { readers = filter (λ (r : Reader). not (same_text n r.name)) s.readers })
effect s (Prune m) = (Done Pruned None, record s { history = pruned m s.history; horizon = m })

-- one step: the effect of a statement, or its first fault
abbrev pub step : State → Bound → Reply × State
step s b = let r = effect s b in unless_refused (first (limit_faults s b ++ state_faults s (class_of b))) s r.0 r.1

-- the replies to a list of statements, and the state after them
abbrev pub replies : State → List Bound → List Reply
replies s [] = []
replies s (b ∷ bs) = let r = step s b in r.0 ∷ replies r.1 bs
