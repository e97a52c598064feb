-- The step of each statement, from what the code has tested.
use Rattle.std.proofs.Common.{◌≡◌, refl, sym, ap, subst, ◌∙◌, arith, ℕ, zero, suc, Bool, true, false, List, [], ◌∷◌}
use Rattle.std.proofs.Common.{◌++◌, map, filter, length, Some, None, Option}
use Rattle.std.specs.Prelude.{ℤ, pos, ◌≤ℤ◌, ◌<ℤ◌, ◌+ℤ◌, ◌&&◌, int_le, int_lt, is_some, is_none, IsNone, IsSome}
use Rattle.std.specs.Prelude.{slice_get, not, nat_lt, if◌then◌else◌}
use Rattle.std.specs.List.{AllByRecursion}
use Rattle.std.proofs.lemmas.Int.{ints}
use Rattle.tql_spec.specs.Calendar.{first_moment, high}
use Rattle.tql_spec.specs.Datum.{Row}
use Rattle.tql_spec.specs.Definition.{Name, TableDef}
use Rattle.tql_spec.specs.History.{Entry, rows_in}
use Rattle.tql_spec.specs.Query.{OrderKey, Query, answer, in_order}
use Rattle.tql_spec.specs.Change.{Outcome, insert}
use Rattle.tql_spec.specs.Refusal.{Refusal, NotInThisTransactionState, MomentNotAllowed, ValueOutOfRange, first}
use Rattle.tql_spec.specs.Refusal.{BeforeTheHorizon, ReadersAreOpen, fault_if}
use Rattle.tql_spec.specs.Horizon.{asks_before}
use Rattle.tql_spec.specs.ReaderLaws.{pin}
use Rattle.tql_spec.specs.Readers.{Reader, is_any_open, passes_some, pinned_of}
use Rattle.tql_spec.specs.Words.{same_text}
use Rattle.tql_spec.specs.Machine.{State, Reply, Refused, Done, Table, CreatedTable, DroppedTable, ClockSet}
use Rattle.tql_spec.specs.Machine.{Started, Committed, RolledBack, Change, CreateTable, DropTable, SetClock, Start}
use Rattle.tql_spec.specs.Machine.{Commit, Rollback, ChangeRows, AnswerQuery, step, changed, outcome}
use Rattle.tql_spec.specs.Machine.{is_not_later, Prune, Pruned, change_faults, query_faults}
use Rattle.tql_spec.specs.Machine.{Bound, OpenReader, OpenedReader, Read, CloseReader, ClosedReader, Defines}
use Rattle.tql_spec.specs.Machine.{bag_in, effect, limit_faults, state_faults}
use Rattle.tql_spec.specs.Machine.{is_clock_at_end, with_table, without_table, with_commit, working, asked, bag_of}
use Rattle.tql_exec_steps.specs.Steps.{ordered}
use Rattle.tql_expr.specs.Evaluated.{Fails}
use Rattle.tql_value.specs.declared.refusal.Refusal as r
use Rattle.tql_value.specs.declared.refusal.Refusal.TheVariants as variant
use Rattle.tql_catalog.specs.declared.catalog.Table.{Table as CatalogTable}
use Rattle.tql_catalog.specs.Defined.{IsDefinition}
use Rattle.tql_bound.specs.Changes.{insertion_of}
use Rattle.tql_bound.specs.declared.change.Insertion.{Insertion}
use Rattle.tql_dml.specs.Alters.{Gives, tuples_in, inserted}
use Rattle.tql_result.specs.declared.reply.Verb.TheVariants as variants
use Rattle.tql_store.proofs.StoreLaws.{same-list}
use Rattle.tql_spec.proofs.FirstFaults.{none_first}
use Rattle.tql_store.specs.Represents.{Judged}
use Rattle.tql_store.specs.declared.store.Delta.{Delta}
use Rattle.tql_store.specs.StoreModel.{StoreModel}
use Rattle.tql_store.specs.Represents.{BeginCopies, CommitAppends, RollbackRestores}
use Rattle.tql_store.specs.Changes.{newest}
use Rattle.tql_engine_state.specs.Stands.{EngineModel, StandsFor, copies_of, open_moment}
use Rattle.tql_engine_state.specs.Effects.{Does, Refuses, not_later_than}
use Rattle.tql_engine_state.proofs.Faults.{refused, clock_step, start_step, commit_step, rollback_step, alter_step}
use Rattle.tql_engine_state.proofs.Faults.{pruned_to, free_step, neither}
use Rattle.tql_engine_state.proofs.ReadersKeep.{readers_opened, readers_closed}
use Rattle.tql_engine_state.proofs.StateFaults.{faults_held, passed_is, unread_is}
use Rattle.tql_engine_state.specs.Allowed.{AsksWithin, IsUnread, IsWithin, PassesNone}
use Rattle.tql_engine_state.specs.Readers.{AreReaders, KeptReader}
use Rattle.tql_engine_state.proofs.Standing.{closed_law, open_law, last_law, clock_law, definition_law}
use Rattle.tql_engine_state.proofs.Copies.{chosen, passed}
use Rattle.tql_engine_state.specs.Making.{Changes}
use Rattle.tql_engine_state.proofs.Added.{rows_begun, altered_refused, insert_outcome, insert_faults}
use Rattle.tql_engine_state.proofs.ChangeKeeps.{working_now, working_rows, only_added, none_judged}
use Rattle.tql_engine_state.proofs.EarlyFaults.{insert_early}
use Rattle.tql_engine_state.proofs.TransactionKeeps.{begun_law, ended_law, undone_law}

-- ---- the same effect, from an equal step

pub by_step : (h : EngineModel) (reply : Reply) (a b : Reply × State) → a ≡ b → Does h reply b → Does h reply a
by_step h reply a b e d = subst (Does h reply) (sym e) d

-- a refused statement
abbrev pub refuses : (h : EngineModel) (s : State) (e : Refusal) → StandsFor h s → Does h (Refused e) (refused e s)
refuses h s e st = record { replies = refl; stands = st }

-- ---- whether a transaction is open

-- the open transaction
some_entry : (o : Option Entry) → is_some o ≡ true → (e : Entry) × (o ≡ Some e)
some_entry None k = cc
some_entry (Some e) k = (e, refl)

pub open_entry : (h : EngineModel) (s : State) → StandsFor h s → IsSome h.store.working
    → (e : Entry) × (s.transaction ≡ Some e)
open_entry h s st k = some_entry s.transaction (open_law h s st ∙ k)

-- a transaction is open in both or in neither
pub idle_law : (h : EngineModel) (s : State) → StandsFor h s → is_none s.transaction ≡ is_none h.store.working
idle_law h s st = same_test s.transaction ∙ ap is_none (sym st.opened)
  where
    same_test : (o : Option Entry) → is_none o ≡ is_none (open_moment o)
    same_test None = refl
    same_test (Some e) = refl

none_of : {X : Type 0} (o : Option X) (b : Bool) → is_some o ≡ b → is_none o ≡ (if b then false else true)
none_of None true e = cc
none_of None false e = refl
none_of (Some x) true e = refl
none_of (Some x) false e = cc

-- whether the clock has no moment left for a change
pub lacks_law : (h : EngineModel) (s : State) → StandsFor h s
    → (is_none s.transaction && is_clock_at_end s) ≡ (is_none h.store.working && int_le high h.next)
lacks_law h s st = λ i. idle_law h s st i && int_le high (sym st.clock i)

-- ---- CREATE

-- no transaction and no reader is open
undefined : (h : EngineModel) (s : State) → StandsFor h s → IsNone h.store.working → IsUnread h
    → state_faults s Defines ≡ []
undefined h s st e unread =
    neither (is_some s.transaction) (is_any_open s.readers) NotInThisTransactionState ReadersAreOpen
    (open_law h s st ∙ e)
    (unread_is h s st ∙ ap (λ (rs : List KeptReader). nat_lt 0 (length rs)) unread)

pub create_does : (h new : EngineModel) (s : State) (d : TableDef) → StandsFor h s → IsNone h.store.working
    → IsUnread h
    → StandsFor new (with_table d s) → Does new (Done CreatedTable None) (step s (CreateTable d))
create_does h new s d st e unread made =
    by_step new (Done CreatedTable None) (step s (CreateTable d)) (Done CreatedTable None, with_table d s)
    (free_step s (CreateTable d) (undefined h s st e unread) refl) (record { replies = refl; stands = made })

-- ---- DROP

pub drop_does : (h new : EngineModel) (s : State) (t : ℕ) → StandsFor h s → IsNone h.store.working → IsUnread h
    → StandsFor new (without_table t s) → Does new (Done DroppedTable None) (step s (DropTable t))
drop_does h new s t st e unread left =
    by_step new (Done DroppedTable None) (step s (DropTable t)) (Done DroppedTable None, without_table t s)
    (free_step s (DropTable t) (undefined h s st e unread) refl) (record { replies = refl; stands = left })

-- ---- AT

-- the clock is set
abbrev set_to : ℤ → State → Reply × State
set_to m s = (Done ClockSet None, record s { next = m })

abbrev clock_left : ℤ → State → Reply × State
clock_left m s = if is_not_later m s.history then refused MomentNotAllowed s else set_to m s

-- to a moment that is not later than the last commit
pub clock_refused : (h : EngineModel) (s : State) (m : ℤ) → StandsFor h s → is_some h.store.working ≡ false
    → not_later_than m h.store.last ≡ true → Does h (Refused MomentNotAllowed) (step s (SetClock m))
clock_refused h s m st c e =
    by_step h (Refused MomentNotAllowed) (step s (SetClock m)) (refused MomentNotAllowed s)
    (clock_step s m ∙ passed (is_some s.transaction) (refused NotInThisTransactionState s) (clock_left m s)
    (open_law h s st ∙ c)
    ∙ chosen (is_not_later m s.history) (refused MomentNotAllowed s) (set_to m s) (last_law h s m st
    ∙ e)) (refuses h s MomentNotAllowed st)

-- to a later moment
pub clock_set : (h : EngineModel) (s : State) (m : ℤ) → StandsFor h s → IsNone h.store.working
    → not_later_than m h.store.last ≡ false → first_moment ≤ℤ m → m ≤ℤ high
    → Does (record h { next = m }) (Done ClockSet None) (step s (SetClock m))
clock_set h s m st c e low up =
    let later : is_not_later m s.history ≡ false = last_law h s m st ∙ e in
    by_step (record h { next = m }) (Done ClockSet None) (step s (SetClock m)) (set_to m s)
    (clock_step s m ∙ passed (is_some s.transaction) (refused NotInThisTransactionState s) (clock_left m s)
    (open_law h s st ∙ c)
    ∙ passed (is_not_later m s.history) (refused MomentNotAllowed s) (set_to m s) later) (record {
      replies = refl;
      stands = clock_law h s m st c later low up;
    })

-- ---- PRUNE HISTORY

-- the horizon is set
pub prune_does : (h : EngineModel) (s : State) (m : ℤ) (r : StoreModel) → StandsFor h s → IsNone h.store.working
    → h.store.horizon ≤ℤ m → PassesNone h m → StandsFor (record h { store = r }) (pruned_to m s)
    → Does (record h { store = r }) (Done Pruned None) (step s (Prune m))
prune_does h s m r st closed later passes stands =
    by_step (record h { store = r }) (Done Pruned None) (step s (Prune m)) (Done Pruned None, pruned_to m s)
    (free_step s (Prune m)
    (neither (is_some s.transaction) (passes_some m s.readers) NotInThisTransactionState ReadersAreOpen
    (open_law h s st ∙ closed) (passed_is h s m st ∙ passes))
    (ap (λ (b : Bool). fault_if b BeforeTheHorizon)
    (not_back m s.horizon (subst (λ (n : ℤ). n ≤ℤ m) st.horizon later))))
    (record { replies = refl; stands = stands })
  where
    not_back : (n g : ℤ) → g ≤ℤ n → int_lt n g ≡ false
    not_back n g l = grind (arith, ints)

-- ---- SELECT

-- the ordered rows are those of an answer
asked_table : (s : State) (q : Query) (o : Option (List Row)) (rows : List Row) → ordered q.ordering o ≡ Some rows
    → asked s q o ≡ (Table q.headings rows, s)
asked_table s q None rows e = absurd (cc)
asked_table s q (Some bag) rows e =
    ap (λ (r : List Row). (Table q.headings r, s)) (inside (in_order q.ordering bag) rows e)
  where
    inside : (xs ys : List Row) → Some xs ≡ Some ys → xs ≡ ys
    inside xs ys e = cc

none_ordered : (keys : List OrderKey) (o : Option (List Row)) → ordered keys o ≡ None → o ≡ None
none_ordered keys None e = refl
none_ordered keys (Some bag) e = absurd (cc)

-- a query that reads nothing before the store's horizon reads nothing before the model's
pub within_law : (h : EngineModel) (s : State) (q : Query) → StandsFor h s → AsksWithin h q
    → query_faults s.horizon q ≡ []
within_law h s q st e =
    ap (λ (b : Bool). fault_if b BeforeTheHorizon) (ap (λ (n : ℤ). asks_before n q) (sym st.horizon) ∙ e)

module _ (h : EngineModel) (s : State) (b : Bound) (q : Query) (o : Option (List Row)) (st : StandsFor h s)
    (does : step s b ≡ asked s q o) where
  -- the ordered rows, with the headings
  pub asked_does : (headings : List Name) (rows : List Row) → ordered q.ordering o ≡ Some rows
      → headings ≡ q.headings → Does h (Table headings rows) (step s b)
  asked_does headings rows is heads =
      by_step h (Table headings rows) (step s b) (Table q.headings rows, s) (does ∙ asked_table s q o rows is)
      (record { replies = λ i. Table (heads i) rows; stands = st })

  -- an evaluation is out of range, or an allocation is refused
  pub asked_errs : (e : r.Refusal) → Fails (ordered q.ordering o) e → Refuses h s e (step s b)
  asked_errs variant.OutOfMemory f = st
  asked_errs variant.ValueOutOfRange f =
      by_step h (Refused ValueOutOfRange) (step s b) (refused ValueOutOfRange s)
      (does ∙ ap (asked s q) (none_ordered q.ordering o f)) (refuses h s ValueOutOfRange st)
  asked_errs _ f = absurd f

-- a query is answered from the copies that queries see
pub query_asked : (h : EngineModel) (s : State) (q : Query) → StandsFor h s → AsksWithin h q
    → step s (AnswerQuery q) ≡ asked s q (answer (bag_of s) q)
query_asked h s q st within = free_step s (AnswerQuery q) refl (within_law h s q st within)

-- ---- readers

-- the limits allow it
usable : (h : EngineModel) (s : State) (b : Bound) → StandsFor h s → IsWithin h b → limit_faults s b ≡ []
usable h s b st within = faults_held h s b st ∙ within

-- a READ is answered from the copies that its reader set aside
pub read_asked : (h : EngineModel) (s : State) (n : Name) (q : Query) → StandsFor h s → IsWithin h (Read n q)
    → step s (Read n q) ≡ asked s q (answer (bag_in s.definitions (pinned_of n s.readers)) q)
read_asked h s n q st within = free_step s (Read n q) refl (usable h s (Read n q) st within)

-- the state with other readers
with_readers : (h : EngineModel) (s : State) (kept : List KeptReader) (rs : List Reader) → StandsFor h s
    → AreReaders kept (record s { readers = rs }) → StandsFor (record h { readers = kept }) (record s { readers = rs })
with_readers h s kept rs f k = record {
  fits = record {
    definitions = f.fits.definitions;
    defined = f.fits.defined;
    narrow = f.fits.narrow;
    rows = f.fits.rows;
    working = f.fits.working;
  };
  clock = f.clock;
  horizon = f.horizon;
  not_before = f.not_before;
  not_after = f.not_after;
  falls = f.falls;
  since = f.since;
  opened = f.opened;
  dated = f.dated;
  stands = f.stands;
  placed = f.placed;
  count = f.count;
  readers = k;
}

-- the moment of the last commit is the pin of a reader that is opened now
last_pin : (tables : List CatalogTable) (es : List Entry) (last : Option ℤ) → newest (copies_of tables es 0) ≡ last
    → last ≡ pin es
last_pin tables [] last e = sym e
last_pin tables (x ∷ es) last e = sym e

-- OPEN READER
pub open_does : (h : EngineModel) (s : State) (n : Name) → StandsFor h s → IsWithin h (OpenReader n)
    → Does (record h { readers = h.readers ++ record { name = n; pin = h.store.last } ∷ [] })
    (Done OpenedReader None) (step s (OpenReader n))
open_does h s n st within =
    by_step _ (Done OpenedReader None) (step s (OpenReader n)) (effect s (OpenReader n))
    (free_step s (OpenReader n) refl (usable h s (OpenReader n) st within))
    (record {
      replies = refl;
      stands = with_readers h s _ _ st (readers_opened h.readers s n h.store.last
          (last_pin h.tables s.history h.store.last (st.stands.dated 0)) st.readers);
    })

-- CLOSE READER
pub close_does : (h : EngineModel) (s : State) (n : Name) → StandsFor h s → IsWithin h (CloseReader n)
    → Does (record h { readers = filter (λ (r : KeptReader). not (same_text n r.name)) h.readers })
    (Done ClosedReader None) (step s (CloseReader n))
close_does h s n st within =
    by_step _ (Done ClosedReader None) (step s (CloseReader n)) (effect s (CloseReader n))
    (free_step s (CloseReader n) refl (usable h s (CloseReader n) st within))
    (record { replies = refl; stands = with_readers h s _ _ st (readers_closed h.readers s n st.readers) })

-- ---- changes

-- the definition of each table of the state is valid
pub defined_all : (h : EngineModel) (s : State) → StandsFor h s → AllByRecursion IsDefinition s.definitions
defined_all h s st = subst (AllByRecursion IsDefinition) (sym st.fits.definitions) st.fits.defined

-- if a moment is left
no_moment : (w : Option ℤ) (n : ℤ) → (IsNone w → n <ℤ high) → (is_none w && int_le high n) ≡ false
no_moment None n k = let below = k refl in grind (arith, ints, below)
no_moment (Some m) n k = refl

pub change_step : (h : EngineModel) (s : State) (c : Change) → StandsFor h s → (IsNone h.store.working → h.next <ℤ high)
    → change_faults s.horizon c ≡ [] → step s (ChangeRows c) ≡ changed s c
change_step h s c st below within =
    alter_step s c within
    ∙ passed (is_none s.transaction && is_clock_at_end s) (refused MomentNotAllowed s) (changed s c)
    (lacks_law h s st ∙ no_moment h.store.working h.next below)

-- ---- INSERT

-- the outcome of an INSERT on the rows that it sees
abbrev insert_outcome_of : State → CatalogTable → Insertion → Outcome
insert_outcome_of s p x =
    insert p.definition (working_now s).moment (working_rows s x.table) x.columns.items (tuples_in x)

-- it is that of the reference model
insert_made : (h : EngineModel) (s : State) (p : CatalogTable) (x : Insertion) → StandsFor h s
    → slice_get h.tables x.table ≡ Some p
    → outcome s (working_now s).moment (working_now s).copy (insertion_of x) ≡ insert_outcome_of s p x
insert_made h s p x st e =
    ap {B = Outcome} (λ d. insert d (working_now s).moment (working_rows s x.table) x.columns.items (tuples_in x))
    (definition_law h s x.table p st e)

-- it is refused for the first fault of the new rows
pub insert_refused : (h : EngineModel) (s : State) (p : CatalogTable) (x : Insertion) (f : Refusal) → StandsFor h s
    → slice_get h.tables x.table ≡ Some p → (IsNone h.store.working → h.next <ℤ high)
    → ((m : ℤ) → first (inserted p.definition x m).faults ≡ Some f)
    → Does h (Refused f) (step s (ChangeRows (insertion_of x)))
insert_refused h s p x f st e below k =
    let m : ℤ = (working_now s).moment in
    let rows = working_rows s x.table in
    by_step h (Refused f) (step s (ChangeRows (insertion_of x))) (refused f s)
    (change_step h s (insertion_of x) st below refl
    ∙ altered_refused s (insertion_of x) (insert_outcome_of s p x) f (insert_made h s p x st e)
    (insert_early p.definition m rows x.columns.items (tuples_in x))
    (ap first (insert_faults p.definition m rows x.columns.items (tuples_in x)) ∙ k m))
    (refuses h s f st)

-- without a fault, the computed change is that of the reference model
pub insert_makes : (h : EngineModel) (s : State) (p : CatalogTable) (x : Insertion) (delta : Delta) → StandsFor h s
    → slice_get h.tables x.table ≡ Some p
    → Gives p.id [] (λ m. (inserted p.definition x m).rows) (inserted p.definition x) delta
    → Changes h x.table delta variants.Inserted (insertion_of x) s
insert_makes h s p x delta st e gives =
    let m : ℤ = (working_now s).moment in
    let rows = working_rows s x.table in
    let added = delta.added.items in
    let sum = insert_outcome p.definition m rows x.columns.items (tuples_in x) (gives.sound m) in
    record {
      place = refl;
      made = insert_outcome_of s p x;
      is = insert_made h s p x st e;
      gone = λ r. false;
      judged = subst (λ is. Judged h.store delta.table (λ r. false) is) (sym gives.removed)
          (none_judged h.store delta.table);
      rows = same-list (ap (λ (o : Outcome). o.rows) sum
          ∙ ap (λ xs. rows ++ xs)
          (rows_begun p.definition m x.columns.items (tuples_in x) added (gives.added m))
          ∙ sym (only_added m added rows));
      sound = none_first (insert_outcome_of s p x).faults
          (ap first (insert_faults p.definition m rows x.columns.items (tuples_in x)) ∙ gives.sound m);
      within = refl;
      count = ap (λ (o : Outcome). o.count) sum ∙ sym (gives.count m);
      word = refl;
    }

-- ---- the newest copy

-- a table without rows
pub none_there : (defs : List TableDef) (t : ℕ) → rows_in (map (λ d. []) defs) t ≡ []
none_there [] t = refl
none_there (d ∷ defs) zero = refl
none_there (d ∷ defs) (suc t) = none_there defs t

-- ---- transactions

-- START TRANSACTION
abbrev begun_so : State → Reply × State
begun_so s = (Done Started None, record s { transaction = Some (working s None) })

abbrev start_left : State → Reply × State
start_left s = if is_clock_at_end s then refused MomentNotAllowed s else begun_so s

not_over : (n : ℤ) → n <ℤ high → int_le high n ≡ false
not_over n below = grind (arith, ints)

pub start_does : (h : EngineModel) (s : State) (r : StoreModel) → StandsFor h s → IsNone h.store.working
    → h.next <ℤ high
    → BeginCopies h.store r → r.working ≡ Some h.next → r.tables ≡ h.store.tables → r.horizon ≡ h.store.horizon
    → Does (record h { store = r }) (Done Started None) (step s Start)
start_does h s r st closed below begins is_open places horizon =
    by_step (record h { store = r }) (Done Started None) (step s Start) (begun_so s)
    (start_step s ∙ passed (is_some s.transaction) (refused NotInThisTransactionState s) (start_left s)
    (open_law h s st ∙ closed)
    ∙ passed (is_clock_at_end s) (refused MomentNotAllowed s) (begun_so s) (ap (int_le high) (sym st.clock)
    ∙ not_over h.next below))
    (record {
      replies = refl;
      stands =
          begun_law h s r st (closed_law h s st closed) below begins is_open places horizon;
    })

-- no transaction is open
closed_none : (h : EngineModel) (s : State) → StandsFor h s → is_some h.store.working ≡ false
    → is_none s.transaction ≡ true
closed_none h s st e = none_of s.transaction false (open_law h s st ∙ e)

open_some : (h : EngineModel) (s : State) → StandsFor h s → is_some h.store.working ≡ true
    → is_none s.transaction ≡ false
open_some h s st e = none_of s.transaction true (open_law h s st ∙ e)

pub commit_refused : (h : EngineModel) (s : State) → StandsFor h s → is_some h.store.working ≡ false
    → Does h (Refused NotInThisTransactionState) (step s Commit)
commit_refused h s st e =
    by_step h (Refused NotInThisTransactionState) (step s Commit) (refused NotInThisTransactionState s)
    (commit_step s ∙ chosen (is_none s.transaction) (refused NotInThisTransactionState s)
    (Done Committed None, with_commit s s.transaction) (closed_none h s st e))
    (refuses h s NotInThisTransactionState st)

-- COMMIT
pub commit_does : (h : EngineModel) (s : State) (r : StoreModel) → StandsFor h s → IsSome h.store.working
    → CommitAppends h.store r → r.working ≡ None → r.tables ≡ h.store.tables → r.horizon ≡ h.store.horizon
    → Does (record h { store = r; next = h.next +ℤ pos 1 }) (Done Committed None) (step s Commit)
commit_does h s r st is_open commits is_idle places horizon =
    let e = open_entry h s st is_open in
    by_step (record h { store = r; next = h.next +ℤ pos 1 }) (Done Committed None) (step s Commit)
    (Done Committed None, with_commit s (Some e.0))
    (commit_step s ∙ passed (is_none s.transaction) (refused NotInThisTransactionState s)
    (Done Committed None, with_commit s s.transaction) (open_some h s st is_open)
    ∙ ap {B = Reply × State} (λ o. (Done Committed None, with_commit s o)) e.1)
    (record { replies = refl; stands = ended_law h s e.0 r st e.1 commits is_idle places horizon })

pub rollback_refused : (h : EngineModel) (s : State) → StandsFor h s → is_some h.store.working ≡ false
    → Does h (Refused NotInThisTransactionState) (step s Rollback)
rollback_refused h s st e =
    by_step h (Refused NotInThisTransactionState) (step s Rollback) (refused NotInThisTransactionState s)
    (rollback_step s ∙ chosen (is_none s.transaction) (refused NotInThisTransactionState s)
    (Done RolledBack None, record s { transaction = None }) (closed_none h s st e))
    (refuses h s NotInThisTransactionState st)

-- ROLLBACK
pub rollback_does : (h : EngineModel) (s : State) (r : StoreModel) → StandsFor h s → IsSome h.store.working
    → RollbackRestores h.store r → r.working ≡ None → r.tables ≡ h.store.tables → r.horizon ≡ h.store.horizon
    → Does (record h { store = r }) (Done RolledBack None) (step s Rollback)
rollback_does h s r st is_open restores is_idle places horizon =
    let e = open_entry h s st is_open in
    by_step (record h { store = r }) (Done RolledBack None) (step s Rollback)
    (Done RolledBack None, record s { transaction = None })
    (rollback_step s ∙ passed (is_none s.transaction) (refused NotInThisTransactionState s)
    (Done RolledBack None, record s { transaction = None }) (open_some h s st is_open))
    (record { replies = refl; stands = undone_law h s e.0 r st e.1 restores is_idle places horizon })
