-- A statement that is not refused keeps a state and the state of a point related.
use Rattle.std.proofs.Common.{◌≡◌, ◌<◌, refl, sym, ap, subst, ◌∙◌, ℕ, zero, suc, true, false, cond, List, [], ◌∷◌, ◌++◌}
use Rattle.std.proofs.Common.{map, filter, get_or, length, arith, inr}
use Rattle.std.specs.Prelude.{not, ◌&&◌, ◌==◌, nat_lt, ℤ, pos, ◌+ℤ◌, int_le, slice_set, Option, Some, None, is_some}
use Rattle.std.specs.Prelude.{is_none, Bool, ◌||◌, nat_le, int_lt, if◌then◌else◌}
use Rattle.std.specs.List.{list_all}
use Rattle.std.proofs.lemmas.Bool.Decides.{nat_tests}
use Rattle.std.proofs.lemmas.List.{length-map}
use Rattle.std.proofs.Math.ListN.{length-set}
use Rattle.tql_spec.specs.Words.{map_all, same_text}
use Rattle.tql_spec.specs.Calendar.{high}
use Rattle.tql_spec.specs.Refusal.{Refusal, NotInThisTransactionState, MomentNotAllowed, fault_if, first}
use Rattle.tql_spec.specs.Refusal.{BeforeTheHorizon}
use Rattle.tql_spec.specs.Expression.{eval}
use Rattle.tql_spec.specs.Definition.{Name, TableDef, Stamped, table_at}
use Rattle.tql_spec.specs.History.{Copy, Entry, rows_in}
use Rattle.tql_spec.specs.Horizon.{pruned}
use Rattle.tql_spec.specs.Change.{Outcome, insert, modify}
use Rattle.tql_spec.specs.Machine.{State, Reply, Done, Refused, Table, Bound, CreateTable, DropTable, SetClock, Start}
use Rattle.tql_spec.specs.Machine.{Commit, Rollback, ChangeRows, AnswerQuery, Change, InsertTuples, InsertQuery}
use Rattle.tql_spec.specs.Machine.{Modify, Prune, Prunes, StatementClass, limit_faults, query_faults}
use Rattle.tql_spec.specs.Machine.{Defines, SetsClock, Starts, Ends, Changes, Queries, class_of, state_faults}
use Rattle.tql_spec.specs.Machine.{is_not_later, is_clock_at_end, effect, step, replies, unless_refused, changed}
use Rattle.tql_spec.specs.Machine.{outcome, changed_table, constraint_faults, verb_of, working, with_working}
use Rattle.tql_spec.specs.Machine.{with_commit, committed, newest_copy, entries}
use Rattle.tql_spec.specs.Machine.{OpenReader, Read, CloseReader}
use Rattle.tql_spec.specs.Readers.{Reader, is_named, is_live, is_any_open, passes_some, reads_plain}
use Rattle.tql_spec.specs.Limits.{most_readers}
use Rattle.tql_spec.specs.Refusal.{ReadersAreOpen, ReaderNotUsable, TooManyTablesOrReaders}
use Rattle.tql_spec.proofs.FirstFaults.{none_first}
use Rattle.tql_spec.proofs.Laws.{unless_keeps, effect_keeps}
use Rattle.tql_spec.proofs.Members.{by_bool}
use Rattle.tql_spec.proofs.RunKeeps.{no_left, no_right, changed_copy}
use Rattle.tql_spec.proofs.Widths.{Sound, change_fits}
use Rattle.tql_points.specs.PointTable.{moved, point_table, point_tables}
use Rattle.tql_points.specs.PointStatement.{change_at, statement_at, columns_at, tuples_at, renumbered_work, conds_at}
use Rattle.tql_points.specs.Scope.{ArePointTables, is_change_of, is_in_scope}
use Rattle.tql_points.specs.ChangeLaw.{AllFit, IsReduced, HasSlice}
use Rattle.tql_points.specs.PointMachine.{is_refused, after_all, accepted, AllTaken}
use Rattle.tql_points.proofs.Changes.{modifications_reduce}
use Rattle.tql_points.proofs.Insertions.{insertions_reduce}
use Rattle.tql_points.proofs.Numbers.{equal}
use Rattle.tql_points.proofs.Related.{SameCopy, SameEntry, SameEntries, SameOpen, Related, point_table_at, same_entries}
use Rattle.tql_points.proofs.Readers.{names_same, any_open_same, passes_same, opened_readers, closed_readers}
use Rattle.tql_points.proofs.Related.{SameReaders, reads_plain_same}
use Rattle.tql_points.proofs.Tables.{own_sound, reduced_view}
use Rattle.tql_points.proofs.Views.{both_true}

-- ---- lists

pub got_same : {A : Type 0} (xs : List A) (i : ℕ) (v d : A) → i < length xs → get_or (slice_set xs i v) i d ≡ v
got_same [] i v d l = absurd (omega arith)
got_same (x ∷ xs) zero v d l = refl
got_same (x ∷ xs) (suc i) v d l = got_same xs i v d (omega arith)

pub got_other : {A : Type 0} (xs : List A) (i j : ℕ) (v d : A) → (i ≡ j → ⊥) → get_or (slice_set xs i v) j d
    ≡ get_or xs j d
got_other [] i j v d h = refl
got_other (x ∷ xs) zero zero v d h = absurd (h refl)
got_other (x ∷ xs) zero (suc j) v d h = refl
got_other (x ∷ xs) (suc i) zero v d h = refl
got_other (x ∷ xs) (suc i) (suc j) v d h = got_other xs i j v d (λ e. h (ap suc e))

pub none_in : (xs : List TableDef) (t : ℕ) → rows_in (map (λ d. []) xs) t ≡ []
none_in [] t = refl
none_in (x ∷ xs) zero = refl
none_in (x ∷ xs) (suc t) = none_in xs t

-- ---- refusals

-- a statement that is not refused has no fault
pub unrefused : (o : Option Refusal) (old : State) (reply : Reply) (new : State)
    → is_refused (unless_refused o old reply new).0 ≡ false → o ≡ None
unrefused None old reply new e = refl
unrefused (Some f) old reply new e = absurd (cc)

-- a statement without a fault is executed
pub done_then : (o : Option Refusal) (old : State) (reply : Reply) (new : State) → o ≡ None
    → unless_refused o old reply new ≡ (reply, new)
done_then o old reply new e = ap (λ z. unless_refused z old reply new) e

pub refusal_of : (r : Reply) → is_refused r ≡ true → (f : Refusal) × (r ≡ Refused f)
refusal_of (Refused f) e = (f, refl)
refusal_of (Done v n) e = absurd (cc)
refusal_of (Table hs rows) e = absurd (cc)

-- a refused statement changes nothing
pub refused_stays : (s : State) (b : Bound) → is_refused (step s b).0 ≡ true → (step s b).1 ≡ s
refused_stays s b e =
    let k = refusal_of (step s b).0 e in
    unless_keeps (first (limit_faults s b ++ state_faults s (class_of b))) s (effect s b).0 (effect s b).1
    (effect_keeps s b) k.0 k.1

-- a step was executed, and both states are still related
abbrev Kept : List TableDef → ℤ → Reply × State → Reply × State → Type 0
Kept defs p x y = (is_refused y.0 ≡ false) × Related defs p x.1 y.1

-- a statement and the one given to a point have the same class
pub class_same : (defs : List TableDef) (p : ℤ) (b : Bound) → class_of (statement_at defs p b) ≡ class_of b
class_same defs p (CreateTable d) = refl
class_same defs p (DropTable t) = refl
class_same defs p (SetClock m) = refl
class_same defs p Start = refl
class_same defs p Commit = refl
class_same defs p Rollback = refl
class_same defs p (ChangeRows c) = refl
class_same defs p (AnswerQuery q) = refl
class_same defs p (Prune m) = refl
class_same defs p (OpenReader n) = refl
class_same defs p (Read n q) = refl
class_same defs p (CloseReader n) = refl

-- the faults of a step before its effect: those of the horizon, the transaction and the clock
abbrev pub step_faults : State → Bound → List Refusal
step_faults s b = limit_faults s b ++ state_faults s (class_of b)

-- the faults of opening a reader among readers of these names
abbrev opening_faults : Name → List Name → List Refusal
opening_faults n names =
    fault_if (nat_le most_readers (length names)) TooManyTablesOrReaders
    ++ fault_if (is_named n names) ReaderNotUsable

-- if the constraints of a copy are satisfied, so are those of the point's copy
abbrev pub ConstraintsThen : List TableDef → ℤ → Type 0
ConstraintsThen defs p = (copy other : Copy) → SameCopy defs p copy other → constraint_faults defs copy ≡ []
    → constraint_faults (point_tables defs) other ≡ []

module _ (defs : List TableDef) (all : ArePointTables defs) (p : ℤ) (constraints : ConstraintsThen defs p) where
  -- ---- the transaction and the clock

  open_some : (a b : Option Entry) → SameOpen defs p a b → is_some b ≡ is_some a
  open_some None None h = refl
  open_some (Some e) (Some f) h = refl
  open_some None (Some f) h = absurd h
  open_some (Some e) None h = absurd h

  open_none : (a b : Option Entry) → SameOpen defs p a b → is_none b ≡ is_none a
  open_none None None h = refl
  open_none (Some e) (Some f) h = refl
  open_none None (Some f) h = absurd h
  open_none (Some e) None h = absurd h

  later_same : (m : ℤ) (es fs : List Entry) → SameEntries defs p es fs → is_not_later m fs ≡ is_not_later m es
  later_same m [] [] h = refl
  later_same m (e ∷ es) (f ∷ fs) h = ap (int_le m) h.0.moment
  later_same m [] (f ∷ fs) h = absurd h
  later_same m (e ∷ es) [] h = absurd h

  pub faults_same : (s other : State) → Related defs p s other → (m : StatementClass)
      → state_faults other m ≡ state_faults s m
  faults_same s other r Defines =
      ap (λ b. fault_if b NotInThisTransactionState ++ fault_if (is_any_open other.readers) ReadersAreOpen)
      (open_some s.transaction other.transaction r.open_then)
      ∙ ap (λ b. fault_if (is_some s.transaction) NotInThisTransactionState ++ fault_if b ReadersAreOpen)
      (any_open_same defs p s.readers other.readers r.readers)
  faults_same s other r (SetsClock None) =
      ap (λ b. fault_if b NotInThisTransactionState) (open_some s.transaction other.transaction r.open_then)
  faults_same s other r (SetsClock (Some m)) =
      ap (λ b. fault_if b NotInThisTransactionState ++ fault_if (is_not_later m other.history) MomentNotAllowed)
      (open_some s.transaction other.transaction r.open_then)
      ∙ ap (λ b. fault_if (is_some s.transaction) NotInThisTransactionState ++ fault_if b MomentNotAllowed)
      (later_same m s.history other.history r.history)
  faults_same s other r Starts =
      ap (λ b. fault_if b NotInThisTransactionState ++ fault_if (is_clock_at_end other) MomentNotAllowed)
      (open_some s.transaction other.transaction r.open_then)
      ∙ ap (λ z. fault_if (is_some s.transaction) NotInThisTransactionState ++ fault_if (int_le high z)
      MomentNotAllowed) r.clock
  faults_same s other r Ends = ap (λ b. fault_if b NotInThisTransactionState)
      (open_none s.transaction other.transaction r.open_then)
  faults_same s other r Changes =
      ap (λ b. fault_if (b && is_clock_at_end other) MomentNotAllowed)
      (open_none s.transaction other.transaction r.open_then)
      ∙ ap (λ z. fault_if (is_none s.transaction && int_le high z) MomentNotAllowed) r.clock
  faults_same s other r Queries = refl
  faults_same s other r (Prunes None) =
      ap (λ b. fault_if b NotInThisTransactionState) (open_some s.transaction other.transaction r.open_then)
  faults_same s other r (Prunes (Some m)) =
      ap (λ b. fault_if b NotInThisTransactionState ++ fault_if (passes_some m other.readers) ReadersAreOpen)
      (open_some s.transaction other.transaction r.open_then)
      ∙ ap (λ b. fault_if (is_some s.transaction) NotInThisTransactionState ++ fault_if b ReadersAreOpen)
      (passes_same defs p m s.readers other.readers r.readers)

  -- the faults of the horizon and the readers are the same
  limits_same : (s other : State) → Related defs p s other → (b : Bound)
      → limit_faults other (statement_at defs p b) ≡ limit_faults s b
  limits_same s other r (CreateTable d) = refl
  limits_same s other r (DropTable t) = refl
  limits_same s other r (SetClock m) = refl
  limits_same s other r Start = refl
  limits_same s other r Commit = refl
  limits_same s other r Rollback = refl
  limits_same s other r (ChangeRows (InsertTuples t columns tuples)) = refl
  limits_same s other r (ChangeRows (InsertQuery t columns q)) = ap (λ h. query_faults h q) r.horizon
  limits_same s other r (ChangeRows (Modify t portion work conds)) = refl
  limits_same s other r (AnswerQuery q) = ap (λ h. query_faults h q) r.horizon
  limits_same s other r (Prune m) = ap (λ h. fault_if (int_lt m h) BeforeTheHorizon) r.horizon
  limits_same s other r (OpenReader n) =
      ap (opening_faults n) (names_same defs p s.readers other.readers r.readers)
  limits_same s other r (CloseReader n) =
      ap (λ names. fault_if (not (is_named n names)) ReaderNotUsable)
      (names_same defs p s.readers other.readers r.readers)
  limits_same s other r (Read n q) =
      ap (λ names. fault_if (not (is_named n names) || reads_plain other.definitions q) ReaderNotUsable
      ++ query_faults other.horizon q) (names_same defs p s.readers other.readers r.readers)
      ∙ ap (λ h. fault_if (not (is_live n s.readers) || reads_plain other.definitions q) ReaderNotUsable
      ++ query_faults h q) r.horizon
      ∙ ap (λ ds. fault_if (not (is_live n s.readers) || reads_plain ds q) ReaderNotUsable
      ++ query_faults s.horizon q) r.definitions_then
      ∙ ap (λ b. fault_if (not (is_live n s.readers) || b) ReaderNotUsable ++ query_faults s.horizon q)
      (reads_plain_same defs q)
      ∙ ap (λ ds. fault_if (not (is_live n s.readers) || reads_plain ds q) ReaderNotUsable
      ++ query_faults s.horizon q) (sym r.definitions)

  -- all faults before the effect are the same
  pub step_faults_same : (s other : State) → Related defs p s other → (b : Bound)
      → step_faults other (statement_at defs p b) ≡ step_faults s b
  step_faults_same s other r b =
      ap (λ fs. fs ++ state_faults other (class_of (statement_at defs p b))) (limits_same s other r b)
      ∙ ap (λ fs. limit_faults s b ++ fs)
      (ap (state_faults other) (class_same defs p b) ∙ faults_same s other r (class_of b))

  -- ---- copies

  -- a table without rows
  none_held : (t : ℕ) → t < length defs → (rows others : List Stamped) → rows ≡ [] → others ≡ []
      → HasSlice defs (table_at defs t) p rows others
  none_held t l rows others e f =
      subst (λ xs. HasSlice defs (table_at defs t) p xs others) (sym e)
      (subst (λ xs. HasSlice defs (table_at defs t) p [] xs) (sym f) (record {
        table = all t l;
        fits = λ r n. absurd n;
        fit = λ r n. absurd n;
        same = record { totals = λ w. refl };
      }))

  pub empty_copies : (s other : State) → Related defs p s other
      → SameCopy defs p (map (λ d. []) s.definitions) (map (λ d. []) other.definitions)
  empty_copies s other r = record {
    as_many = length-map s.definitions _ ∙ ap length r.definitions;
    as_many_then = length-map other.definitions _ ∙ ap length r.definitions_then ∙ length-map defs _;
    each = λ t l. none_held t l (rows_in (map (λ d. []) s.definitions) t) (rows_in (map (λ d. []) other.definitions) t)
        (none_in s.definitions t) (none_in other.definitions t);
  }

  pub newest_same : (ds ds' : List TableDef) (es fs : List Entry)
      → SameCopy defs p (map (λ d. []) ds) (map (λ d. []) ds')
      → SameEntries defs p es fs → SameCopy defs p (newest_copy ds es) (newest_copy ds' fs)
  newest_same ds ds' [] [] c h = c
  newest_same ds ds' (e ∷ es) (f ∷ fs) c h = h.0.copy
  newest_same ds ds' [] (f ∷ fs) c h = absurd h
  newest_same ds ds' (e ∷ es) [] c h = absurd h

  -- a transaction that begins
  fresh_same : (s other : State) → Related defs p s other → SameEntry defs p (working s None) (working other None)
  fresh_same s other r = record {
    moment = r.clock;
    copy = newest_same s.definitions other.definitions (entries s) (entries other) (empty_copies s other r)
        (same_entries defs p s other r);
  }

  pub working_same : (s other : State) → Related defs p s other
      → SameEntry defs p (working s s.transaction) (working other other.transaction)
  working_same s other r = by_open s.transaction other.transaction r.open_then (fresh_same s other r)
    where
      by_open : (a b : Option Entry) → SameOpen defs p a b → SameEntry defs p (working s None) (working other None)
          → SameEntry defs p (working s a) (working other b)
      by_open None None h k = k
      by_open (Some e) (Some f) h k = h
      by_open None (Some f) h k = absurd h
      by_open (Some e) None h k = absurd h

  -- one table changed in both copies
  set_copies : (copy other : Copy) → SameCopy defs p copy other → (t : ℕ) → t < length defs
      → (rows others : List Stamped) → HasSlice defs (table_at defs t) p rows others
      → SameCopy defs p (slice_set copy t rows) (slice_set other t others)
  set_copies copy other h t l rows others k = record {
    as_many = length-set copy t rows ∙ h.as_many;
    as_many_then = length-set other t others ∙ h.as_many_then;
    each = λ u n. by_bool (t == u)
        (λ e. here u (equal t u e))
        (λ e. there u n (λ q. let z : true ≡ false = sym (test q) ∙ e in absurd (cc)));
  }
    where
      test : {u : ℕ} → t ≡ u → (t == u) ≡ true
      test {u} q = grind (arith, nat_tests, q)

      here : (u : ℕ) → t ≡ u → HasSlice defs (table_at defs u) p (rows_in (slice_set copy t rows) u)
          (rows_in (slice_set other t others) u)
      here u q = subst (λ v. HasSlice defs (table_at defs v) p (rows_in (slice_set copy t rows) v)
          (rows_in (slice_set other t others) v)) q
          (subst (λ xs. HasSlice defs (table_at defs t) p xs (rows_in (slice_set other t others) t))
          (sym (got_same copy t rows [] (omega (arith, l, h.as_many))))
          (subst (λ xs. HasSlice defs (table_at defs t) p rows xs)
          (sym (got_same other t others [] (omega (arith, l, h.as_many_then)))) k))

      there : (u : ℕ) → u < length defs → (t ≡ u → ⊥)
          → HasSlice defs (table_at defs u) p (rows_in (slice_set copy t rows) u) (rows_in (slice_set other t others) u)
      there u n q =
          subst (λ xs. HasSlice defs (table_at defs u) p xs (rows_in (slice_set other t others) u))
          (sym (got_other copy t u rows [] q))
          (subst (λ xs. HasSlice defs (table_at defs u) p (rows_in copy u) xs) (sym (got_other other t u others [] q))
          (h.each u n))

  -- ---- effects

  committed_same : (s other : State) → Related defs p s other → (e f : Entry) → SameEntry defs p e f
      → Related defs p (committed s e) (committed other f)
  committed_same s other r e f h = record {
    definitions = r.definitions;
    definitions_then = r.definitions_then;
    clock = ap (λ z. z +ℤ pos 1) h.moment;
    horizon = r.horizon;
    readers = r.readers;
    history = (h, r.history);
    open_then = tt;
  }

  opened_same : (s other : State) → Related defs p s other → (e f : Entry) → SameEntry defs p e f
      → Related defs p (record s { transaction = Some e }) (record other { transaction = Some f })
  opened_same s other r e f h = record {
    definitions = r.definitions;
    definitions_then = r.definitions_then;
    clock = r.clock;
    horizon = r.horizon;
    readers = r.readers;
    history = r.history;
    open_then = h;
  }

  closed_same : (s other : State) → Related defs p s other
      → Related defs p (record s { transaction = None }) (record other { transaction = None })
  closed_same s other r = record {
    definitions = r.definitions;
    definitions_then = r.definitions_then;
    clock = r.clock;
    horizon = r.horizon;
    readers = r.readers;
    history = r.history;
    open_then = tt;
  }

  -- other open readers
  with_readers : (s other : State) → Related defs p s other → (rs os : List Reader) → SameReaders defs p rs os
      → Related defs p (record s { readers = rs }) (record other { readers = os })
  with_readers s other r rs os h = record {
    definitions = r.definitions;
    definitions_then = r.definitions_then;
    clock = r.clock;
    horizon = r.horizon;
    readers = h;
    history = r.history;
    open_then = r.open_then;
  }

  -- the copies left by a horizon
  pruned_same : (h : ℤ) (es fs : List Entry) → SameEntries defs p es fs
      → SameEntries defs p (pruned h es) (pruned h fs)
  pruned_same h [] [] k = tt
  pruned_same h (e ∷ es) (f ∷ fs) k = (
    k.0,
    subst (λ b. SameEntries defs p (if int_le e.moment h then [] else pruned h es) (if b then [] else pruned h fs))
        (sym (ap (λ x. int_le x h) k.0.moment)) (either (int_le e.moment h) (pruned_same h es fs k.1)),
  )
    where
      either : (b : Bool) → SameEntries defs p (pruned h es) (pruned h fs)
          → SameEntries defs p (if b then [] else pruned h es) (if b then [] else pruned h fs)
      either true same = tt
      either false same = same
  pruned_same h [] (f ∷ fs) k = absurd k
  pruned_same h (e ∷ es) [] k = absurd k

  with_working_same : (s other : State) → Related defs p s other → (a b : Option Entry) → SameOpen defs p a b
      → (e f : Entry) → SameEntry defs p e f → Related defs p (with_working s a e) (with_working other b f)
  with_working_same s other r None None h e f k = committed_same s other r e f k
  with_working_same s other r (Some x) (Some y) h e f k = opened_same s other r e f k
  with_working_same s other r None (Some y) h e f k = absurd h
  with_working_same s other r (Some x) None h e f k = absurd h

  -- the result of a change of one table at a point, for any related copies
  abbrev pub Reduces : State → State → ℕ → Change → Change → Type 0
  Reduces s other t c c' = (copy copy' : Copy) (m m' : ℤ) → m' ≡ m → SameCopy defs p copy copy'
      → IsReduced (table_at defs t) (point_table defs (table_at defs t)) p (outcome s m copy c)
      (outcome other m' copy' c')
      × AllFit (table_at defs t) (outcome s m copy c).rows
      × AllFit (point_table defs (table_at defs t)) (outcome other m' copy' c').rows

  -- the copy after a change without a fault
  pub changed_copies : (s other : State) → Related defs p s other → (t : ℕ) → t < length defs → (c c' : Change)
      → changed_table c ≡ t → changed_table c' ≡ t → Reduces s other t c c'
      → (outcome s (working s s.transaction).moment (working s s.transaction).copy c).faults ≡ []
      → SameCopy defs p (changed_copy s c) (changed_copy other c')
  changed_copies s other r t l c c' q q' reduces sound =
      let x : Entry = working s s.transaction in
      let y : Entry = working other other.transaction in
      let w = working_same s other r in
      let o : Outcome = outcome s x.moment x.copy c in
      let o' : Outcome = outcome other y.moment y.copy c' in
      let k = reduces x.copy y.copy x.moment y.moment w.moment w.copy in
      subst (λ z. SameCopy defs p (slice_set x.copy z o.rows) (changed_copy other c')) (sym q)
      (subst (λ z. SameCopy defs p (slice_set x.copy t o.rows) (slice_set y.copy z o'.rows)) (sym q')
      (set_copies x.copy y.copy w.copy t l o.rows o'.rows (record {
        table = all t l;
        fits = k.1;
        fit = k.2;
        same = k.0.rows sound;
      })))

  -- a change that reduces to the point
  changed_by : (s other : State) → Related defs p s other → (t : ℕ) → t < length defs → (c c' : Change)
      → changed_table c ≡ t → changed_table c' ≡ t
      → Reduces s other t c c'
      → is_refused (changed s c).0 ≡ false → Kept defs p (changed s c) (changed other c')
  changed_by s other r t l c c' q q' reduces e =
      let x : Entry = working s s.transaction in
      let y : Entry = working other other.transaction in
      let w = working_same s other r in
      let o : Outcome = outcome s x.moment x.copy c in
      let o' : Outcome = outcome other y.moment y.copy c' in
      let copy : Copy = slice_set x.copy (changed_table c) o.rows in
      let copy' : Copy = slice_set y.copy (changed_table c') o'.rows in
      let k = reduces x.copy y.copy x.moment y.moment w.moment w.copy in
      let none = unrefused (first (o.faults ++ constraint_faults s.definitions copy)) s
      (Done (verb_of c) (Some o.count))
      (with_working s s.transaction (record { moment = x.moment; copy = copy })) e in
      let free = none_first (o.faults ++ constraint_faults s.definitions copy) none in
      let sound = no_left o.faults (constraint_faults s.definitions copy) free in
      let holds = no_right o.faults (constraint_faults s.definitions copy) free in
      let same : SameCopy defs p copy copy' = changed_copies s other r t l c c' q q' reduces sound in
      let held : constraint_faults other.definitions copy' ≡ [] =
      ap (λ ds. constraint_faults ds copy') r.definitions_then
      ∙ constraints copy copy' same (sym (ap (λ ds. constraint_faults ds copy) r.definitions) ∙ holds) in
      let none' : first (o'.faults ++ constraint_faults other.definitions copy') ≡ None =
      ap (λ fs. first (fs ++ constraint_faults other.definitions copy')) (k.0.taken sound) ∙ ap first held in
      subst (λ z. Kept defs p z (changed other c'))
      (sym (done_then (first (o.faults ++ constraint_faults s.definitions copy)) s (Done (verb_of c) (Some o.count))
      (with_working s s.transaction (record { moment = x.moment; copy = copy })) none))
      (subst (λ z. Kept defs p (
        Done (verb_of c) (Some o.count),
        with_working s s.transaction
            (record { moment = x.moment; copy = copy }),
      ) z)
      (sym (done_then (first (o'.faults ++ constraint_faults other.definitions copy')) other
      (Done (verb_of c') (Some o'.count))
      (with_working other other.transaction (record { moment = y.moment; copy = copy' })) none')) (
        refl,
        with_working_same s other r s.transaction other.transaction r.open_then
            (record { moment = x.moment; copy = copy }) (record { moment = y.moment; copy = copy' })
            (record { moment = w.moment; copy = same }),
      ))

  -- the table of a state at its index
  pub own_table : (s other : State) → Related defs p s other → (t : ℕ) → table_at s.definitions t ≡ table_at defs t
  own_table s other r t = ap (λ ds. table_at ds t) r.definitions

  pub their_table : (s other : State) → Related defs p s other → (t : ℕ) → t < length defs
      → table_at other.definitions t ≡ point_table defs (table_at defs t)
  their_table s other r t l = ap (λ ds. table_at ds t) r.definitions_then ∙ point_table_at defs defs t l

  -- the rows after a change fit the table
  pub own_fits : (s other : State) → Related defs p s other → (t : ℕ) → t < length defs → (c : Change) → changed_table c
      ≡ t
      → (m : ℤ) (copy : Copy) → AllFit (table_at defs t) (rows_in copy t)
      → AllFit (table_at defs t) (outcome s m copy c).rows
  own_fits s other r t l c q m copy f =
      subst (λ z. AllFit z (outcome s m copy c).rows) (ap (table_at s.definitions) q ∙ own_table s other r t)
      (change_fits s m copy c
      (subst Sound (sym (ap (table_at s.definitions) q ∙ own_table s other r t))
      (own_sound defs (table_at defs t) (all t l)))
      (subst (λ u. AllFit (table_at s.definitions u) (rows_in copy u)) (sym q)
      (subst (λ z. AllFit z (rows_in copy t)) (sym (own_table s other r t)) f)))

  their_fits : (s other : State) → Related defs p s other → (t : ℕ) → t < length defs → (c : Change) → changed_table c
      ≡ t
      → (m : ℤ) (copy : Copy) → AllFit (point_table defs (table_at defs t)) (rows_in copy t)
      → AllFit (point_table defs (table_at defs t)) (outcome other m copy c).rows
  their_fits s other r t l c q m copy f =
      subst (λ z. AllFit z (outcome other m copy c).rows)
      (ap (table_at other.definitions) q ∙ their_table s other r t l)
      (change_fits other m copy c
      (subst Sound (sym (ap (table_at other.definitions) q ∙ their_table s other r t l))
      (reduced_view defs (table_at defs t) (all t l)).sound)
      (subst (λ u. AllFit (table_at other.definitions u) (rows_in copy u)) (sym q)
      (subst (λ z. AllFit z (rows_in copy t)) (sym (their_table s other r t l)) f)))

  -- the table of a change is the same at a point
  pub same_table : (d : TableDef) (c : Change) → changed_table (change_at d p c) ≡ changed_table c
  same_table d (InsertTuples t columns tuples) = refl
  same_table d (InsertQuery t columns q) = refl
  same_table d (Modify t portion work conds) = refl

  pub change_reduces : (s other : State) → Related defs p s other → (c : Change) → changed_table c < length defs
      → is_change_of (table_at defs (changed_table c)) c ≡ true
      → Reduces s other (changed_table c) c (change_at (table_at defs (changed_table c)) p c)
  change_reduces s other r (InsertQuery t columns q) l k copy copy' m m' z h = absurd (cc)
  change_reduces s other r (InsertTuples t columns tuples) l k copy copy' m m' z h =
      let d : TableDef = table_at defs t in
      let c : Change = InsertTuples t columns tuples in
      let c' : Change = change_at d p c in (
        subst (λ x. IsReduced d (point_table defs d) p
            (insert x m (rows_in copy t) columns (map_all (map_all (eval [] [])) tuples)) (outcome other m' copy' c'))
            (sym (own_table s other r t))
            (subst (λ x. IsReduced d (point_table defs d) p
            (insert d m (rows_in copy t) columns (map_all (map_all (eval [] [])) tuples))
            (insert x m' (rows_in copy' t) (columns_at d columns)
            (map_all (map_all (eval [] [])) (tuples_at d p columns tuples)))) (sym (their_table s other r t l))
            (subst (λ x. IsReduced d (point_table defs d) p
            (insert d m (rows_in copy t) columns (map_all (map_all (eval [] [])) tuples))
            (insert (point_table defs d) x (rows_in copy' t) (columns_at d columns)
            (map_all (map_all (eval [] [])) (tuples_at d p columns tuples)))) (sym z)
            (insertions_reduce defs d p m (rows_in copy t) (rows_in copy' t) columns tuples (h.each t l) k))),
        own_fits s other r t l c refl m copy (h.each t l).fits,
        their_fits s other r t l c' refl m' copy' (h.each t l).fit,
      )
  change_reduces s other r (Modify t portion work conds) l k copy copy' m m' z h =
      let d : TableDef = table_at defs t in
      let c : Change = Modify t portion work conds in
      let c' : Change = change_at d p c in (
        subst (λ x. IsReduced d (point_table defs d) p (modify x m (rows_in copy t) portion work conds)
            (outcome other m' copy' c')) (sym (own_table s other r t))
            (subst (λ x. IsReduced d (point_table defs d) p (modify d m (rows_in copy t) portion work conds)
            (modify x m' (rows_in copy' t) None (renumbered_work (moved d) work) (conds_at d p portion conds)))
            (sym (their_table s other r t l))
            (subst (λ x. IsReduced d (point_table defs d) p (modify d m (rows_in copy t) portion work conds)
            (modify (point_table defs d) x (rows_in copy' t) None (renumbered_work (moved d) work)
            (conds_at d p portion conds))) (sym z)
            (modifications_reduce defs d p m (rows_in copy t) (rows_in copy' t) portion work conds (h.each t l) k))),
        own_fits s other r t l c refl m copy (h.each t l).fits,
        their_fits s other r t l c' refl m' copy' (h.each t l).fit,
      )

  changed_same : (s other : State) → Related defs p s other → (c : Change) → changed_table c < length defs
      → is_change_of (table_at defs (changed_table c)) c ≡ true → is_refused (changed s c).0 ≡ false
      → Kept defs p (changed s c) (changed other (change_at (table_at defs (changed_table c)) p c))
  changed_same s other r c l k e =
      changed_by s other r (changed_table c) l c (change_at (table_at defs (changed_table c)) p c) refl
      (same_table (table_at defs (changed_table c)) c) (change_reduces s other r c l k) e

  effect_same : (s other : State) → Related defs p s other → (b : Bound) → is_in_scope defs b ≡ true
      → is_refused (effect s b).0 ≡ false → Kept defs p (effect s b) (effect other (statement_at defs p b))
  effect_same s other r (CreateTable d) k e = absurd (cc)
  effect_same s other r (DropTable t) k e = absurd (cc)
  effect_same s other r (AnswerQuery q) k e = absurd (cc)
  effect_same s other r (OpenReader n) k e = (
    refl,
    with_readers s other r (s.readers ++ record { name = n; pinned = s.history } ∷ [])
        (other.readers ++ record { name = n; pinned = other.history } ∷ [])
        (opened_readers defs p (record { name = n; pinned = s.history })
        (record { name = n; pinned = other.history }) (record { name = refl; pinned = inr r.history })
        s.readers other.readers r.readers),
  )
  effect_same s other r (Read n q) k e = absurd (cc)
  effect_same s other r (CloseReader n) k e = (
    refl,
    with_readers s other r (filter (λ (x : Reader). not (same_text n x.name)) s.readers)
        (filter (λ (x : Reader). not (same_text n x.name)) other.readers)
        (closed_readers defs p n s.readers other.readers r.readers),
  )
  effect_same s other r (SetClock m) k e = (
    refl,
    record {
      definitions = r.definitions;
      definitions_then = r.definitions_then;
      clock = refl;
      horizon = r.horizon;
      readers = r.readers;
      history = r.history;
      open_then = r.open_then;
    },
  )
  effect_same s other r (Prune m) k e = (
    refl,
    record {
      definitions = r.definitions;
      definitions_then = r.definitions_then;
      clock = r.clock;
      horizon = refl;
      readers = r.readers;
      history = pruned_same m s.history other.history r.history;
      open_then = r.open_then;
    },
  )
  effect_same s other r Start k e =
      (refl, opened_same s other r (working s None) (working other None) (fresh_same s other r))
  effect_same s other r Commit k e = (refl, by_open s.transaction other.transaction r.open_then)
    where
      by_open : (a b : Option Entry) → SameOpen defs p a b → Related defs p (with_commit s a) (with_commit other b)
      by_open None None h = r
      by_open (Some x) (Some y) h = committed_same s other r x y h
      by_open None (Some y) h = absurd h
      by_open (Some x) None h = absurd h
  effect_same s other r Rollback k e = (refl, closed_same s other r)
  effect_same s other r (ChangeRows c) k e =
      let z = both_true (nat_lt (changed_table c) (length defs)) (is_change_of (table_at defs (changed_table c)) c) k in
      changed_same s other r c (below z.0) z.1 e
    where
      below : {n : ℕ} → nat_lt n (length defs) ≡ true → n < length defs
      below {n} q = grind (arith, nat_tests, q)

  pub step_same : (s other : State) → Related defs p s other → (b : Bound) → is_in_scope defs b ≡ true
      → is_refused (step s b).0 ≡ false → Kept defs p (step s b) (step other (statement_at defs p b))
  step_same s other r b k e =
      let b' : Bound = statement_at defs p b in
      let x : Reply × State = effect s b in
      let y : Reply × State = effect other b' in
      let none = unrefused (first (step_faults s b)) s x.0 x.1 e in
      let none' : first (step_faults other b') ≡ None = ap first (step_faults_same s other r b) ∙ none in
      let done = done_then (first (step_faults s b)) s x.0 x.1 none in
      let done' = done_then (first (step_faults other b')) other y.0 y.1 none' in
      subst (λ z. Kept defs p z (step other b')) (sym done)
      (subst (λ z. Kept defs p x z) (sym done')
      (effect_same s other r b k (sym (ap (λ (z : Reply × State). is_refused z.0) done) ∙ e)))

  -- ---- lists

  pub lists_same : (bs : List Bound) (s other : State) → Related defs p s other → list_all (is_in_scope defs) bs ≡ true
      → AllTaken other (map (statement_at defs p) (accepted s bs))
      × Related defs p (after_all s bs) (after_all other (map (statement_at defs p) (accepted s bs)))
  lists_same [] s other r k = (refl, r)
  lists_same (b ∷ bs) s other r k =
      let z = both_true (is_in_scope defs b) (list_all (is_in_scope defs) bs) k in
      by_bool (is_refused (step s b).0)
      (λ e. subst (λ (taken : List Bound). Goal taken)
      (sym (ap (λ c. cond c (accepted (step s b).1 bs) (b ∷ accepted (step s b).1 bs)) e))
      (lists_same bs (step s b).1 other (subst (λ x. Related defs p x other) (sym (refused_stays s b e)) r) z.1))
      (λ e. let h = step_same s other r b z.0 e in
      subst (λ (taken : List Bound). Goal taken)
      (sym (ap (λ c. cond c (accepted (step s b).1 bs) (b ∷ accepted (step s b).1 bs)) e))
      (front h.0 (lists_same bs (step s b).1 (step other (statement_at defs p b)).1 h.1 z.1)))
    where
      Goal : List Bound → Type 0
      Goal taken = AllTaken other (map (statement_at defs p) taken)
          × Related defs p (after_all (step s b).1 bs) (after_all other (map (statement_at defs p) taken))

      front : is_refused (step other (statement_at defs p b)).0 ≡ false
          → AllTaken (step other (statement_at defs p b)).1 (map (statement_at defs p) (accepted (step s b).1 bs))
          × Related defs p (after_all (step s b).1 bs)
          (after_all (step other (statement_at defs p b)).1 (map (statement_at defs p) (accepted (step s b).1 bs)))
          → Goal (b ∷ accepted (step s b).1 bs)
      front e h = (
        ap (λ c. not c && list_all (λ r. not (is_refused r))
            (replies (step other (statement_at defs p b)).1 (map (statement_at defs p) (accepted (step s b).1 bs)))) e
            ∙ h.0,
        h.1,
      )
