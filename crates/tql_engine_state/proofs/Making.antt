-- A change of one table: its test of keys and references, and its result, are those of the reference model.
use Rattle.std.proofs.Common.{◌≡◌, refl, ap, sym, subst, ◌∙◌, ℕ, zero, suc, Bool, List, [], ◌∷◌, ◌++◌, length}
use Rattle.std.proofs.Common.{filter, Option, Some, None, Result, Err, arith}
use Rattle.std.specs.Prelude.{ℤ, ◌<ℤ◌, not, IsNone, slice_get, slice_set}
use Rattle.std.specs.List.{AllByRecursion}
use Rattle.std.proofs.lemmas.List.{length-map}
use Rattle.std.proofs.lemmas.List.Elements.{All-from_recursion}
use Rattle.tql_spec.specs.Bag.{SameBag}
use Rattle.tql_spec.specs.Calendar.{high}
use Rattle.tql_spec.specs.Datum.{Row}
use Rattle.tql_spec.specs.Definition.{Stamped, TableDef}
use Rattle.tql_spec.specs.History.{Copy, Entry, rows_in}
use Rattle.tql_spec.specs.Machine.{State, Change, ChangeRows, Done, Refused, step, unless_refused}
use Rattle.tql_spec.specs.Machine.{constraint_faults}
use Rattle.tql_spec.specs.Refusal as spec
use Rattle.tql_spec.specs.Refusal.{first, fault_if, DuplicateKey, ReferenceNotMet}
use Rattle.tql_spec.specs.Run.{CopyHolds, ConstraintsHold}
use Rattle.tql_spec.proofs.Bags.{same-refl, same-sym, same-trans, same-append, same-filter}
use Rattle.tql_catalog.specs.Rows.{stored_width}
use Rattle.tql_catalog.specs.Tables.{definitions_of}
use Rattle.tql_catalog.specs.declared.catalog.Table.{Table}
use Rattle.tql_keys.specs.Checked.{IsCopyOf, TellsFirst}
use Rattle.tql_engine_state.proofs.SameFaults.{SameCopy, rows_bag, set_bag, faults_bag}
use Rattle.tql_result.specs.Replies.{plain_verb}
use Rattle.tql_result.specs.declared.reply.Verb.{Verb}
use Rattle.tql_store.specs.Changes.{rows_after}
use Rattle.tql_store.specs.Represents.{Judged}
use Rattle.tql_store.specs.StoreModel.{StoreModel}
use Rattle.tql_store.specs.declared.store.Delta.{Delta}
use Rattle.tql_value.specs.Refusals.{refusal_of}
use Rattle.tql_value.specs.declared.refusal.Refusal.{Refusal}
use Rattle.tql_value.specs.declared.refusal.Refusal.TheVariants as r
use Rattle.tql_engine_state.specs.Committing.{ChangesRows}
use Rattle.tql_engine_state.specs.Effects.{Does, Refuses}
use Rattle.tql_engine_state.specs.Fitting.{RowsFit}
use Rattle.tql_engine_state.specs.Making.{Changes}
use Rattle.tql_engine_state.specs.Stands.{EngineModel, StandsFor}
use Rattle.tql_engine_state.proofs.Added.{after_faults, altered_by}
use Rattle.tql_engine_state.proofs.Asked.{rows_fit}
use Rattle.tql_engine_state.proofs.ChangeKeeps.{working_now, working_rows, with_table_rows, AreRowsOf, begun_at}
use Rattle.tql_engine_state.proofs.ChangeKeeps.{change_law}
use Rattle.tql_engine_state.proofs.ChangeKeeps.{rows_both, rows_left, begun_fit, readers_after}
use Rattle.tql_engine_state.proofs.Copies.{fits_length}
use Rattle.tql_engine_state.proofs.Doing.{by_step, change_step, refuses}
use Rattle.tql_engine_state.proofs.Faults.{refused}
use Rattle.tql_engine_state.proofs.Holding.{newest_holds}
use Rattle.tql_engine_state.proofs.Looking.{copy_fits, current_rows, moment_dated}
use Rattle.tql_engine_state.proofs.Swapping.{rows_fit_same, swapped}

-- ---- the working copy is a copy of the store

cells_wide : (d : TableDef) (rows : List Stamped) → RowsFit d rows
    → AllByRecursion (λ (x : Stamped). length x.cells ≡ stored_width d) rows
cells_wide d [] f = tt
cells_wide d (x ∷ xs) f = (f.0.cells.width, cells_wide d xs f.1)

long_copy : (h : EngineModel) (s : State) → StandsFor h s → length (working_now s).copy ≡ length h.tables
long_copy h s st = fits_length (definitions_of h.tables) (working_now s).copy (copy_fits h s st)
    ∙ length-map h.tables (λ (p : Table). p.definition)

-- so the working copy is a copy of the store
pub copy_is : (h : EngineModel) (s : State) → StandsFor h s → IsCopyOf h.store h.tables (working_now s).copy
copy_is h s st = record {
  as_many = long_copy h s st;
  rows = λ t p e. record {
    same = current_rows h s t p st e;
    wide = All-from_recursion (λ (x : Stamped). length x.cells ≡ stored_width p.definition) (working_rows s t)
        (cells_wide p.definition (working_rows s t)
        (rows_fit h.tables t p e (working_now s).copy (copy_fits h s st)));
  };
}

-- ---- keys and references held before

no_faults : (defs : List TableDef) (copy : Copy) → CopyHolds defs copy → constraint_faults defs copy ≡ []
no_faults defs copy k =
    λ i. fault_if (not (k.keys i)) DuplicateKey ++ fault_if (not (k.references i)) ReferenceNotMet

held_by : (base : State) (defs : List TableDef) (es : List Entry) (next : ℤ) (o : Option Entry)
    → (let s : State = record base { definitions = defs; history = es; next = next; transaction = o } in
    ConstraintsHold s
    → CopyHolds defs (working_now s).copy)
held_by base defs es next None k = newest_holds defs es k
held_by base defs es next (Some e) k = k.0

pub held_before : (h : EngineModel) (s : State) → StandsFor h s → ConstraintsHold s
    → constraint_faults (definitions_of h.tables) (working_now s).copy ≡ []
held_before h s st k =
    ap (λ (ds : List TableDef). constraint_faults ds (working_now s).copy) (sym st.fits.definitions)
    ∙ no_faults s.definitions (working_now s).copy (held_by s s.definitions s.history s.next s.transaction k)

-- ---- for any state that the engine represents

each_same : (tables : List Table) (xs ys : Copy) → length xs ≡ length tables → length ys ≡ length tables
    → ((t : ℕ) (p : Table) → slice_get tables t ≡ Some p → SameBag (rows_in xs t) (rows_in ys t)) → SameCopy xs ys
each_same [] [] [] m n k = tt
each_same (p ∷ ps) (x ∷ xs) (y ∷ ys) m n k =
    (k zero p refl, each_same ps xs ys (omega (arith, m)) (omega (arith, n)) (λ t q e. k (suc t) q e))
each_same [] [] (y ∷ ys) m n k = absurd (omega (arith, n))
each_same [] (x ∷ xs) ys m n k = absurd (omega (arith, m))
each_same (p ∷ ps) [] ys m n k = absurd (omega (arith, m))
each_same (p ∷ ps) (x ∷ xs) [] m n k = absurd (omega (arith, n))

copies_agree : (h : EngineModel) (s other : State) → StandsFor h s → StandsFor h other
    → SameCopy (working_now s).copy (working_now other).copy
copies_agree h s other st to =
    each_same h.tables (working_now s).copy (working_now other).copy (long_copy h s st) (long_copy h other to)
    (λ t p e. same-trans (current_rows h s t p st e) (same-sym (current_rows h other t p to e)))

moment_by : (h : EngineModel) (base : State) (defs : List TableDef) (es : List Entry) (next : ℤ) (o : Option Entry)
    → (let s : State = record base { definitions = defs; history = es; next = next; transaction = o } in StandsFor h s
    → (working_now s).moment ≡ h.next)
moment_by h base defs es next None f = sym f.clock
moment_by h base defs es next (Some e) f = f.dated.0 ∙ sym f.clock

pub moment_is : (h : EngineModel) (s : State) → StandsFor h s → (working_now s).moment ≡ h.next
moment_is h s st = moment_by h s s.definitions s.history s.next s.transaction st

after_same : (m : ℤ) (gone : Stamped → Bool) (added : List Row) {xs ys : List Stamped} → SameBag xs ys
    → SameBag (rows_after m gone added xs) (rows_after m gone added ys)
after_same m gone added k = same-append (same-filter (λ x. not (gone x)) k) (same-refl _)

-- the faults after a change are the same for the copies of two states that the engine represents
pub faults_agree : (h : EngineModel) (own s : State) (t : ℕ) (gone : Stamped → Bool) (added : List Row)
    (rows : List Stamped) → StandsFor h own → StandsFor h s
    → SameBag rows (rows_after (working_now s).moment gone added (working_rows s t))
    → constraint_faults (definitions_of h.tables) (slice_set (working_now own).copy t
    (rows_after h.next gone added (working_rows own t))) ≡ after_faults s t rows
faults_agree h own s t gone added rows ot st bag =
    let agree : SameCopy (working_now own).copy (working_now s).copy = copies_agree h own s ot st in
    let here : SameBag (rows_after h.next gone added (working_rows own t)) rows =
    same-trans (after_same h.next gone added (rows_bag (working_now own).copy (working_now s).copy agree t))
    (subst (λ m. SameBag (rows_after m gone added (working_rows s t)) rows) (moment_is h s st) (same-sym bag)) in
    faults_bag (definitions_of h.tables) (slice_set (working_now own).copy t
    (rows_after h.next gone added (working_rows own t))) (slice_set (working_now s).copy t rows)
    (set_bag (working_now own).copy (working_now s).copy t _ rows agree here)
    ∙ ap (λ (ds : List TableDef). constraint_faults ds (slice_set (working_now s).copy t rows))
    (sym st.fits.definitions)

-- the result of a check for the copy of one state is right for that of another
pub told_for : (h : EngineModel) (own s : State) (t : ℕ) (delta : Delta) (verb : Verb) (c : Change)
    (result : Result (Unit {0}) Refusal) → StandsFor h own → StandsFor h s → (k : Changes h t delta verb c s)
    → TellsFirst (first (constraint_faults (definitions_of h.tables) (slice_set (working_now own).copy t
    (rows_after h.next k.gone delta.added.items (working_rows own t))))) result
    → TellsFirst (first (after_faults s t k.made.rows)) result
told_for h own s t delta verb c result ot st k told =
    subst (λ (fs : List spec.Refusal). TellsFirst (first fs) result)
    (faults_agree h own s t k.gone delta.added.items k.made.rows ot st k.rows) told

-- ---- the step of the reference model

module _ (h : EngineModel) (s : State) (t : ℕ) (p : Table) (delta : Delta) (verb : Verb) (c : Change)
    (st : StandsFor h s) (there : slice_get h.tables t ≡ Some p) (below : IsNone h.store.working → h.next <ℤ high)
    (k : Changes h t delta verb c s) where
  -- the moment, the rows that the change sees, and the rows that it adds
  abbrev moment : ℤ
  moment = (working_now s).moment

  abbrev rows : List Stamped
  rows = working_rows s t

  abbrev added : List Row
  added = delta.added.items

  step_is : step s (ChangeRows c) ≡ unless_refused (first (after_faults s t k.made.rows)) s
      (Done (plain_verb verb) (Some delta.count)) (with_table_rows s t k.made.rows)
  step_is =
      change_step h s c st below k.within ∙ altered_by s c k.made k.is
      ∙ (λ i. unless_refused (first (k.sound i ++ after_faults s (k.place i) k.made.rows)) s
      (Done (k.word i) (Some (k.count i))) (with_table_rows s (k.place i) k.made.rows))

  -- refused for a key or a reference
  pub refused_for : (f : spec.Refusal) → first (after_faults s t k.made.rows) ≡ Some f
      → Does h (Refused f) (step s (ChangeRows c))
  refused_for f e =
      by_step h (Refused f) (step s (ChangeRows c)) (refused f s)
      (step_is ∙ ap (λ q. unless_refused q s (Done (plain_verb verb) (Some delta.count))
      (with_table_rows s t k.made.rows)) e) (refuses h s f st)

  -- the state after it
  left : (x : StoreModel) (after : ℤ) → AreRowsOf p.definition added → delta.table ≡ p.id
      → ChangesRows h.store.working h.next after delta.table delta.removed.items added h.store x
      → StandsFor (record h { store = x; next = after }) (with_table_rows s t k.made.rows)
  left x after fit is c' =
      let old : RowsFit p.definition rows = rows_fit h.tables t p there (working_now s).copy (copy_fits h s st) in
      let judged : Judged h.store p.id k.gone delta.removed.items =
      subst (λ i. Judged h.store i k.gone delta.removed.items) is k.judged in
      let done = subst (λ i. ChangesRows h.store.working h.next after i delta.removed.items added h.store x) is c' in
      let dated = moment_dated h s st below in
      let news : RowsFit p.definition (rows_after moment k.gone added rows) =
      rows_both p.definition (filter (λ y. not (k.gone y)) rows) (begun_at moment added)
      (rows_left p.definition (λ y. not (k.gone y)) rows old)
      (begun_fit p.definition moment added dated.0 dated.1 fit) in
      swapped (record h { store = x; next = after }) t p there
      (rows_after moment k.gone added rows) k.made.rows (same-sym k.rows)
      (rows_fit_same p.definition (rows_after moment k.gone added rows) k.made.rows (same-sym k.rows) news) s
      (copy_fits h s st) (readers_after h s t k.made.rows st)
      (change_law h s t p k.gone delta.removed.items added x after st there below fit judged done)

  -- the change is applied
  pub made_so : (x : StoreModel) (after : ℤ) → first (after_faults s t k.made.rows) ≡ None
      → AreRowsOf p.definition added → delta.table ≡ p.id
      → ChangesRows h.store.working h.next after delta.table delta.removed.items added h.store x
      → Does (record h { store = x; next = after }) (Done (plain_verb verb) (Some delta.count))
      (step s (ChangeRows c))
  made_so x after none fit is c' =
      by_step (record h { store = x; next = after }) (Done (plain_verb verb) (Some delta.count))
      (step s (ChangeRows c))
      (Done (plain_verb verb) (Some delta.count), with_table_rows s t k.made.rows)
      (step_is ∙ ap (λ q. unless_refused q s (Done (plain_verb verb) (Some delta.count))
      (with_table_rows s t k.made.rows)) none)
      (record { replies = refl; stands = left x after fit is c' })

-- ---- by the result of the check

module _ (h : EngineModel) (s : State) (t : ℕ) (p : Table) (delta : Delta) (verb : Verb) (c : Change)
    (st : StandsFor h s) (there : slice_get h.tables t ≡ Some p) (below : IsNone h.store.working → h.next <ℤ high)
    (k : Changes h t delta verb c s) where
  told : (f : spec.Refusal) → first (after_faults s t k.made.rows) ≡ Some f
      → Does h (Refused f) (step s (ChangeRows c))
  told f e = refused_for h s t p delta verb c st there below k f e

  -- the first fault, or a refused allocation
  pub check_refuses : (e : Refusal) → TellsFirst {A = Unit {0}} (first (after_faults s t k.made.rows)) (Err e)
      → Refuses h s e (step s (ChangeRows c))
  check_refuses r.OutOfMemory q = st
  check_refuses r.StatementTooLong q = told (refusal_of r.StatementTooLong) q
  check_refuses r.NotUtf8 q = told (refusal_of r.NotUtf8) q
  check_refuses r.UnfinishedStatement q = told (refusal_of r.UnfinishedStatement) q
  check_refuses r.NestedTooDeep q = told (refusal_of r.NestedTooDeep) q
  check_refuses r.NotAStatement q = told (refusal_of r.NotAStatement) q
  check_refuses r.TooManyColumnsOrTables q = told (refusal_of r.TooManyColumnsOrTables) q
  check_refuses r.NotInThisTransactionState q = told (refusal_of r.NotInThisTransactionState) q
  check_refuses r.MomentNotAllowed q = told (refusal_of r.MomentNotAllowed) q
  check_refuses r.ReadersAreOpen q = told (refusal_of r.ReadersAreOpen) q
  check_refuses r.TableUnknownOrAlreadyThere q = told (refusal_of r.TableUnknownOrAlreadyThere) q
  check_refuses r.NameUnknownAmbiguousOrRepeated q = told (refusal_of r.NameUnknownAmbiguousOrRepeated) q
  check_refuses r.TypesDoNotFit q = told (refusal_of r.TypesDoNotFit) q
  check_refuses r.FormNotAllowedHere q = told (refusal_of r.FormNotAllowedHere) q
  check_refuses r.TableIsReferenced q = told (refusal_of r.TableIsReferenced) q
  check_refuses r.TooManyTablesOrReaders q = told (refusal_of r.TooManyTablesOrReaders) q
  check_refuses r.BeforeTheHorizon q = told (refusal_of r.BeforeTheHorizon) q
  check_refuses r.ReaderNotUsable q = told (refusal_of r.ReaderNotUsable) q
  check_refuses r.ValueOutOfRange q = told (refusal_of r.ValueOutOfRange) q
  check_refuses r.PortionNotRising q = told (refusal_of r.PortionNotRising) q
  check_refuses r.NullNotAllowed q = told (refusal_of r.NullNotAllowed) q
  check_refuses r.PeriodNotRising q = told (refusal_of r.PeriodNotRising) q
  check_refuses r.CheckFailed q = told (refusal_of r.CheckFailed) q
  check_refuses r.DuplicateKey q = told (refusal_of r.DuplicateKey) q
  check_refuses r.ReferenceNotMet q = told (refusal_of r.ReferenceNotMet) q
