-- UPDATE and DELETE, given the result for the current versions of the table.
use Rattle.std.proofs.Common.{◌≡◌, ◌<◌, refl, ap, sym, subst, ◌∙◌, arith, ℕ, Bool, true, false, List, [], ◌∷◌, ◌++◌}
use Rattle.std.proofs.Common.{map, length, Option, Some, None, Ok, Err}
use Rattle.std.specs.Prelude.{ℤ, ◌<ℤ◌, ◌&&◌, IsNone, slice_get, Result}
use Rattle.tql_spec.proofs.Bags.{same-sym}
use Rattle.tql_spec.proofs.FirstFaults.{none_first}
use Rattle.tql_spec.proofs.Members.{both}
use Rattle.tql_spec.specs.Calendar.{high}
use Rattle.tql_spec.specs.Change as change
use Rattle.tql_spec.specs.Change.{Fate, Outcome, fate, modify}
use Rattle.tql_spec.specs.ChangeLaws.{SameOutcome, ChangesKeepNoOrder, ChangesByParts}
use Rattle.tql_spec.specs.Datum.{Row}
use Rattle.tql_spec.specs.Definition.{Stamped, Version, shown}
use Rattle.tql_spec.specs.Expression.{SafeConditionsAreJudged}
use Rattle.tql_spec.specs.Machine.{State, Refused, ChangeRows, step, verb_of_work}
use Rattle.tql_spec.specs.Machine.{outcome as machine_outcome}
use Rattle.tql_spec.specs.Refusal as spec
use Rattle.tql_spec.specs.Refusal.{first}
use Rattle.tql_spec.specs.Words.{map_all}
use Rattle.tql_bound.specs.Changes.{modification_of}
use Rattle.tql_bound.specs.Works.{work_of}
use Rattle.tql_bound.specs.declared.change.Modification.{Modification}
use Rattle.tql_catalog.specs.declared.catalog.Table.{Table}
use Rattle.tql_dml.specs.Alters.{Gives, gone, fates, coming, modified, portion_in, conds_in}
use Rattle.tql_dml.specs.Alters as dml
use Rattle.tql_dml.proofs.Modified.{touches, rows_made}
use Rattle.tql_plan_access.specs.Access.{ServesChange}
use Rattle.tql_plan_access.proofs.Untouched.{SameNews, news_count, news_faults, same_news, unseen_of}
use Rattle.tql_result.specs.Replies.{plain_verb}
use Rattle.tql_result.specs.declared.reply.Verb.{Verb}
use Rattle.tql_store.specs.StoreModel.{StoreModel, AreRemovable}
use Rattle.tql_store.specs.Represents.{Judged}
use Rattle.tql_store.specs.declared.store.Delta.{Delta}
use Rattle.tql_store.proofs.Judging.{judged_among, removable_among}
use Rattle.tql_versions.specs.Changes.{alive, is_current}
use Rattle.tql_versions.specs.Readings.{version_shown as version_of}
use Rattle.tql_versions.specs.declared.version.Version as code
use Rattle.tql_value.specs.Refusals.{refusal_of}
use Rattle.tql_value.specs.declared.refusal.Refusal.{Refusal}
use Rattle.tql_value.specs.declared.refusal.Refusal.TheVariants as r
use Rattle.tql_engine_state.specs.Making.{Changes}
use Rattle.tql_engine_state.specs.Effects.{Does, Refuses}
use Rattle.tql_engine_state.specs.Modifying.{AreShown, Made, Makes}
use Rattle.tql_engine_state.specs.Stands.{EngineModel, StandsFor}
use Rattle.tql_engine_state.proofs.ChangeKeeps.{working_now, working_rows}
use Rattle.tql_engine_state.proofs.Added.{altered_refused}
use Rattle.tql_engine_state.proofs.EarlyFaults.{modify_early}
use Rattle.tql_engine_state.proofs.Faults.{refused}
use Rattle.tql_engine_state.proofs.Looking.{IsSeen, all_rows, rest_passed, version_untouched}
use Rattle.tql_engine_state.proofs.Standing.{definition_law}
use Rattle.tql_engine_state.proofs.Doing.{by_step, refuses, change_step}

-- ---- the step of the reference model

-- the same rows are added
same_coming : (o q : Option (List Fate)) → SameNews o q → coming o ≡ coming q
same_coming None None h = refl
same_coming None (Some gs) h = absurd h
same_coming (Some fs) None h = absurd h
same_coming (Some fs) (Some gs) h = h.0

module _ (law : SafeConditionsAreJudged) (no_order : ChangesKeepNoOrder) (by_parts : ChangesByParts) (h : EngineModel)
    (s : State) (p : Table) (x : Modification) (st : StandsFor h s) (there : slice_get h.tables x.table ≡ Some p)
    (below : IsNone h.store.working → h.next <ℤ high) where
  -- the moment, and the rows that the change sees
  abbrev moment : ℤ
  moment = (working_now s).moment

  abbrev rows : List Stamped
  rows = working_rows s x.table

  abbrev work : change.Work
  work = work_of x.terms x.work

  abbrev outcome : Outcome
  outcome = modify p.definition moment rows (portion_in x) work (conds_in x)

  -- the outcome is that of the reference model
  modify_made : machine_outcome s moment (working_now s).copy (modification_of x) ≡ outcome
  modify_made = ap {B = Outcome} (λ d. modify d moment rows (portion_in x) work (conds_in x))
      (definition_law h s x.table p st there)

  -- the outcome for the versions that were read
  module _ (looks : Row → Bool) (serves : ServesChange p.definition (portion_in x) (conds_in x) looks)
      (are_shown : AreShown h.store p) (seen : List code.Version) (answers : IsSeen h p looks seen) where
    -- their rows, and the rows that were not read
    abbrev all : List Stamped
    all = dml.rows_in seen ++ unseen_of looks rows

    abbrev fates_of : List Stamped → Option (List Fate)
    fates_of rs = map_all (λ r. fate p.definition moment (portion_in x) work (conds_in x) (shown p.definition r)) rs

    abbrev whole : Outcome
    whole = modify p.definition moment all (portion_in x) work (conds_in x)

    news : SameNews (fates_of (dml.rows_in seen)) (fates_of all)
    news = same_news law p.definition (portion_in x) (conds_in x) looks serves moment work (dml.rows_in seen)
        (unseen_of looks rows) (rest_passed h s x.table p looks st there are_shown)

    same : SameOutcome whole outcome
    same = no_order p.definition moment all rows (portion_in x) work (conds_in x)
        (all_rows h s x.table p looks seen st there answers)

    faults_are : (modified p.definition seen x moment).faults ≡ whole.faults
    faults_are = news_faults p.definition (dml.rows_in seen) all (fates_of (dml.rows_in seen)) (fates_of all) news

    count_is : (modified p.definition seen x moment).count ≡ outcome.count
    count_is =
        news_count p.definition (dml.rows_in seen) all (fates_of (dml.rows_in seen)) (fates_of all) news ∙ same.count

    fault_is : first (modified p.definition seen x moment).faults ≡ first outcome.faults
    fault_is = ap first faults_are ∙ same.fault

    -- refused for the first fault
    pub modify_refused : (f : spec.Refusal) → ((m : ℤ) → first (modified p.definition seen x m).faults ≡ Some f)
        → Does h (Refused f) (step s (ChangeRows (modification_of x)))
    modify_refused f k =
        by_step h (Refused f) (step s (ChangeRows (modification_of x))) (refused f s)
        (change_step h s (modification_of x) st below refl
        ∙ altered_refused s (modification_of x) outcome f modify_made
        (modify_early p.definition moment rows (portion_in x) work (conds_in x)) (sym fault_is ∙ k moment))
        (refuses h s f st)

    -- without a fault, the computed change is that of the reference model
    pub modify_makes : (delta : Delta) (verb : Verb)
        → verb_of_work work ≡ plain_verb verb
        → Judged h.store delta.table (touches p.definition (portion_in x) (conds_in x)) delta.removed.items
        → Gives p.id (gone p.definition x seen) (λ m. coming (fates p.definition seen x m))
        (modified p.definition seen x) delta
        → Changes h x.table delta verb (modification_of x) s
    modify_makes delta verb word judged gives = record {
      place = refl;
      made = outcome;
      is = modify_made;
      gone = touches p.definition (portion_in x) (conds_in x);
      judged = judged;
      rows = same-sym (rows_made no_order by_parts p.definition moment (portion_in x) work (conds_in x)
          all rows delta.added.items (all_rows h s x.table p looks seen st there answers)
          (ap first (sym faults_are) ∙ gives.sound moment)
          (ap (map (λ (r : Stamped). r.cells)) (sym (same_coming (fates_of (dml.rows_in seen)) (fates_of all) news))
          ∙ gives.added moment));
      sound = none_first outcome.faults (sym fault_is ∙ gives.sound moment);
      within = refl;
      count = sym count_is ∙ sym (gives.count moment);
      word = word;
    }

  -- refused for a fault of a row that was read
  modify_told : {result : Result Delta Refusal} (k : Made h.store p x result) (f : spec.Refusal)
      → ((m : ℤ) → first (modified p.definition k.seen x m).faults ≡ Some f)
      → Does h (Refused f) (step s (ChangeRows (modification_of x)))
  modify_told k f e = modify_refused k.looks k.serves k.shown k.seen k.found.copies f e

  -- whatever the reason for the refusal
  pub modify_errs : (e : Refusal) → Makes h.store p x (Err e) → Refuses h s e (step s (ChangeRows (modification_of x)))
  modify_errs r.OutOfMemory k = st
  modify_errs r.StatementTooLong k = modify_told k (refusal_of r.StatementTooLong) k.alters
  modify_errs r.NotUtf8 k = modify_told k (refusal_of r.NotUtf8) k.alters
  modify_errs r.UnfinishedStatement k = modify_told k (refusal_of r.UnfinishedStatement) k.alters
  modify_errs r.NestedTooDeep k = modify_told k (refusal_of r.NestedTooDeep) k.alters
  modify_errs r.NotAStatement k = modify_told k (refusal_of r.NotAStatement) k.alters
  modify_errs r.TooManyColumnsOrTables k = modify_told k (refusal_of r.TooManyColumnsOrTables) k.alters
  modify_errs r.NotInThisTransactionState k = modify_told k (refusal_of r.NotInThisTransactionState) k.alters
  modify_errs r.MomentNotAllowed k = modify_told k (refusal_of r.MomentNotAllowed) k.alters
  modify_errs r.ReadersAreOpen k = modify_told k (refusal_of r.ReadersAreOpen) k.alters
  modify_errs r.TableUnknownOrAlreadyThere k = modify_told k (refusal_of r.TableUnknownOrAlreadyThere) k.alters
  modify_errs r.NameUnknownAmbiguousOrRepeated k = modify_told k (refusal_of r.NameUnknownAmbiguousOrRepeated) k.alters
  modify_errs r.TypesDoNotFit k = modify_told k (refusal_of r.TypesDoNotFit) k.alters
  modify_errs r.FormNotAllowedHere k = modify_told k (refusal_of r.FormNotAllowedHere) k.alters
  modify_errs r.TableIsReferenced k = modify_told k (refusal_of r.TableIsReferenced) k.alters
  modify_errs r.TooManyTablesOrReaders k = modify_told k (refusal_of r.TooManyTablesOrReaders) k.alters
  modify_errs r.BeforeTheHorizon k = modify_told k (refusal_of r.BeforeTheHorizon) k.alters
  modify_errs r.ReaderNotUsable k = modify_told k (refusal_of r.ReaderNotUsable) k.alters
  modify_errs r.ValueOutOfRange k = modify_told k (refusal_of r.ValueOutOfRange) k.alters
  modify_errs r.PortionNotRising k = modify_told k (refusal_of r.PortionNotRising) k.alters
  modify_errs r.NullNotAllowed k = modify_told k (refusal_of r.NullNotAllowed) k.alters
  modify_errs r.PeriodNotRising k = modify_told k (refusal_of r.PeriodNotRising) k.alters
  modify_errs r.CheckFailed k = modify_told k (refusal_of r.CheckFailed) k.alters
  modify_errs r.DuplicateKey k = modify_told k (refusal_of r.DuplicateKey) k.alters
  modify_errs r.ReferenceNotMet k = modify_told k (refusal_of r.ReferenceNotMet) k.alters

-- ---- by its result

pub makes_of : (h : StoreModel) (p : Table) (x : Modification) (result : Result Delta Refusal) → Made h p x result
    → Makes h p x result
makes_of h p x (Ok delta) k = k
makes_of h p x (Err r.OutOfMemory) k = tt
makes_of h p x (Err _) k = k

-- the table at an index within the list
pub table_there : (ps : List Table) (t : ℕ) → t < length ps → (p : Table) × (slice_get ps t ≡ Some p)
table_there [] t l = absurd (omega (arith, l))
table_there (q ∷ ps) ℕ.zero l = (q, refl)
table_there (q ∷ ps) (ℕ.suc t) l = table_there ps t (omega (arith, l))

-- the ids of the removed versions are ids of current ones
pub gone_removable : (h : StoreModel) (p : Table) (x : Modification) (delta : Delta) → Made h p x (Ok delta)
    → AreRemovable h p.id delta.removed.items
gone_removable h p x delta k =
    subst (AreRemovable h p.id) (sym k.alters.removed)
    (removable_among h p.id (λ (v : Version). is_current v && k.looks v.row.cells)
    (λ v e. (both (is_current v) (k.looks v.row.cells) e).0)
    (λ (v : code.Version). touches p.definition (portion_in x) (conds_in x) (version_of v).row)
    k.seen k.found.ids k.found.once)

-- they are all affected versions, since a version that is not selected is not affected
pub gone_judged : SafeConditionsAreJudged → (h : EngineModel) (s : State) (p : Table) (x : Modification) (delta : Delta)
    → StandsFor h s → slice_get h.tables x.table ≡ Some p → Made h.store p x (Ok delta)
    → Judged h.store p.id (touches p.definition (portion_in x) (conds_in x)) delta.removed.items
gone_judged law h s p x delta st e k =
    subst (Judged h.store p.id (touches p.definition (portion_in x) (conds_in x))) (sym k.alters.removed)
    (judged_among h.store p.id (touches p.definition (portion_in x) (conds_in x))
    (λ (v : Version). is_current v && k.looks v.row.cells) k.seen k.found.ids k.found.once
    (λ i v at. agree (alive v) (is_current v) (k.looks v.row.cells)
    (touches p.definition (portion_in x) (conds_in x) v.row)
    (version_untouched law h s p x k.looks k.serves k.shown st e i v at)))
  where
    agree : (a c l g : Bool) → ((a && c) ≡ true → l ≡ false → g ≡ false) → (a && ((c && l) && g)) ≡ (a && (c && g))
    agree true true true g h = refl
    agree true true false g h = sym (h refl refl)
    agree true false l g h = refl
    agree false c l g h = refl
