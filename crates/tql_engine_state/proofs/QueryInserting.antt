-- INSERT from a query, given the result for the rows of the query.
use Rattle.std.proofs.Common.{◌≡◌, refl, ap, sym, subst, ◌∙◌, ℕ, List, [], ◌++◌, Option, Some, None, Ok, Err}
use Rattle.std.proofs.Common.{inl, inr, false}
use Rattle.std.specs.Prelude.{ℤ, ◌<ℤ◌, ◌⊎◌, All, IfOk, IsNone, slice_get, Result}
use Rattle.tql_spec.specs.Bag.{SameBag}
use Rattle.tql_spec.specs.Calendar.{high}
use Rattle.tql_spec.specs.Change.{Outcome, insert}
use Rattle.tql_spec.specs.ChangeLaws.{InsertsKeepNoOrder, SameOutcome}
use Rattle.tql_spec.specs.Datum.{Row}
use Rattle.tql_spec.specs.Definition.{Stamped}
use Rattle.tql_spec.specs.Machine.{State, Refused, ChangeRows, bag_of, outcome, step}
use Rattle.tql_spec.specs.Query.{answer}
use Rattle.tql_spec.specs.Refusal as spec
use Rattle.tql_spec.specs.Refusal.{ValueOutOfRange, first}
use Rattle.tql_bound.specs.Changes.{query_insertion_of}
use Rattle.tql_bound.specs.Queries.{bound_query_of}
use Rattle.tql_bound.specs.declared.change.QueryInsertion.{QueryInsertion}
use Rattle.tql_catalog.specs.Rows.{IsRowOf}
use Rattle.tql_catalog.specs.declared.catalog.Table.{Table}
use Rattle.tql_exec_pairs.specs.Bags.{IsBag}
use Rattle.tql_expr.specs.Evaluated.{Fails}
use Rattle.tql_dml.specs.Alters.{Alters, Gives, added_rows}
use Rattle.tql_spec.proofs.Bags.{same-sym, same-trans}
use Rattle.tql_spec.proofs.FirstFaults.{none_first}
use Rattle.tql_result.specs.declared.reply.Verb.TheVariants as variants
use Rattle.tql_store.proofs.StoreLaws.{same-list}
use Rattle.tql_store.specs.Represents.{Judged}
use Rattle.tql_store.specs.declared.store.Delta.{Delta}
use Rattle.tql_value.specs.Refusals.{refusal_of}
use Rattle.tql_value.specs.declared.refusal.Refusal.{Refusal}
use Rattle.tql_value.specs.declared.refusal.Refusal.TheVariants as r
use Rattle.tql_engine_state.specs.Adding.{Added, Adds}
use Rattle.tql_engine_state.specs.Effects.{Does, Refuses}
use Rattle.tql_engine_state.specs.Making.{Changes}
use Rattle.tql_engine_state.specs.Stands.{EngineModel, StandsFor}
use Rattle.tql_engine_state.proofs.Added.{altered_refused, insert_faults, rows_begun}
use Rattle.tql_engine_state.proofs.ChangeKeeps.{begun_at, none_judged, only_added, working_now, working_rows}
use Rattle.tql_engine_state.proofs.Doing.{by_step, change_step, refuses}
use Rattle.tql_engine_state.proofs.EarlyFaults.{insert_early}
use Rattle.tql_engine_state.proofs.Faults.{refused}
use Rattle.tql_engine_state.proofs.Standing.{definition_law}
use Rattle.tql_spec.specs.Machine.{query_faults}

-- ---- the result for the rows

-- the query has no answer
pub not_answered : (s : State) (p : Table) (x : QueryInsertion) (e : Refusal)
    → Fails (answer (bag_of s) (bound_query_of x.query)) e → Adds s p x (Err e)
not_answered s p x r.OutOfMemory f = tt
not_answered s p x r.ValueOutOfRange f = inl (refl, f)
not_answered s p x _ f = absurd f

by_result : (s : State) (p : Table) (x : QueryInsertion) (result : Result Delta Refusal) → Added s p x result
    → IfOk result (λ delta. All (IsRowOf p.definition) delta.added.items) → Adds s p x result
by_result s p x (Ok delta) a fits = (a, fits)
by_result s p x (Err r.OutOfMemory) a fits = tt
by_result s p x (Err _) a fits = inr a

-- the result for the rows of the answer, in any order
pub adds_of : (s : State) (p : Table) (x : QueryInsertion) (rows : List Row) (result : Result Delta Refusal)
    → IsBag (answer (bag_of s) (bound_query_of x.query)) rows
    → Alters p.id [] (λ m. (added_rows p.definition x.columns.items (Some rows) m).rows)
    (added_rows p.definition x.columns.items (Some rows)) result
    → IfOk result (λ delta. All (IsRowOf p.definition) delta.added.items) → Adds s p x result
adds_of s p x rows result b alters fits =
    by_result s p x result (record { bag = b.bag; answered = b.is; rows = rows; same = b.same; alters = alters }) fits

-- ---- the step of the reference model

module _ (no_order : InsertsKeepNoOrder) (h : EngineModel) (s : State) (p : Table) (x : QueryInsertion)
    (st : StandsFor h s)
    (there : slice_get h.tables x.table ≡ Some p) (below : IsNone h.store.working → h.next <ℤ high)
    (within : query_faults s.horizon (bound_query_of x.query) ≡ []) where
  -- the moment, the rows of the table, and the columns that are filled
  abbrev moment : ℤ
  moment = (working_now s).moment

  abbrev rows : List Stamped
  rows = working_rows s x.table

  abbrev columns : List ℕ
  columns = x.columns.items

  -- the answer to the query
  abbrev answers : Option (List Row)
  answers = answer (bag_of s) (bound_query_of x.query)

  -- the outcome of the reference model for any answer
  abbrev pub outcome_of : Option (List Row) → Outcome
  outcome_of o = insert p.definition moment rows columns o

  -- it is the outcome of the statement
  insert_made : (o : Option (List Row)) → answers ≡ o
      → outcome s moment (working_now s).copy (query_insertion_of x) ≡ outcome_of o
  insert_made o e =
      ap {B = Outcome} (λ d. insert d moment rows columns answers) (definition_law h s x.table p st there)
      ∙ ap {B = Outcome} outcome_of e

  refused_as : (o : Option (List Row)) → answers ≡ o → (f : spec.Refusal) → first (outcome_of o).faults ≡ Some f
      → Does h (Refused f) (step s (ChangeRows (query_insertion_of x)))
  refused_as o e f k =
      by_step h (Refused f) (step s (ChangeRows (query_insertion_of x))) (refused f s)
      (change_step h s (query_insertion_of x) st below within
      ∙ altered_refused s (query_insertion_of x) (outcome_of o) f (insert_made o e)
      (insert_early p.definition moment rows columns o) k) (refuses h s f st)

  -- refused, since the query is out of range
  out_of_range : answers ≡ None → Does h (Refused ValueOutOfRange) (step s (ChangeRows (query_insertion_of x)))
  out_of_range e = refused_as None e ValueOutOfRange refl

  module _ (bag got : List Row) (answered : answers ≡ Some bag) (same : SameBag got bag) where
    same_made : SameOutcome (outcome_of (Some got)) (outcome_of (Some bag))
    same_made = no_order p.definition moment rows columns got bag same

    -- refused for the first fault
    row_refused : (f : spec.Refusal)
        → ((m : ℤ) → first (added_rows p.definition columns (Some got) m).faults ≡ Some f)
        → Does h (Refused f) (step s (ChangeRows (query_insertion_of x)))
    row_refused f k =
        refused_as (Some bag) answered f
        (sym same_made.fault ∙ ap first (insert_faults p.definition moment rows columns (Some got)) ∙ k moment)

    -- without a fault, the computed change is that of the reference model
    pub query_makes : (delta : Delta)
        → Gives p.id [] (λ m. (added_rows p.definition columns (Some got) m).rows)
        (added_rows p.definition columns (Some got)) delta
        → Changes h x.table delta variants.Inserted (query_insertion_of x) s
    query_makes delta gives =
        let added = delta.added.items in
        let made : (outcome_of (Some got)).rows ≡ rows ++ begun_at moment added =
        ap (λ xs. rows ++ xs) (rows_begun p.definition moment columns (Some got) added (gives.added moment)) in
        record {
          place = refl;
          made = outcome_of (Some bag);
          is = insert_made (Some bag) answered;
          gone = λ r. false;
          judged = subst (λ is. Judged h.store delta.table (λ r. false) is) (sym gives.removed)
              (none_judged h.store delta.table);
          rows = same-trans (same-sym same_made.rows)
              (same-list (made ∙ sym (only_added moment added rows)));
          sound = none_first (outcome_of (Some bag)).faults
              (sym same_made.fault ∙ ap first (insert_faults p.definition moment rows columns (Some got))
              ∙ gives.sound moment);
          within = within;
          count = sym same_made.count ∙ sym (gives.count moment);
          word = refl;
        }

  -- ---- whatever the reason for the refusal

  either : (f : spec.Refusal) (e : Refusal) → refusal_of e ≡ f
      → ((e ≡ r.ValueOutOfRange) × (answers ≡ None)) ⊎ Added s p x (Err e)
      → ((a : Added s p x (Err e)) → (m : ℤ) → first (added_rows p.definition columns (Some a.rows) m).faults ≡ Some f)
      → Does h (Refused f) (step s (ChangeRows (query_insertion_of x)))
  either f e same (inl k) told =
      subst (λ g. Does h (Refused g) (step s (ChangeRows (query_insertion_of x)))) (ap refusal_of (sym k.0)
      ∙ same) (out_of_range k.1)
  either f e same (inr a) told = row_refused a.bag a.rows a.answered a.same f (told a)

  pub query_errs : (e : Refusal) → Adds s p x (Err e) → Refuses h s e (step s (ChangeRows (query_insertion_of x)))
  query_errs r.OutOfMemory k = st
  query_errs r.StatementTooLong k = either (refusal_of r.StatementTooLong) r.StatementTooLong refl k (λ a. a.alters)
  query_errs r.NotUtf8 k = either (refusal_of r.NotUtf8) r.NotUtf8 refl k (λ a. a.alters)
  query_errs r.UnfinishedStatement k =
      either (refusal_of r.UnfinishedStatement) r.UnfinishedStatement refl k (λ a. a.alters)
  query_errs r.NestedTooDeep k = either (refusal_of r.NestedTooDeep) r.NestedTooDeep refl k (λ a. a.alters)
  query_errs r.NotAStatement k = either (refusal_of r.NotAStatement) r.NotAStatement refl k (λ a. a.alters)
  query_errs r.TooManyColumnsOrTables k =
      either (refusal_of r.TooManyColumnsOrTables) r.TooManyColumnsOrTables refl k (λ a. a.alters)
  query_errs r.NotInThisTransactionState k =
      either (refusal_of r.NotInThisTransactionState) r.NotInThisTransactionState refl k (λ a. a.alters)
  query_errs r.MomentNotAllowed k = either (refusal_of r.MomentNotAllowed) r.MomentNotAllowed refl k (λ a. a.alters)
  query_errs r.ReadersAreOpen k = either (refusal_of r.ReadersAreOpen) r.ReadersAreOpen refl k (λ a. a.alters)
  query_errs r.TableUnknownOrAlreadyThere k =
      either (refusal_of r.TableUnknownOrAlreadyThere) r.TableUnknownOrAlreadyThere refl k (λ a. a.alters)
  query_errs r.NameUnknownAmbiguousOrRepeated k =
      either (refusal_of r.NameUnknownAmbiguousOrRepeated) r.NameUnknownAmbiguousOrRepeated refl k (λ a. a.alters)
  query_errs r.TypesDoNotFit k = either (refusal_of r.TypesDoNotFit) r.TypesDoNotFit refl k (λ a. a.alters)
  query_errs r.FormNotAllowedHere k =
      either (refusal_of r.FormNotAllowedHere) r.FormNotAllowedHere refl k (λ a. a.alters)
  query_errs r.TableIsReferenced k = either (refusal_of r.TableIsReferenced) r.TableIsReferenced refl k (λ a. a.alters)
  query_errs r.TooManyTablesOrReaders k =
      either (refusal_of r.TooManyTablesOrReaders) r.TooManyTablesOrReaders refl k (λ a. a.alters)
  query_errs r.BeforeTheHorizon k = either (refusal_of r.BeforeTheHorizon) r.BeforeTheHorizon refl k (λ a. a.alters)
  query_errs r.ReaderNotUsable k = either (refusal_of r.ReaderNotUsable) r.ReaderNotUsable refl k (λ a. a.alters)
  query_errs r.ValueOutOfRange k = either (refusal_of r.ValueOutOfRange) r.ValueOutOfRange refl k (λ a. a.alters)
  query_errs r.PortionNotRising k = either (refusal_of r.PortionNotRising) r.PortionNotRising refl k (λ a. a.alters)
  query_errs r.NullNotAllowed k = either (refusal_of r.NullNotAllowed) r.NullNotAllowed refl k (λ a. a.alters)
  query_errs r.PeriodNotRising k = either (refusal_of r.PeriodNotRising) r.PeriodNotRising refl k (λ a. a.alters)
  query_errs r.CheckFailed k = either (refusal_of r.CheckFailed) r.CheckFailed refl k (λ a. a.alters)
  query_errs r.DuplicateKey k = either (refusal_of r.DuplicateKey) r.DuplicateKey refl k (λ a. a.alters)
  query_errs r.ReferenceNotMet k = either (refusal_of r.ReferenceNotMet) r.ReferenceNotMet refl k (λ a. a.alters)
