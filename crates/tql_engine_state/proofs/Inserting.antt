-- INSERT, given the fault for which the new rows were refused.
use Rattle.std.proofs.Common.{◌≡◌, ℕ, [], Some, Err}
use Rattle.std.specs.Prelude.{IsNone, ◌<ℤ◌, slice_get}
use Rattle.tql_spec.specs.Calendar.{high}
use Rattle.tql_spec.specs.Machine.{State, ChangeRows, step}
use Rattle.tql_value.specs.Refusals.{refusal_of}
use Rattle.tql_value.specs.declared.refusal.Refusal.{Refusal}
use Rattle.tql_value.specs.declared.refusal.Refusal.TheVariants as r
use Rattle.tql_bound.specs.Changes.{insertion_of}
use Rattle.tql_bound.specs.declared.change.Insertion.{Insertion}
use Rattle.tql_dml.specs.Alters.{Alters, inserted}
use Rattle.tql_catalog.specs.declared.catalog.Table.{Table}
use Rattle.tql_engine_state.specs.Stands.{EngineModel, StandsFor}
use Rattle.tql_engine_state.specs.Effects.{Refuses}
use Rattle.tql_engine_state.proofs.Doing.{insert_refused}

module _ (h : EngineModel) (s : State) (p : Table) (x : Insertion) (st : StandsFor h s)
    (there : slice_get h.tables x.table ≡ Some p) (below : IsNone h.store.working → h.next <ℤ high) where
  pub insert_errs : (id : ℕ) (e : Refusal)
      → Alters id [] (λ m. (inserted p.definition x m).rows) (inserted p.definition x) (Err e)
      → Refuses h s e (step s (ChangeRows (insertion_of x)))
  insert_errs id r.OutOfMemory why = st
  insert_errs id r.StatementTooLong why = insert_refused h s p x (refusal_of r.StatementTooLong) st there below why
  insert_errs id r.NotUtf8 why = insert_refused h s p x (refusal_of r.NotUtf8) st there below why
  insert_errs id r.UnfinishedStatement why =
      insert_refused h s p x (refusal_of r.UnfinishedStatement) st there below why
  insert_errs id r.NestedTooDeep why = insert_refused h s p x (refusal_of r.NestedTooDeep) st there below why
  insert_errs id r.NotAStatement why = insert_refused h s p x (refusal_of r.NotAStatement) st there below why
  insert_errs id r.TooManyColumnsOrTables why =
      insert_refused h s p x (refusal_of r.TooManyColumnsOrTables) st there below why
  insert_errs id r.NotInThisTransactionState why =
      insert_refused h s p x (refusal_of r.NotInThisTransactionState) st there below why
  insert_errs id r.MomentNotAllowed why = insert_refused h s p x (refusal_of r.MomentNotAllowed) st there below why
  insert_errs id r.ReadersAreOpen why = insert_refused h s p x (refusal_of r.ReadersAreOpen) st there below why
  insert_errs id r.TableUnknownOrAlreadyThere why =
      insert_refused h s p x (refusal_of r.TableUnknownOrAlreadyThere) st there below why
  insert_errs id r.NameUnknownAmbiguousOrRepeated why =
      insert_refused h s p x (refusal_of r.NameUnknownAmbiguousOrRepeated) st there below why
  insert_errs id r.TypesDoNotFit why = insert_refused h s p x (refusal_of r.TypesDoNotFit) st there below why
  insert_errs id r.FormNotAllowedHere why = insert_refused h s p x (refusal_of r.FormNotAllowedHere) st there below why
  insert_errs id r.TableIsReferenced why = insert_refused h s p x (refusal_of r.TableIsReferenced) st there below why
  insert_errs id r.TooManyTablesOrReaders why =
      insert_refused h s p x (refusal_of r.TooManyTablesOrReaders) st there below why
  insert_errs id r.BeforeTheHorizon why = insert_refused h s p x (refusal_of r.BeforeTheHorizon) st there below why
  insert_errs id r.ReaderNotUsable why = insert_refused h s p x (refusal_of r.ReaderNotUsable) st there below why
  insert_errs id r.ValueOutOfRange why = insert_refused h s p x (refusal_of r.ValueOutOfRange) st there below why
  insert_errs id r.PortionNotRising why = insert_refused h s p x (refusal_of r.PortionNotRising) st there below why
  insert_errs id r.NullNotAllowed why = insert_refused h s p x (refusal_of r.NullNotAllowed) st there below why
  insert_errs id r.PeriodNotRising why = insert_refused h s p x (refusal_of r.PeriodNotRising) st there below why
  insert_errs id r.CheckFailed why = insert_refused h s p x (refusal_of r.CheckFailed) st there below why
  insert_errs id r.DuplicateKey why = insert_refused h s p x (refusal_of r.DuplicateKey) st there below why
  insert_errs id r.ReferenceNotMet why = insert_refused h s p x (refusal_of r.ReferenceNotMet) st there below why
