-- A computed change of one table, and the change of the reference model that it represents.
use Rattle.std.specs.Prelude.{◌≡◌, ℕ, Bool, [], All, Some, slice_get}
use Rattle.tql_spec.specs.Bag.{SameBag}
use Rattle.tql_spec.specs.Change.{Outcome}
use Rattle.tql_spec.specs.Definition.{Stamped}
use Rattle.tql_spec.specs.History.{Entry, rows_in}
use Rattle.tql_spec.specs.Machine.{State, Change, changed_table, change_faults, outcome, verb_of, working}
use Rattle.tql_spec.specs.Typing.{IsTypedState}
use Rattle.tql_spec.specs.TypingLaws.{IsTypedChange}
use Rattle.tql_catalog.specs.Rows.{IsRowOf}
use Rattle.tql_catalog.specs.Tables.{definitions_of}
use Rattle.tql_catalog.specs.declared.catalog.Table.{Table}
use Rattle.tql_result.specs.Replies.{plain_verb}
use Rattle.tql_result.specs.declared.reply.Verb.{Verb}
use Rattle.tql_store.specs.Changes.{rows_after}
use Rattle.tql_store.specs.Represents.{Judged}
use Rattle.tql_store.specs.StoreModel.{AreRemovable}
use Rattle.tql_store.specs.declared.store.Delta.{Delta}
use Rattle.tql_engine_state.specs.Stands.{EngineModel, StandsFor}

-- the working copy that a change applies to
abbrev pub working_now : State → Entry
working_now s = working s s.transaction

-- a change of the table at an index is that of the reference model: it leaves the same rows, and no row has a fault
pub record Changes (h : EngineModel) (t : ℕ) (delta : Delta) (verb : Verb) (c : Change) (s : State) : Type 0 where
  pub place : changed_table c ≡ t
  pub made : Outcome
  pub is : outcome s (working_now s).moment (working_now s).copy c ≡ made
  pub gone : Stamped → Bool
  pub judged : Judged h.store delta.table gone delta.removed.items
  pub rows : SameBag made.rows
      (rows_after (working_now s).moment gone delta.added.items (rows_in (working_now s).copy t))
  pub sound : made.faults ≡ []
  pub within : change_faults s.horizon c ≡ []
  pub count : made.count ≡ delta.count
  pub word : verb_of c ≡ plain_verb verb

-- the removed rows are current, and the added rows fit the table
pub record FitsTable (h : EngineModel) (t : ℕ) (delta : Delta) : Type 0 where
  pub table : (p : Table) → slice_get h.tables t ≡ Some p → delta.table ≡ p.id
  pub removable : AreRemovable h.store delta.table delta.removed.items
  pub fit : (p : Table) → slice_get h.tables t ≡ Some p → All (IsRowOf p.definition) delta.added.items

-- it fits, and it is a change of the reference model in each state that the engine represents
pub record IsMade (h : EngineModel) (t : ℕ) (delta : Delta) (verb : Verb) : Type 0 where
  pub change : Change
  pub typed : IsTypedChange (definitions_of h.tables) change
  pub fits : (s : State) → StandsFor h s → IsTypedState s → FitsTable h t delta
  pub makes : (s : State) → StandsFor h s → Changes h t delta verb change s
