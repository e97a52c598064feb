-- What a store shows of the copies that queries see: all tables now, and the versioned tables at a pin.
use Rattle.std.specs.Prelude.{◌≡◌, ℕ, IsTrue, IsFalse, List, [], ◌∷◌, Some, slice_get, is_some}
use Rattle.std.specs.List.{AllByRecursion}
use Rattle.tql_spec.specs.Bag.{In}
use Rattle.tql_spec.specs.Definition.{TableDef}
use Rattle.tql_spec.specs.History.{Entry, table_history}
use Rattle.tql_spec.specs.Horizon.{asks_before, refs}
use Rattle.tql_spec.specs.Machine.{State, entries}
use Rattle.tql_spec.specs.Query.{Query, Ref}
use Rattle.tql_spec.specs.Typing.{IsTypedState}
use Rattle.tql_catalog.specs.Defined.{IsDefinition}
use Rattle.tql_catalog.specs.Tables.{definitions_of}
use Rattle.tql_catalog.specs.declared.catalog.Table.{Table}
use Rattle.tql_plan.specs.Meaning.{table_number_at}
use Rattle.tql_store.specs.Represents.{Copies, Working, Represents, seen_by}
use Rattle.tql_store.specs.StoreModel.{StoreModel, has_table, is_versioned}
use Rattle.tql_value.specs.Points.{IsMoment}
use Rattle.tql_engine_state.specs.Fitting.{CopyFits}

-- copies that fit the tables, committed at moments of the calendar
abbrev pub EntriesFit : List TableDef → List Entry → Type 0
EntriesFit ps [] = Unit {0}
EntriesFit ps (e ∷ older) = CopyFits ps e.copy × (IsMoment e.moment × EntriesFit ps older)

-- the state has these tables, and the copies that queries see fit them
pub record FitsTables (tables : List Table) (s : State) : Type 0 where
  pub definitions : s.definitions ≡ definitions_of tables
  pub defined : AllByRecursion IsDefinition (definitions_of tables)
  pub copies : EntriesFit (definitions_of tables) (entries s)

-- the store represents the copies of each table that it shows
pub record Shows (tables : List Table) (r : StoreModel) (s : State) : Type 0 where
  pub fits : FitsTables tables s
  pub copies : Copies
  pub working : Working
  pub stands : Represents r copies working
  pub seen : (t : ℕ) (p : Table) → slice_get tables t ≡ Some p → IsTrue (has_table r p.id)
      → seen_by r.working copies working p.id ≡ table_history t (entries s)
  pub versioned : (t : ℕ) (p : Table) → slice_get tables t ≡ Some p → IsTrue (has_table r p.id)
      → is_versioned r p.id ≡ is_some p.definition.system

-- the store shows each table of a query, for some state whose values have the types of their columns; the query reads
-- nothing before the horizon
pub record CanAnswer (tables : List Table) (r : StoreModel) (q : Query) : Type 0 where
  pub state : State
  pub shows : Shows tables r state
  pub typed : IsTypedState state
  pub there : (k : Ref) → In k (refs q) → IsTrue (has_table r (table_number_at tables k.table))
  pub within : IsFalse (asks_before r.horizon q)
