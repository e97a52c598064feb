-- The state of an engine, and the state of the reference model that it represents.
use Rattle.std.specs.Prelude.{◌≡◌, refl, ◌≤ℤ◌, ◌<ℤ◌, ℕ, Bool, not, List, [], ◌∷◌, map, length, nat_eq, IsTrue, ℤ}
use Rattle.std.specs.Prelude.{Option, Some, None, is_some, if◌then◌else◌}
use Rattle.std.specs.List.{list_all}
use Rattle.std.specs.Coded.{Coded, code_by, coded×, coded_ℤ}
use Rattle.tql_spec.specs.Calendar.{first_moment, high}
use Rattle.tql_spec.specs.Definition.{Stamped}
use Rattle.tql_spec.specs.History.{Copy, Entry, FallingFrom}
use Rattle.tql_spec.specs.Machine.{State}
use Rattle.tql_spec.specs.Run.{ConstraintsHold}
use Rattle.tql_spec.specs.Typing.{IsTypedState}
use Rattle.tql_catalog.specs.Tables.{definitions_of, tables_code}
use Rattle.tql_catalog.specs.declared.catalog.Table.{Table}
use Rattle.tql_store.specs.StoreModel.{StoreModel, has_table, is_versioned, table_count}
use Rattle.tql_store.specs.Represents.{Copies, Represents}
use Rattle.tql_engine_state.specs.Fitting.{StateFits}
use Rattle.tql_engine_state.specs.Readers.{KeptReader, AreReaders, readers_code}

-- the state of an engine: its tables and its open readers, both in the order of their creation, the store of the
-- tables' rows, and the moment of the next transaction
pub record EngineModel : Type 0 where
  pub tables : List Table
  pub store : StoreModel
  pub next : ℤ
  pub readers : List KeptReader

-- how the logic encodes it, given the encoding of the store
abbrev pub held_code : Coded StoreModel → Coded EngineModel
held_code store =
    code_by (List Table × (StoreModel × (ℤ × List KeptReader)))
    (coded× tables_code (coded× store (coded× coded_ℤ readers_code)))
    (λ h. (h.tables, (h.store, (h.next, h.readers))))
    (λ p. record { tables = p.0; store = p.1.0; next = p.1.1.0; readers = p.1.1.1 }) (λ _. refl)

-- the rows of the table with an id in a copy; none if no table has the id
abbrev pub rows_of_id : List Table → Copy → ℕ → List Stamped
rows_of_id [] copy id = []
rows_of_id (p ∷ ps) [] id = []
rows_of_id (p ∷ ps) (rows ∷ copy) id = if nat_eq p.id id then rows else rows_of_id ps copy id

-- the copies of the history, by table id
abbrev pub copies_of : List Table → List Entry → Copies
copies_of tables history id = map (λ (e : Entry). record {
  moment = e.moment;
  rows = rows_of_id tables e.copy id;
}) history

-- no table has this id
abbrev pub is_free : ℕ → List Table → Bool
is_free id tables = list_all (λ (p : Table). not (nat_eq p.id id)) tables

-- the table is in the store, and is versioned exactly if it has a system period
pub record IsKept (rows : StoreModel) (p : Table) : Type 0 where
  pub there : IsTrue (has_table rows p.id)
  pub versioned : is_versioned rows p.id ≡ is_some p.definition.system

-- each table is in the store, and has an id of its own
abbrev pub ArePlaced : StoreModel → List Table → Type 0
ArePlaced rows [] = Unit {0}
ArePlaced rows (p ∷ ps) = IsTrue (is_free p.id ps) × IsKept rows p × ArePlaced rows ps

-- no copy is older than the first moment
abbrev pub AreSince : ℤ → List Entry → Type 0
AreSince m [] = Unit {0}
AreSince m (e ∷ older) = (m ≤ℤ e.moment) × AreSince m older

-- the working copy of an open transaction, by table id; no rows without one
abbrev pub working_of : List Table → Option Entry → ℕ → List Stamped
working_of tables None id = []
working_of tables (Some e) id = rows_of_id tables e.copy id

-- the moment of an open transaction
abbrev pub open_moment : Option Entry → Option ℤ
open_moment None = None
open_moment (Some e) = Some e.moment

-- an open transaction has the clock's moment, which is before the end of the calendar
abbrev pub IsDated : ℤ → Option Entry → Type 0
IsDated next None = Unit {0}
IsDated next (Some e) = (e.moment ≡ next) × (next <ℤ high)

-- the engine represents a state of the reference model
pub record StandsFor (h : EngineModel) (s : State) : Type 0 where
  pub fits : StateFits (definitions_of h.tables) s
  pub clock : h.next ≡ s.next
  pub horizon : h.store.horizon ≡ s.horizon
  pub not_before : first_moment ≤ℤ s.next
  pub not_after : s.next ≤ℤ high
  pub falls : FallingFrom s.next s.history
  pub since : AreSince first_moment s.history
  pub opened : h.store.working ≡ open_moment s.transaction
  pub dated : IsDated s.next s.transaction
  pub stands : Represents h.store (copies_of h.tables s.history) (working_of h.tables s.transaction)
  pub placed : ArePlaced h.store h.tables
  pub count : table_count h.store ≡ length h.tables
  pub readers : AreReaders h.readers s

-- the invariant of every engine: it represents some state of the reference model. In each copy of that, also the
-- working one, keys and references hold, and values have the types of their columns. So the ends of an application
-- period are points of its type
pub record IsSound (h : EngineModel) : Type 0 where
  pub state : State
  pub stands : StandsFor h state
  pub typed : IsTypedState state
  pub holds : ConstraintsHold state
