-- What an engine has in common with the state that it represents, and how a new engine and the clock keep that.
use Rattle.std.proofs.Common.{◌≡◌, ◌<◌, ℕ, zero, suc, true, false, List, [], ◌∷◌, length, refl, sym, ap, subst, ◌∙◌}
use Rattle.std.specs.Prelude.{ℤ, ◌≤ℤ◌, slice_get, IsTrue, IsNone, is_some, Option, Some, None}
use Rattle.std.specs.List.{AllByRecursion}
use Rattle.std.proofs.lemmas.Int.{ints}
use Rattle.std.proofs.lemmas.List.{length-map}
use Rattle.std.proofs.Common.{arith}
use Rattle.tql_spec.specs.Calendar.{first_moment, high}
use Rattle.tql_spec.specs.Definition.{TableDef, table_at}
use Rattle.tql_spec.specs.History.{Entry, FallingFrom}
use Rattle.tql_spec.specs.Machine.{State, new_state, is_not_later}
use Rattle.tql_catalog.specs.Tables.{definitions_of}
use Rattle.tql_catalog.specs.declared.catalog.Table.{Table}
use Rattle.tql_catalog.specs.Defined.{IsDefinition}
use Rattle.tql_store.specs.StoreModel.{StoreModel, is_versioned, has_table, table_count}
use Rattle.tql_store.specs.Changes.{newest}
use Rattle.tql_store.specs.Represents.{Represents}
use Rattle.tql_versions.specs.Changes.{Under}
use Rattle.tql_engine_state.specs.Effects.{not_later_than}
use Rattle.tql_engine_state.proofs.ReadersKeep.{readers_stay}
use Rattle.tql_engine_state.specs.Stands.{EngineModel, StandsFor, ArePlaced, IsKept, IsDated, copies_of, open_moment}

-- ---- a new engine

pub new_law : (r : StoreModel) → Represents r (λ t. []) (λ t. []) → r.working ≡ None → table_count r ≡ 0
    → r.horizon ≡ first_moment
    → StandsFor (record { tables = []; store = r; next = first_moment; readers = [] }) new_state
new_law r stands idle count horizon = record {
  fits = record { definitions = refl; defined = tt; narrow = tt; rows = tt; working = tt };
  clock = refl;
  horizon = horizon;
  not_before = omega (arith, ints);
  not_after = omega (arith, ints);
  falls = tt;
  since = tt;
  opened = idle;
  dated = tt;
  stands = stands;
  placed = tt;
  count = count;
  readers = record { same = refl; read = λ r i. absurd i };
}

-- ---- transactions

-- if the store has no open transaction, the reference model has none
closed_is : (o : Option Entry) (w : Option ℤ) → w ≡ open_moment o → IsNone w → o ≡ None
closed_is None w e c = refl
closed_is (Some x) w e c = absurd (let f : true ≡ false = ap is_some (sym e) ∙ c in cc)

pub closed_law : (h : EngineModel) (s : State) → StandsFor h s → IsNone h.store.working → s.transaction ≡ None
closed_law h s f c = closed_is s.transaction h.store.working f.opened c

-- a transaction is open in both or in neither
pub open_law : (h : EngineModel) (s : State) → StandsFor h s → is_some s.transaction ≡ is_some h.store.working
open_law h s f = same_test s.transaction ∙ ap is_some (sym f.opened)
  where
    same_test : (o : Option Entry) → is_some o ≡ is_some (open_moment o)
    same_test None = refl
    same_test (Some e) = refl

-- ---- the clock

last_is : (tables : List Table) (m : ℤ) (es : List Entry) (last : Option ℤ) → newest (copies_of tables es 0) ≡ last
    → is_not_later m es ≡ not_later_than m last
last_is tables m [] last e = ap (not_later_than m) e
last_is tables m (x ∷ older) last e = ap (not_later_than m) e

pub last_law : (h : EngineModel) (s : State) (m : ℤ) → StandsFor h s
    → is_not_later m s.history ≡ not_later_than m h.store.last
last_law h s m f = last_is h.tables m s.history h.store.last (f.stands.dated 0)

falls_below : (n m : ℤ) (es : List Entry) → FallingFrom n es → is_not_later m es ≡ false → FallingFrom m es
falls_below n m [] f e = tt
falls_below n m (x ∷ older) f e = (grind (arith, ints), f.1)

pub clock_law : (h : EngineModel) (s : State) (m : ℤ) → StandsFor h s → IsNone h.store.working
    → is_not_later m s.history ≡ false → first_moment ≤ℤ m → m ≤ℤ high
    → StandsFor (record h { next = m }) (record s { next = m })
clock_law h s m f closed later from until = record {
  fits = record {
    definitions = f.fits.definitions;
    defined = f.fits.defined;
    narrow = f.fits.narrow;
    rows = f.fits.rows;
    working = f.fits.working;
  };
  clock = refl;
  horizon = f.horizon;
  not_before = from;
  not_after = until;
  falls = falls_below s.next m s.history f.falls later;
  since = f.since;
  opened = f.opened;
  dated = subst (λ (o : Option Entry). IsDated m o) (sym (closed_law h s f closed)) tt;
  stands = f.stands;
  placed = f.placed;
  count = f.count;
  readers = readers_stay h.readers s _ refl refl refl f.readers;
}

under_next : (tables : List Table) (n : ℤ) (es : List Entry) (last : Option ℤ)
    → newest (copies_of tables es 0) ≡ last → FallingFrom n es → Under last n
under_next tables n [] last e f = subst (λ (o : Option ℤ). Under o n) e tt
under_next tables n (x ∷ older) last e f = subst (λ (o : Option ℤ). Under o n) e f.0

pub under_law : (h : EngineModel) (s : State) → StandsFor h s → Under h.store.last s.next
under_law h s f = under_next h.tables s.next s.history h.store.last (f.stands.dated 0) f.falls

-- ---- tables

pub some_is : {X : Type 0} (x y : X) → Some x ≡ Some y → x ≡ y
some_is x y e = cc

-- the index of a definition is that of its table
pub place_law : (ps : List Table) (t : ℕ) → t < length (definitions_of ps) → t < length ps
place_law ps t h = subst (λ n. t < n) (length-map ps (λ (t : Table). t.definition)) h

pub definition_of : (ps : List Table) (t : ℕ) (p : Table) → slice_get ps t ≡ Some p
    → table_at (definitions_of ps) t ≡ p.definition
definition_of [] t p e = cc
definition_of (q ∷ ps) zero p e = ap (λ (t : Table). t.definition) (some_is q p e)
definition_of (q ∷ ps) (suc t) p e = definition_of ps t p e

-- the table's definition
pub definition_law : (h : EngineModel) (s : State) (t : ℕ) (p : Table) → StandsFor h s → slice_get h.tables t ≡ Some p
    → table_at s.definitions t ≡ p.definition
definition_law h s t p f e = ap (λ (ds : List TableDef). table_at ds t) f.fits.definitions
    ∙ definition_of h.tables t p e

pub defined_of : (ps : List Table) (t : ℕ) (p : Table) → AllByRecursion IsDefinition (definitions_of ps)
    → slice_get ps t ≡ Some p → IsDefinition p.definition
defined_of [] t p a e = cc
defined_of (q ∷ ps) zero p a e = subst (λ (x : Table). IsDefinition x.definition) (some_is q p e) a.0
defined_of (q ∷ ps) (suc t) p a e = defined_of ps t p a.1 e

pub defined_law : (h : EngineModel) (s : State) (t : ℕ) (p : Table) → StandsFor h s → slice_get h.tables t ≡ Some p
    → IsDefinition p.definition
defined_law h s t p f e = defined_of h.tables t p f.fits.defined e

kept_of : (rows : StoreModel) (ps : List Table) (t : ℕ) (p : Table) → ArePlaced rows ps → slice_get ps t ≡ Some p
    → IsKept rows p
kept_of rows [] t p a e = cc
kept_of rows (q ∷ ps) zero p a e = subst (λ (x : Table). IsKept rows x) (some_is q p e) a.1
kept_of rows (q ∷ ps) (suc t) p a e = kept_of rows ps t p a.2 e

pub versioned_law : (h : EngineModel) (s : State) (t : ℕ) (p : Table) → StandsFor h s → slice_get h.tables t ≡ Some p
    → is_versioned h.store p.id ≡ is_some p.definition.system
versioned_law h s t p f e = (kept_of h.store h.tables t p f.placed e).versioned

pub there_law : (h : EngineModel) (s : State) (t : ℕ) (p : Table) → StandsFor h s → slice_get h.tables t ≡ Some p
    → IsTrue (has_table h.store p.id)
there_law h s t p f e = (kept_of h.store h.tables t p f.placed e).there
