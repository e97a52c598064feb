-- After PRUNE HISTORY, an engine still represents a state.
use Rattle.std.proofs.Common.{◌≡◌, ◌∙◌, Bool, true, false, List, [], ◌∷◌, ap, refl, sym, subst, ℕ}
use Rattle.std.specs.Prelude.{ℤ, ◌≤ℤ◌, int_le, if◌then◌else◌, IsNone, Option}
use Rattle.tql_spec.specs.History.{Entry, TableEntry}
use Rattle.tql_spec.specs.Horizon.{pruned}
use Rattle.tql_spec.specs.Definition.{TableDef}
use Rattle.tql_spec.specs.Machine.{State}
use Rattle.tql_spec.proofs.InOrder.{falls_pruned}
use Rattle.tql_catalog.specs.Tables.{definitions_of}
use Rattle.tql_catalog.specs.declared.catalog.Table.{Table}
use Rattle.tql_store.specs.Kept.{forgotten}
use Rattle.tql_store.specs.Represents.{PrunesCopies, copies_left}
use Rattle.tql_store.specs.StoreModel.{StoreModel}
use Rattle.tql_engine_state.specs.Allowed.{PassesNone}
use Rattle.tql_engine_state.specs.Fitting.{HistoryFits}
use Rattle.tql_engine_state.specs.Stands.{EngineModel, StandsFor, AreSince, copies_of, rows_of_id, working_of}
use Rattle.tql_engine_state.proofs.ChangeKeeps.{same_count}
use Rattle.tql_engine_state.proofs.Copies.{same_copies, same_places}
use Rattle.tql_engine_state.proofs.Faults.{pruned_to}
use Rattle.tql_engine_state.proofs.ReadersKeep.{readers_pruned}

-- the copies that pruning leaves, by table id
copies_pruned : (tables : List Table) (m : ℤ) (es : List Entry) (id : ℕ)
    → forgotten m (copies_of tables es id) ≡ copies_of tables (pruned m es) id
copies_pruned tables m [] id = refl
copies_pruned tables m (e ∷ es) id =
    ap {B = List TableEntry} (λ xs. record { moment = e.moment; rows = rows_of_id tables e.copy id } ∷ xs)
    (either (int_le e.moment m) (copies_pruned tables m es id))
  where
    either : (b : Bool) → forgotten m (copies_of tables es id) ≡ copies_of tables (pruned m es) id
        → (if b then [] else forgotten m (copies_of tables es id)) ≡ copies_of tables (if b then [] else pruned m es) id
    either true k = refl
    either false k = k

-- their rows fit the tables
fits_pruned : (ds : List TableDef) (m : ℤ) (es : List Entry) → HistoryFits ds es → HistoryFits ds (pruned m es)
fits_pruned ds m [] f = tt
fits_pruned ds m (e ∷ es) f = (f.0, either (int_le e.moment m) (fits_pruned ds m es f.1))
  where
    either : (b : Bool) → HistoryFits ds (pruned m es) → HistoryFits ds (if b then [] else pruned m es)
    either true k = tt
    either false k = k

-- none of them is older than the first moment
since_pruned : (n m : ℤ) (es : List Entry) → AreSince n es → AreSince n (pruned m es)
since_pruned n m [] f = tt
since_pruned n m (e ∷ es) f = (f.0, either (int_le e.moment m) (since_pruned n m es f.1))
  where
    either : (b : Bool) → AreSince n (pruned m es) → AreSince n (if b then [] else pruned m es)
    either true k = tt
    either false k = k

-- the law
pub prune_law : (h : EngineModel) (s : State) (m : ℤ) (r : StoreModel) → StandsFor h s → h.store.horizon ≤ℤ m
    → PassesNone h m → PrunesCopies m h.store r
    → r.working ≡ h.store.working → r.tables ≡ h.store.tables → r.horizon ≡ m
    → StandsFor (record h { store = r }) (pruned_to m s)
prune_law h s m r f later passes copies same_working places horizon = record {
  fits = record {
    definitions = f.fits.definitions;
    defined = f.fits.defined;
    narrow = f.fits.narrow;
    rows = fits_pruned (definitions_of h.tables) m s.history f.fits.rows;
    working = f.fits.working;
  };
  clock = f.clock;
  horizon = horizon;
  not_before = f.not_before;
  not_after = f.not_after;
  falls = falls_pruned m s.next s.history f.falls;
  since = since_pruned _ m s.history f.since;
  opened = same_working ∙ f.opened;
  dated = f.dated;
  stands = same_copies r (copies_left m (copies_of h.tables s.history)) (copies_of h.tables (pruned m s.history))
      (working_of h.tables s.transaction) (copies_pruned h.tables m s.history)
      (copies (copies_of h.tables s.history) (working_of h.tables s.transaction) f.stands);
  placed = same_places h.store r h.tables places f.placed;
  count = same_count h.store r _ places f.count;
  readers = readers_pruned s m (subst (λ (n : ℤ). n ≤ℤ m) f.horizon later) s.next f.not_after f.falls h.readers passes
      f.readers;
}
