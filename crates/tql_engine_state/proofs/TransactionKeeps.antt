-- After START TRANSACTION, COMMIT and ROLLBACK, an engine still represents a state.
use Rattle.std.proofs.Common.{◌≡◌, List, refl, sym, ap, subst, ◌∙◌, arith}
use Rattle.std.specs.Prelude.{ℤ, pos, ◌+ℤ◌, ◌≤ℤ◌, ◌<ℤ◌, Option, Some, None}
use Rattle.std.proofs.lemmas.Int.{ints}
use Rattle.tql_spec.specs.Calendar.{first_moment, high}
use Rattle.tql_spec.specs.Definition.{TableDef}
use Rattle.tql_spec.specs.History.{Entry, FallingFrom}
use Rattle.tql_spec.specs.Machine.{State, working, committed}
use Rattle.tql_store.specs.StoreModel.{StoreModel}
use Rattle.tql_store.specs.Represents.{BeginCopies, CommitAppends, RollbackRestores}
use Rattle.tql_catalog.specs.Tables.{definitions_of}
use Rattle.tql_engine_state.specs.Stands.{EngineModel, StandsFor, copies_of, working_of}
use Rattle.tql_engine_state.proofs.Copies.{any_working, same_places}
use Rattle.tql_engine_state.proofs.ChangeKeeps.{last_fits, begun_stands, same_count}
use Rattle.tql_engine_state.proofs.ReadersKeep.{readers_stay, readers_more}

module _ (h : EngineModel) (base : State) (defs : List TableDef) (es : List Entry) (next : ℤ) (r : StoreModel)
    (places : r.tables ≡ h.store.tables) (horizon : r.horizon ≡ h.store.horizon) where
  -- the reference model, with no transaction open
  abbrev idle : State
  idle = record base { definitions = defs; history = es; next = next; transaction = None }

  -- the reference model, in a transaction
  abbrev within : Entry → State
  within e = record base { definitions = defs; history = es; next = next; transaction = Some e }

  -- START TRANSACTION
  begun : StandsFor h idle → next <ℤ high → BeginCopies h.store r → r.working ≡ Some next
      → StandsFor (record h { store = r }) (record idle { transaction = Some (working idle None) })
  begun f below begins is_open = record {
    fits = record {
      definitions = f.fits.definitions;
      defined = f.fits.defined;
      narrow = f.fits.narrow;
      rows = f.fits.rows;
      working = last_fits (definitions_of h.tables) defs es f.fits.definitions f.fits.rows;
    };
    clock = f.clock;
    horizon = horizon ∙ f.horizon;
    not_before = f.not_before;
    not_after = f.not_after;
    falls = f.falls;
    since = f.since;
    opened = is_open;
    dated = (refl, below);
    stands = begun_stands h.tables defs es h.store r begins f.stands;
    placed = same_places h.store r h.tables places f.placed;
    count = same_count h.store r _ places f.count;
    readers = readers_stay h.readers idle _ refl refl refl f.readers;
  }

  -- COMMIT
  ended : (e : Entry) → StandsFor h (within e) → CommitAppends h.store r → r.working ≡ None
      → StandsFor (record h { store = r; next = next +ℤ pos 1 }) (committed (within e) e)
  ended e f commits is_idle =
      let same : e.moment ≡ next = f.dated.0 in
      let low : first_moment ≤ℤ e.moment = subst (λ m. first_moment ≤ℤ m) (sym same) f.not_before in
      let below : e.moment <ℤ high = subst (λ m. m <ℤ high) (sym same) f.dated.1 in
      record {
        fits = record {
          definitions = f.fits.definitions;
          defined = f.fits.defined;
          narrow = f.fits.narrow;
          rows = (f.fits.working, f.fits.rows);
          working = tt;
        };
        clock = ap (λ m. m +ℤ pos 1) (sym same);
        horizon = horizon ∙ f.horizon;
        not_before = omega (arith, ints);
        not_after = omega (arith, ints);
        falls = (omega (arith, ints), subst (λ m. FallingFrom m es) (sym same) f.falls);
        since = (low, f.since);
        opened = is_idle;
        dated = tt;
        stands = any_working r _ (working_of h.tables (Some e)) (working_of h.tables None) is_idle
            (commits (copies_of h.tables es) (working_of h.tables (Some e)) e.moment f.opened f.stands);
        placed = same_places h.store r h.tables places f.placed;
        count = same_count h.store r _ places f.count;
        readers = readers_more h.readers (within e) _ e refl refl refl
            (subst (λ m. FallingFrom m es) (sym same) f.falls) f.readers;
      }

  -- ROLLBACK
  undone : (e : Entry) → StandsFor h (within e) → RollbackRestores h.store r → r.working ≡ None
      → StandsFor (record h { store = r }) idle
  undone e f restores is_idle = record {
    fits = record {
      definitions = f.fits.definitions;
      defined = f.fits.defined;
      narrow = f.fits.narrow;
      rows = f.fits.rows;
      working = tt;
    };
    clock = f.clock;
    horizon = horizon ∙ f.horizon;
    not_before = f.not_before;
    not_after = f.not_after;
    falls = f.falls;
    since = f.since;
    opened = is_idle;
    dated = tt;
    stands = any_working r (copies_of h.tables es) (working_of h.tables (Some e)) (working_of h.tables None) is_idle
        (restores (copies_of h.tables es) (working_of h.tables (Some e)) e.moment f.opened f.stands);
    placed = same_places h.store r h.tables places f.placed;
    count = same_count h.store r _ places f.count;
    readers = readers_stay h.readers (within e) _ refl refl refl f.readers;
  }

-- the state, with its transaction given
in_state : (h : EngineModel) (s : State) (o : Option Entry) → s.transaction ≡ o → StandsFor h s
    → StandsFor h (record s { transaction = o })
in_state h s o e f = subst (λ x. StandsFor h (record s { transaction = x })) e f

pub begun_law : (h : EngineModel) (s : State) (r : StoreModel) → StandsFor h s → s.transaction ≡ None → h.next <ℤ high
    → BeginCopies h.store r → r.working ≡ Some h.next → r.tables ≡ h.store.tables → r.horizon ≡ h.store.horizon
    → StandsFor (record h { store = r }) (record s { transaction = Some (working s None) })
begun_law h s r f closed below begins is_open places horizon =
    subst (λ (x : Option Entry). StandsFor (record h { store = r })
    (record s { transaction = Some (working (record s { transaction = x }) None) })) (sym closed)
    (begun h s s.definitions s.history s.next r places horizon (in_state h s None closed f)
    (subst (λ m. m <ℤ high) f.clock below) begins (is_open ∙ ap Some f.clock))

pub ended_law : (h : EngineModel) (s : State) (e : Entry) (r : StoreModel) → StandsFor h s → s.transaction ≡ Some e
    → CommitAppends h.store r → r.working ≡ None → r.tables ≡ h.store.tables → r.horizon ≡ h.store.horizon
    → StandsFor (record h { store = r; next = h.next +ℤ pos 1 }) (committed s e)
ended_law h s e r f is commits is_idle places horizon =
    subst (λ n. StandsFor (record h { store = r; next = n +ℤ pos 1 }) (committed s e)) (sym f.clock)
    (ended h s s.definitions s.history s.next r places horizon e (in_state h s (Some e) is f) commits is_idle)

pub undone_law : (h : EngineModel) (s : State) (e : Entry) (r : StoreModel) → StandsFor h s → s.transaction ≡ Some e
    → RollbackRestores h.store r → r.working ≡ None → r.tables ≡ h.store.tables → r.horizon ≡ h.store.horizon
    → StandsFor (record h { store = r }) (record s { transaction = None })
undone_law h s e r f is restores is_idle places horizon =
    undone h s s.definitions s.history s.next r places horizon e (in_state h s (Some e) is f) restores is_idle

-- the moment of an open transaction is before the end of the calendar
pub dated_below : (h : EngineModel) (s : State) (e : Entry) → StandsFor h s → s.transaction ≡ Some e → h.next <ℤ high
dated_below h s e f is = subst (λ m. m <ℤ high) (sym f.clock) (in_state h s (Some e) is f).dated.1
