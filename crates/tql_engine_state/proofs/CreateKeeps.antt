-- After CREATE TABLE, an engine represents the new state.
use Rattle.std.proofs.Common.{◌≡◌, ℕ, ◌+◌, Bool, true, false, List, [], ◌∷◌, ◌++◌, map, length, refl, sym, ap, subst}
use Rattle.std.proofs.Common.{◌∙◌, arith, length-append}
use Rattle.std.specs.Prelude.{ℤ, ◌&&◌, not, nat_eq, IsTrue, IsNone, Option, None, is_some, if◌then◌else◌}
use Rattle.std.specs.List.{AllByRecursion}
use Rattle.std.proofs.lemmas.Bool.Decides.{nat_tests}
use Rattle.std.proofs.lemmas.List.{length-map, map-append}
use Rattle.tql_spec.proofs.Members.{both, by_bool}
use Rattle.tql_spec.specs.Definition.{TableDef}
use Rattle.tql_spec.specs.History.{Copy, Entry, FallingFrom}
use Rattle.tql_spec.specs.Machine.{State, with_table}
use Rattle.tql_store.specs.StoreModel.{StoreModel, has_table}
use Rattle.tql_store.specs.TableSlots.{is_kept, is_taken, place_for, slot_at}
use Rattle.tql_store.specs.Represents.{AddsTable, AddKeepsCopies}
use Rattle.tql_store.specs.declared.tables.TableSlot.{TableSlot}
use Rattle.tql_store.specs.declared.tables.TableSlot.TheVariants.{Free}
use Rattle.tql_catalog.specs.Tables.{definitions_of}
use Rattle.tql_catalog.specs.declared.catalog.Table.{Table}
use Rattle.tql_catalog.specs.Defined.{IsDefinition}
use Rattle.tql_engine_state.specs.Fitting.{CopyFits, HistoryFits, WorkingFits, IsNarrow}
use Rattle.tql_engine_state.specs.Stands.{EngineModel, StandsFor, ArePlaced, IsKept, AreSince, is_free, copies_of}
use Rattle.tql_engine_state.specs.Stands.{open_moment}
use Rattle.tql_engine_state.specs.Stands.{working_of}
use Rattle.tql_engine_state.proofs.ReadersKeep.{readers_none}
use Rattle.tql_engine_state.proofs.Standing.{closed_law}
use Rattle.tql_engine_state.proofs.Copies.{turned, rows_more, fits_length, same_copies, any_working}

-- ---- copies with one more table

abbrev copy_more : Copy → Copy
copy_more copy = copy ++ [] ∷ []

abbrev entries_more : List Entry → List Entry
entries_more es = map (λ (e : Entry). record e { copy = copy_more e.copy }) es

copy_fits : (ps : List TableDef) (p : TableDef) (copy : Copy) → CopyFits ps copy
    → CopyFits (ps ++ p ∷ []) (copy_more copy)
copy_fits [] p [] f = (tt, tt)
copy_fits [] p (rows ∷ copy) f = absurd f
copy_fits (q ∷ ps) p [] f = absurd f
copy_fits (q ∷ ps) p (rows ∷ copy) f = (f.0, copy_fits ps p copy f.1)

history_fits : (ps : List TableDef) (p : TableDef) (es : List Entry) → HistoryFits ps es
    → HistoryFits (ps ++ p ∷ []) (entries_more es)
history_fits ps p [] f = tt
history_fits ps p (e ∷ older) f = (copy_fits ps p e.copy f.0, history_fits ps p older f.1)

falls_more : (until : ℤ) (es : List Entry) → FallingFrom until es → FallingFrom until (entries_more es)
falls_more until [] f = tt
falls_more until (e ∷ older) f = (f.0, falls_more e.moment older f.1)

since_more : (m : ℤ) (es : List Entry) → AreSince m es → AreSince m (entries_more es)
since_more m [] f = tt
since_more m (e ∷ older) f = (f.0, since_more m older f.1)

copies_more : (tables : List Table) (q : Table) (es : List Entry) (id : ℕ) → HistoryFits (definitions_of tables) es
    → copies_of tables es id ≡ copies_of (tables ++ q ∷ []) (entries_more es) id
copies_more tables q [] id f = refl
copies_more tables q (e ∷ older) id f =
    let long : length e.copy ≡ length tables = fits_length (definitions_of tables) e.copy f.0
    ∙ length-map tables (λ (t : Table). t.definition) in
    λ i. record {
      moment = e.moment;
      rows = sym (rows_more tables q e.copy long id) i;
    } ∷ copies_more tables q older id f.1 i

-- ---- the id of the new table

free_more : (id : ℕ) (ps : List Table) (q : Table) → IsTrue (is_free id ps) → nat_eq q.id id ≡ false
    → IsTrue (is_free id (ps ++ q ∷ []))
free_more id [] q f e = ap (λ (b : Bool). not b && true) e
free_more id (p ∷ ps) q f e = let g =
    both (not (nat_eq p.id id)) (is_free id ps) f in ap (λ (b : Bool). b && is_free id (ps ++ q ∷ [])) g.0
    ∙ free_more id ps q g.1 e

all_more : (P : TableDef → Type 0) (ps : List TableDef) (d : TableDef) → AllByRecursion P ps → P d
    → AllByRecursion P (ps ++ d ∷ [])
all_more P [] d a k = (k, tt)
all_more P (p ∷ ps) d a k = (a.0, all_more P ps d a.1 k)

-- a filled slot is taken, and is versioned if that is required
taken_for : (b : Bool) → is_taken (place_for b) ≡ true
taken_for true = refl
taken_for false = refl

kept_for : (b : Bool) → is_kept (place_for b) ≡ b
kept_for true = refl
kept_for false = refl

module _ (old new : StoreModel) (q : Table) (a : AddsTable (is_some q.definition.system) q.id old new) where
  -- the content of the new slot
  abbrev put : TableSlot
  put = place_for (is_some q.definition.system)

  -- an existing table has another id
  pub other_number : (p : Table) → IsTrue (has_table old p.id) → nat_eq p.id q.id ≡ false
  other_number p v = by_bool (nat_eq p.id q.id)
      (λ same. absurd (never (sym (ap is_taken (ap (slot_at old.tables) (decided p.id q.id same) ∙ a.free)) ∙ v)))
      (λ other. other)
    where
      decided : (n m : ℕ) → nat_eq n m ≡ true → n ≡ m
      decided n m e = grind (arith, nat_tests)

      never : is_taken Free ≡ true → ⊥
      never e = cc

  still_kept : (p : Table) → IsKept old p → IsKept new p
  still_kept p k =
      let same : slot_at new.tables p.id ≡ slot_at old.tables p.id =
      a.takes.places p.id ∙ ap (λ (b : Bool). if b then put else slot_at old.tables p.id) (other_number p k.there) in
      record { there = ap is_taken same ∙ k.there; versioned = ap is_kept same ∙ k.versioned }

  pub new_kept : IsKept new q
  new_kept =
      let here : slot_at new.tables q.id ≡ put =
      a.takes.places q.id ∙ ap (λ (b : Bool). if b then put else slot_at old.tables q.id) (self q.id) in
      record {
        there = ap is_taken here ∙ taken_for (is_some q.definition.system);
        versioned = ap is_kept here ∙ kept_for (is_some q.definition.system);
      }
    where
      self : (n : ℕ) → nat_eq n n ≡ true
      self n = grind (arith, nat_tests)

  placed_more : (ps : List Table) → ArePlaced old ps → ArePlaced new (ps ++ q ∷ [])
  placed_more [] k = (refl, new_kept, tt)
  placed_more (p ∷ ps) k = (
    free_more p.id ps q k.0 (turned p.id q.id false (other_number p k.1.there)),
    still_kept p k.1,
    placed_more ps
        k.2,
  )

-- ---- the law

pub create_law : (h : EngineModel) (s : State) (q : Table) (r : StoreModel) → StandsFor h s → IsNone h.store.working
    → h.readers ≡ [] → IsDefinition q.definition → IsNarrow q.definition
    → AddsTable (is_some q.definition.system) q.id h.store r → AddKeepsCopies h.store r
    → StandsFor (record h { tables = h.tables ++ q ∷ []; store = r }) (with_table q.definition s)
create_law h s q r f closed unread right few a keeps =
    let none : s.transaction ≡ None = closed_law h s f closed in
    let idle : r.working ≡ None = a.working ∙ f.opened ∙ ap open_moment none in
    let d : TableDef = q.definition in
    let more : definitions_of (h.tables ++ q ∷ []) ≡ definitions_of h.tables ++ d ∷ [] =
    map-append (λ (t : Table). t.definition) h.tables (q ∷ []) in
    record {
      fits = record {
        definitions = ap (λ (ds : List TableDef). ds ++ d ∷ []) f.fits.definitions ∙ sym more;
        defined = subst (AllByRecursion IsDefinition) (sym more)
            (all_more IsDefinition (definitions_of h.tables) d f.fits.defined right);
        narrow = subst (AllByRecursion IsNarrow) (sym more)
            (all_more IsNarrow (definitions_of h.tables) d f.fits.narrow few);
        rows = subst (λ (ps : List TableDef). HistoryFits ps (entries_more s.history)) (sym more)
            (history_fits (definitions_of h.tables) d s.history f.fits.rows);
        working = subst (λ (o : Option Entry). WorkingFits (definitions_of (h.tables ++ q ∷ [])) o) (sym none) tt;
      };
      clock = f.clock;
      horizon = a.horizon ∙ f.horizon;
      not_before = f.not_before;
      not_after = f.not_after;
      falls = falls_more s.next s.history f.falls;
      since = since_more _ s.history f.since;
      opened = a.working ∙ f.opened;
      dated = f.dated;
      stands = same_copies r (copies_of h.tables s.history) (copies_of (h.tables ++ q ∷ []) (entries_more s.history))
          (working_of (h.tables ++ q ∷ []) s.transaction) (λ u. copies_more h.tables q s.history u f.fits.rows)
          (any_working r (copies_of h.tables s.history) (working_of h.tables s.transaction)
          (working_of (h.tables ++ q ∷ []) s.transaction) idle
          (keeps (copies_of h.tables s.history) (working_of h.tables s.transaction) f.stands));
      placed = placed_more h.store r q a h.tables f.placed;
      count = a.count ∙ ap (λ (n : ℕ). n + 1) f.count ∙ sym (length-append h.tables (q ∷ []));
      readers = readers_none h.readers s _ unread refl f.readers;
    }
