-- After DROP TABLE, an engine represents the new state.
use Rattle.std.proofs.Common.{◌≡◌, ℕ, zero, suc, ◌+◌, ◌<◌, Bool, true, false, List, [], ◌∷◌, map, length, refl, sym}
use Rattle.std.proofs.Common.{ap, subst, ◌∙◌, arith}
use Rattle.std.specs.Prelude.{ℤ, ◌&&◌, not, nat_eq, remove, slice_get, IsTrue, IsNone, Option, None, Some}
use Rattle.std.specs.Prelude.{if◌then◌else◌}
use Rattle.std.specs.List.{AllByRecursion}
use Rattle.std.proofs.lemmas.Bool.Decides.{nat_tests}
use Rattle.std.proofs.lemmas.List.{length-map}
use Rattle.std.proofs.lemmas.List.Edits.{length-remove}
use Rattle.tql_spec.proofs.Members.{both, by_bool}
use Rattle.tql_spec.specs.Definition.{TableDef, Stamped}
use Rattle.tql_spec.specs.History.{Copy, Entry, FallingFrom}
use Rattle.tql_spec.specs.Machine.{State, without_table}
use Rattle.tql_store.specs.StoreModel.{StoreModel, table_count}
use Rattle.tql_store.specs.TableSlots.{is_kept, is_taken, slot_at}
use Rattle.tql_store.specs.Changes.{emptied}
use Rattle.tql_store.specs.Represents.{Takes, DropEmpties, copies_without}
use Rattle.tql_store.specs.declared.tables.TableSlot.TheVariants.{Free}
use Rattle.tql_catalog.specs.Tables.{definitions_of}
use Rattle.tql_catalog.specs.declared.catalog.Table.{Table}
use Rattle.tql_catalog.specs.Defined.{IsDefinition}
use Rattle.tql_engine_state.specs.Fitting.{CopyFits, HistoryFits, WorkingFits, IsNarrow}
use Rattle.tql_engine_state.specs.Stands.{EngineModel, StandsFor, ArePlaced, IsKept, AreSince, is_free, rows_of_id}
use Rattle.tql_engine_state.specs.Stands.{copies_of}
use Rattle.tql_engine_state.specs.Stands.{open_moment, working_of}
use Rattle.tql_engine_state.proofs.ReadersKeep.{readers_none}
use Rattle.tql_engine_state.proofs.Standing.{closed_law, some_is}
use Rattle.tql_engine_state.proofs.Copies.{chosen, passed, turned, apart, not_true, fits_length, same_copies}
use Rattle.tql_engine_state.proofs.Copies.{any_working}

-- ---- copies with one table less

abbrev entries_less : ℕ → List Entry → List Entry
entries_less t es = map (λ (e : Entry). record e { copy = remove e.copy t }) es

copy_fits : (ds : List TableDef) (t : ℕ) (copy : Copy) → CopyFits ds copy → CopyFits (remove ds t) (remove copy t)
copy_fits [] zero [] f = tt
copy_fits [] (suc t) [] f = tt
copy_fits [] t (rows ∷ copy) f = absurd f
copy_fits (d ∷ ds) t [] f = absurd f
copy_fits (d ∷ ds) zero (rows ∷ copy) f = f.1
copy_fits (d ∷ ds) (suc t) (rows ∷ copy) f = (f.0, copy_fits ds t copy f.1)

history_fits : (ds : List TableDef) (t : ℕ) (es : List Entry) → HistoryFits ds es
    → HistoryFits (remove ds t) (entries_less t es)
history_fits ds t [] f = tt
history_fits ds t (e ∷ older) f = (copy_fits ds t e.copy f.0, history_fits ds t older f.1)

falls_less : (t : ℕ) (until : ℤ) (es : List Entry) → FallingFrom until es → FallingFrom until (entries_less t es)
falls_less t until [] f = tt
falls_less t until (e ∷ older) f = (f.0, falls_less t e.moment older f.1)

since_less : (t : ℕ) (m : ℤ) (es : List Entry) → AreSince m es → AreSince m (entries_less t es)
since_less t m [] f = tt
since_less t m (e ∷ older) f = (f.0, since_less t m older f.1)

-- in a list without a table of this id, no rows are found
nobody : (ps : List Table) (id : ℕ) → IsTrue (is_free id ps) → (copy : Copy) → rows_of_id ps copy id ≡ []
nobody [] id f copy = refl
nobody (p ∷ ps) id f [] = refl
nobody (p ∷ ps) id f (rows ∷ copy) =
    let g = both (not (nat_eq p.id id)) (is_free id ps) f in
    passed (nat_eq p.id id) rows (rows_of_id ps copy id) (not_true (nat_eq p.id id) g.0) ∙ nobody ps id g.1 copy

decided : (n m : ℕ) → nat_eq n m ≡ true → n ≡ m
decided n m e = grind (arith, nat_tests)

differs : (n m k : ℕ) → nat_eq n m ≡ true → nat_eq k n ≡ false → nat_eq m k ≡ false
differs n m k e f = grind (arith, nat_tests)

-- the rows by table id, in a copy without the rows of one table
rows_less : (h : StoreModel) (ps : List Table) (t : ℕ) (p : Table) → ArePlaced h ps → slice_get ps t ≡ Some p
    → (copy : Copy) → length copy ≡ length ps → (id : ℕ)
    → rows_of_id (remove ps t) (remove copy t) id ≡ (if nat_eq id p.id then [] else rows_of_id ps copy id)
rows_less h [] t p a e copy k id = cc
rows_less h (q ∷ ps) t p a e [] k id = cc
rows_less h (q ∷ ps) zero p a e (old ∷ copy) k id =
    let same : q ≡ p = some_is q p e in
    by_bool (nat_eq q.id id)
    (λ b. subst (λ (n : ℕ). rows_of_id ps copy n ≡ []) (decided q.id id b) (nobody ps q.id a.0 copy)
    ∙ sym (chosen (nat_eq id p.id) [] (rows_of_id (q ∷ ps) (old ∷ copy) id)
    (ap (λ (x : Table). nat_eq id x.id) (sym same) ∙ turned q.id id true b)))
    (λ b. sym (passed (nat_eq q.id id) old (rows_of_id ps copy id) b)
    ∙ sym (passed (nat_eq id p.id) [] (rows_of_id (q ∷ ps) (old ∷ copy) id)
    (ap (λ (x : Table). nat_eq id x.id) (sym same) ∙ turned q.id id false b)))
rows_less h (q ∷ ps) (suc t) p a e (old ∷ copy) k id =
    let later : rows_of_id (remove ps t) (remove copy t) id ≡ (if nat_eq id p.id then [] else rows_of_id ps copy id)
    = rows_less h ps t p a.2 e copy (cc) id in
    let other : nat_eq p.id q.id ≡ false = apart q.id ps t p a.0 e in
    by_bool (nat_eq q.id id)
    (λ b. chosen (nat_eq q.id id) old (rows_of_id (remove ps t) (remove copy t) id) b
    ∙ sym (chosen (nat_eq q.id id) old (rows_of_id ps copy id) b)
    ∙ sym (passed (nat_eq id p.id) [] (rows_of_id (q ∷ ps) (old ∷ copy) id) (differs q.id id p.id b other)))
    (λ b. passed (nat_eq q.id id) old (rows_of_id (remove ps t) (remove copy t) id) b ∙ later
    ∙ ap (λ (xs : List Stamped). if nat_eq id p.id then [] else xs)
    (sym (passed (nat_eq q.id id) old (rows_of_id ps copy id) b)))

-- the definitions of the remaining tables
definitions_less : (ps : List Table) (t : ℕ) → definitions_of (remove ps t) ≡ remove (definitions_of ps) t
definitions_less [] zero = refl
definitions_less [] (suc t) = refl
definitions_less (p ∷ ps) zero = refl
definitions_less (p ∷ ps) (suc t) = ap (λ (ds : List TableDef). p.definition ∷ ds) (definitions_less ps t)

all_less : (P : TableDef → Type 0) (ds : List TableDef) (t : ℕ) → AllByRecursion P ds → AllByRecursion P (remove ds t)
all_less P [] zero a = tt
all_less P [] (suc t) a = tt
all_less P (d ∷ ds) zero a = a.1
all_less P (d ∷ ds) (suc t) a = (a.0, all_less P ds t a.1)

free_less : (id : ℕ) (ps : List Table) (t : ℕ) → IsTrue (is_free id ps) → IsTrue (is_free id (remove ps t))
free_less id [] zero f = f
free_less id [] (suc t) f = f
free_less id (p ∷ ps) zero f = (both (not (nat_eq p.id id)) (is_free id ps) f).1
free_less id (p ∷ ps) (suc t) f =
    let g = both (not (nat_eq p.id id)) (is_free id ps) f in
    ap (λ (b : Bool). b && is_free id (remove ps t)) g.0 ∙ free_less id ps t g.1

within : (ps : List Table) (t : ℕ) (p : Table) → slice_get ps t ≡ Some p → t < length ps
within [] t p e = cc
within (q ∷ ps) zero p e = omega arith
within (q ∷ ps) (suc t) p e = let l = within ps t p e in omega (arith, l)

-- ---- a table that the store frees

module _ (old new : StoreModel) (q : Table) (places : Takes q.id Free old.tables new.tables) where
  -- a table with another id stays
  still_kept : (p : Table) → nat_eq p.id q.id ≡ false → IsKept old p → IsKept new p
  still_kept p other k =
      let same : slot_at new.tables p.id ≡ slot_at old.tables p.id =
      places.places p.id ∙ passed (nat_eq p.id q.id) Free (slot_at old.tables p.id) other in
      record { there = ap is_taken same ∙ k.there; versioned = ap is_kept same ∙ k.versioned }

  placed_rest : (ps : List Table) → IsTrue (is_free q.id ps) → ArePlaced old ps → ArePlaced new ps
  placed_rest [] f a = tt
  placed_rest (p ∷ ps) f a =
      let g = both (not (nat_eq p.id q.id)) (is_free q.id ps) f in
      (a.0, still_kept p (not_true (nat_eq p.id q.id) g.0) a.1, placed_rest ps g.1 a.2)

  placed_less : (ps : List Table) (t : ℕ) → ArePlaced old ps → slice_get ps t ≡ Some q → ArePlaced new (remove ps t)
  placed_less [] t a e = cc
  placed_less (p ∷ ps) zero a e =
      placed_rest ps (subst (λ (x : Table). IsTrue (is_free x.id ps)) (some_is p q e) a.0) a.2
  placed_less (p ∷ ps) (suc t) a e = (
    free_less p.id ps t a.0,
    still_kept p (turned q.id p.id false (apart p.id ps t q a.0 e)) a.1,
    placed_less ps t
        a.2 e,
  )

-- the copies of the remaining tables
copies_less : (h : StoreModel) (ps : List Table) (t : ℕ) (p : Table) → ArePlaced h ps → slice_get ps t ≡ Some p
    → (es : List Entry) → HistoryFits (definitions_of ps) es → (id : ℕ)
    → copies_without p.id (copies_of ps es) id ≡ copies_of (remove ps t) (entries_less t es) id
copies_less h ps t p a e es f id = by_bool (nat_eq id p.id)
    (λ b. chosen (nat_eq id p.id) (emptied (copies_of ps es id)) (copies_of ps es id) b ∙ empty b es f)
    (λ b. passed (nat_eq id p.id) (emptied (copies_of ps es id)) (copies_of ps es id) b ∙ kept b es f)
  where
    long : (copy : Copy) → CopyFits (definitions_of ps) copy → length copy ≡ length ps
    long copy g = fits_length (definitions_of ps) copy g ∙ length-map ps (λ (x : Table). x.definition)

    empty : nat_eq id p.id ≡ true → (es : List Entry) → HistoryFits (definitions_of ps) es
        → emptied (copies_of ps es id) ≡ copies_of (remove ps t) (entries_less t es) id
    empty b [] f = refl
    empty b (x ∷ older) f =
        let none = rows_less h ps t p a e x.copy (long x.copy f.0) id
        ∙ chosen (nat_eq id p.id) [] (rows_of_id ps x.copy id) b in
        λ i. record { moment = x.moment; rows = sym none i } ∷ empty b older f.1 i

    kept : nat_eq id p.id ≡ false → (es : List Entry) → HistoryFits (definitions_of ps) es
        → copies_of ps es id ≡ copies_of (remove ps t) (entries_less t es) id
    kept b [] f = refl
    kept b (x ∷ older) f =
        let same = rows_less h ps t p a e x.copy (long x.copy f.0) id
        ∙ passed (nat_eq id p.id) [] (rows_of_id ps x.copy id) b in
        λ i. record { moment = x.moment; rows = sym same i } ∷ kept b older f.1 i

-- ---- the law

pub drop_law : (h : EngineModel) (s : State) (t : ℕ) (p : Table) (tables : List Table) (r : StoreModel) → StandsFor h s
    → IsNone h.store.working → h.readers ≡ [] → slice_get h.tables t ≡ Some p
    → tables ≡ remove h.tables t → Takes p.id Free h.store.tables r.tables → table_count r + 1 ≡ table_count h.store
    → r.working ≡ h.store.working → r.horizon ≡ h.store.horizon → DropEmpties p.id h.store r
    → StandsFor (record h { tables = tables; store = r }) (without_table t s)
drop_law h s t p tables r f closed unread there left places count same_working same_horizon copies =
    subst (λ (ts : List Table). StandsFor (record h { tables = ts; store = r }) (without_table t s))
    (sym left)
    (record {
      fits = record {
        definitions = ap (λ (ds : List TableDef). remove ds t) f.fits.definitions ∙ sym less;
        defined = subst (AllByRecursion IsDefinition) (sym less)
            (all_less IsDefinition (definitions_of h.tables) t f.fits.defined);
        narrow = subst (AllByRecursion IsNarrow) (sym less)
            (all_less IsNarrow (definitions_of h.tables) t f.fits.narrow);
        rows = subst (λ (ds : List TableDef). HistoryFits ds (entries_less t s.history)) (sym less)
            (history_fits (definitions_of h.tables) t s.history f.fits.rows);
        working = subst (λ (o : Option Entry). WorkingFits (definitions_of (remove h.tables t)) o) (sym none) tt;
      };
      clock = f.clock;
      horizon = same_horizon ∙ f.horizon;
      not_before = f.not_before;
      not_after = f.not_after;
      falls = falls_less t s.next s.history f.falls;
      since = since_less t _ s.history f.since;
      opened = same_working ∙ f.opened;
      dated = f.dated;
      stands = same_copies r (copies_without p.id (copies_of h.tables s.history))
          (copies_of (remove h.tables t) (entries_less t s.history)) (working_of (remove h.tables t) s.transaction)
          (copies_less h.store h.tables t p f.placed there s.history f.fits.rows)
          (any_working r (copies_without p.id (copies_of h.tables s.history)) (working_of h.tables s.transaction)
          (working_of (remove h.tables t) s.transaction)
          (same_working ∙ f.opened ∙ ap open_moment none)
          (copies (copies_of h.tables s.history) (working_of h.tables s.transaction) f.stands));
      placed = placed_less h.store r p places h.tables t f.placed there;
      count = fewer (table_count r) (table_count h.store) (length h.tables) (length (remove h.tables t)) count f.count
          (length-remove h.tables t (within h.tables t p there));
      readers = readers_none h.readers s _ unread refl f.readers;
    })
  where
    none : s.transaction ≡ None
    none = closed_law h s f closed

    less : definitions_of (remove h.tables t) ≡ remove (definitions_of h.tables) t
    less = definitions_less h.tables t

    fewer : (n m k l : ℕ) → n + 1 ≡ m → m ≡ k → l + 1 ≡ k → n ≡ l
    fewer n m k l e g j = omega arith
