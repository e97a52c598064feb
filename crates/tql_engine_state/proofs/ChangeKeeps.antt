-- After a change, or one given up on the way, an engine still represents a state.
use Rattle.std.proofs.Common.{◌≡◌, ℕ, zero, suc, Bool, true, false, cond, List, [], ◌∷◌, ◌++◌, map, filter, refl, sym}
use Rattle.std.proofs.Common.{ap, subst, ◌∙◌, arith}
use Rattle.std.specs.Prelude.{ℤ, pos, ◌+ℤ◌, ◌≤ℤ◌, ◌<ℤ◌, ◌&&◌, not, nat_eq, slice_get, slice_set, IsNone, Option, Some}
use Rattle.std.specs.Prelude.{None, if◌then◌else◌}
use Rattle.std.specs.List.{AllByRecursion}
use Rattle.std.proofs.lemmas.Int.{ints}
use Rattle.std.proofs.lemmas.List.{length-map}
use Rattle.tql_spec.specs.Calendar.{first_moment, high}
use Rattle.tql_spec.specs.Datum.{Row}
use Rattle.tql_spec.specs.Definition.{Stamped, TableDef}
use Rattle.tql_spec.specs.History.{Copy, Entry, rows_in}
use Rattle.tql_spec.specs.Machine.{State, newest_copy, working, with_working}
use Rattle.tql_store.specs.StoreModel as store
use Rattle.tql_versions.specs.Changes.{is_current, alive}
use Rattle.tql_store.specs.Changes.{last_rows, rows_after}
use Rattle.tql_store.specs.Represents as represents
use Rattle.tql_store.specs.Represents.{Copies, Represents, BeginCopies, ChangeReplaces}
use Rattle.tql_store.specs.Represents.{Judged}
use Rattle.tql_store.specs.declared.tables.TableSlot.{TableSlot}
use Rattle.tql_store.proofs.Judging.{still-judged}
use Rattle.tql_catalog.specs.Tables.{definitions_of}
use Rattle.tql_catalog.specs.declared.catalog.Table.{Table}
use Rattle.tql_catalog.specs.Rows.{IsRowOf}
use Rattle.tql_engine_state.specs.Fitting.{RowsFit, CopyFits, HistoryFits}
use Rattle.tql_engine_state.specs.Stands.{EngineModel, StandsFor, ArePlaced, rows_of_id, copies_of, working_of}
use Rattle.tql_engine_state.specs.Committing.{CommitsRows, Undoes, ReplacesRows, ChangesRows, KeepsRows}
use Rattle.tql_engine_state.specs.Readers.{AreReaders}
use Rattle.tql_engine_state.proofs.ReadersKeep.{readers_stay, readers_more}
use Rattle.tql_engine_state.proofs.Standing.{some_is}
use Rattle.tql_engine_state.proofs.Copies.{rows_found, rows_set, rows_empty, fits_length, same_working, any_working}
use Rattle.tql_engine_state.proofs.Copies.{same_places}
use Rattle.tql_engine_state.proofs.Asked.{rows_fit}

-- ---- the states

-- the working copy: of the open transaction, or of one of its own
abbrev pub working_now : State → Entry
working_now s = working s s.transaction

-- the state in which the working copy has other rows in a table
abbrev pub with_table_rows : State → ℕ → List Stamped → State
with_table_rows s t rows =
    with_working s s.transaction (record {
      moment = (working_now s).moment;
      copy = slice_set (working_now s).copy t rows;
    })

-- the rows of a table that a change sees
abbrev pub working_rows : State → ℕ → List Stamped
working_rows s t = rows_in (working_now s).copy t

-- new rows that start at a moment
abbrev pub begun_at : ℤ → List Row → List Stamped
begun_at m rows = map (λ cells. record { cells = cells; start = m }) rows

-- rows of a table
abbrev pub AreRowsOf : TableDef → List Row → Type 0
AreRowsOf d rows = AllByRecursion (IsRowOf d) rows

-- ---- the last copy

-- its rows are those of the last copies, by table id
pub last_found : (tables : List Table) (defs : List TableDef) (es : List Entry) (id : ℕ)
    → last_rows (copies_of tables es id) ≡ rows_of_id tables (newest_copy defs es) id
last_found tables defs [] id = sym (rows_empty tables defs id)
last_found tables defs (e ∷ older) id = refl

empty_fits : (ps : List TableDef) → CopyFits ps (map (λ d. []) ps)
empty_fits [] = tt
empty_fits (p ∷ ps) = (tt, empty_fits ps)

newest_fits : (ps : List TableDef) (es : List Entry) → HistoryFits ps es → CopyFits ps (newest_copy ps es)
newest_fits ps [] f = empty_fits ps
newest_fits ps (e ∷ older) f = f.0

-- it fits the tables
pub last_fits : (ps : List TableDef) (defs : List TableDef) (es : List Entry) → defs ≡ ps → HistoryFits ps es
    → CopyFits ps (newest_copy defs es)
last_fits ps defs es e f = subst (λ (ds : List TableDef). CopyFits ps (newest_copy ds es)) (sym e) (newest_fits ps es f)

-- ---- surviving and added rows

pub rows_both : (p : TableDef) (xs ys : List Stamped) → RowsFit p xs → RowsFit p ys → RowsFit p (xs ++ ys)
rows_both p [] ys f g = g
rows_both p (x ∷ xs) ys f g = (f.0, rows_both p xs ys f.1 g)

pub rows_left : (p : TableDef) (stays : Stamped → Bool) (xs : List Stamped) → RowsFit p xs → RowsFit p (filter stays xs)
rows_left p stays [] f = tt
rows_left p stays (x ∷ xs) f = chosen (stays x) (rows_left p stays xs f.1)
  where
    chosen : (b : Bool) → RowsFit p (filter stays xs) → RowsFit p (cond b (x ∷ filter stays xs) (filter stays xs))
    chosen true g = (f.0, g)
    chosen false g = g

pub begun_fit : (p : TableDef) (m : ℤ) (rows : List Row) → first_moment ≤ℤ m → m <ℤ high → AreRowsOf p rows
    → RowsFit p (begun_at m rows)
begun_fit p m [] from until f = tt
begun_fit p m (cells ∷ rows) from until f = (
  record {
    cells = f.0;
    not_before = from;
    below = until;
  },
  begun_fit p m rows from until f.1,
)

pub set_fits : (ps : List Table) (t : ℕ) (p : Table) → slice_get ps t ≡ Some p → (copy : Copy)
    → CopyFits (definitions_of ps) copy → (rows : List Stamped) → RowsFit p.definition rows
    → CopyFits (definitions_of ps) (slice_set copy t rows)
set_fits [] t p e copy f rows k = cc
set_fits (q ∷ ps) t p e [] f rows k = absurd f
set_fits (q ∷ ps) zero p e (old ∷ copy) f rows k =
    (subst (λ (x : Table). RowsFit x.definition rows) (sym (some_is q p e)) k, f.1)
set_fits (q ∷ ps) (suc t) p e (old ∷ copy) f rows k = (f.0, set_fits ps t p e copy f.1 rows k)

-- ---- a copy in which rows of one table are replaced

-- the rows of the table after the change
abbrev pub replaced_rows : ℤ → (Stamped → Bool) → List Row → Copy → ℕ → List Stamped
replaced_rows m gone added copy t = rows_after m gone added (rows_in copy t)

-- the copy after it
abbrev pub replaced_copy : ℤ → (Stamped → Bool) → List Row → Copy → ℕ → Copy
replaced_copy m gone added copy t = slice_set copy t (replaced_rows m gone added copy t)

module _ (rows : store.StoreModel) (ps : List Table) (placed : ArePlaced rows ps) (t : ℕ) (p : Table)
    (there : slice_get ps t ≡ Some p) where
  replaced_found : (m : ℤ) (gone : Stamped → Bool) (added : List Row) (copy : Copy)
      → CopyFits (definitions_of ps) copy → (id : ℕ)
      → represents.with_rows p.id (rows_after m gone added (rows_of_id ps copy p.id)) (rows_of_id ps copy) id ≡
      rows_of_id ps (replaced_copy m gone added copy t) id
  replaced_found m gone added copy fits id =
      ap (λ (xs : List Stamped). if nat_eq id p.id then rows_after m gone added xs else rows_of_id ps copy id)
      (rows_found rows ps t p placed there copy)
      ∙ sym (rows_set rows ps t p placed there copy (fits_length (definitions_of ps) copy fits
      ∙ length-map ps (λ (t : Table). t.definition)) (replaced_rows m gone added copy t) id)

  -- a store that represents a copy represents the copy after the change
  pub replaced_stands : (r1 r2 : store.StoreModel) (copies : Copies) (copy : Copy) (m : ℤ) (gone : Stamped
      → Bool) (removed : List ℕ) (added : List Row)
      → CopyFits (definitions_of ps) copy → r1.working ≡ Some m → Judged r1 p.id gone removed
      → ChangeReplaces p.id removed added r1 r2
      → Represents r1 copies (rows_of_id ps copy)
      → Represents r2 copies (rows_of_id ps (replaced_copy m gone added copy t))
  replaced_stands r1 r2 copies copy m gone removed added fits is1 judged changes r =
      same_working r2 copies _ (rows_of_id ps (replaced_copy m gone added copy t))
      (replaced_found m gone added copy fits)
      (changes copies (rows_of_id ps copy) m gone is1 judged r)

  -- it fits the tables
  pub replaced_fits : (m : ℤ) (gone : Stamped → Bool) (added : List Row) (copy : Copy) → first_moment ≤ℤ m
      → m <ℤ high → AreRowsOf p.definition added
      → CopyFits (definitions_of ps) copy → CopyFits (definitions_of ps) (replaced_copy m gone added copy t)
  replaced_fits m gone added copy from until ok fits =
      let old : RowsFit p.definition (rows_in copy t) = rows_fit ps t p there copy fits in
      set_fits ps t p there copy fits (replaced_rows m gone added copy t)
      (rows_both p.definition (filter (λ r. not (gone r)) (rows_in copy t)) (begun_at m added)
      (rows_left p.definition (λ r. not (gone r)) (rows_in copy t) old)
      (begun_fit p.definition m added from until ok))

-- ---- the start of a transaction

-- the working copy of a new transaction is the last copy
pub begun_stands : (tables : List Table) (defs : List TableDef) (es : List Entry) (old new : store.StoreModel)
    → BeginCopies old new
    → Represents old (copies_of tables es) (working_of tables None)
    → Represents new (copies_of tables es) (rows_of_id tables (newest_copy defs es))
begun_stands tables defs es old new begins r =
    same_working new (copies_of tables es) _ (rows_of_id tables (newest_copy defs es)) (last_found tables defs es)
    (begins (copies_of tables es) (working_of tables None) r)

-- ---- the tables stay the same

pub same_count : (old new : store.StoreModel) (n : ℕ) → new.tables ≡ old.tables → store.table_count old ≡ n
    → store.table_count new ≡ n
same_count old new n places e = ap (λ (xs : List TableSlot). store.table_count (record old { tables = xs })) places ∙ e

-- the readers after a change
readers_by : (h : EngineModel) (base : State) (defs : List TableDef) (es : List Entry) (next : ℤ) (o : Option Entry)
    (t : ℕ) (rows : List Stamped)
    → (let s : State = record base { definitions = defs; history = es; next = next; transaction = o } in
    StandsFor h s → AreReaders h.readers (with_table_rows s t rows))
readers_by h base defs es next None t rows f =
    readers_more h.readers _ _ (record { moment = next; copy = slice_set (newest_copy defs es) t rows }) refl refl refl
    f.falls f.readers
readers_by h base defs es next (Some e) t rows f = readers_stay h.readers _ _ refl refl refl f.readers

pub readers_after : (h : EngineModel) (s : State) (t : ℕ) (rows : List Stamped) → StandsFor h s
    → AreReaders h.readers (with_table_rows s t rows)
readers_after h s = readers_by h s s.definitions s.history s.next s.transaction

-- ---- the laws

-- in a transaction of its own
module _ (h : EngineModel) (base : State) (defs : List TableDef) (es : List Entry) (next : ℤ) where
  -- the reference model, with no transaction open
  abbrev idle : State
  idle = record base { definitions = defs; history = es; next = next; transaction = None }

  own_changed : (t : ℕ) (p : Table) (gone : Stamped → Bool) (removed : List ℕ) (added : List Row) (r : store.StoreModel)
      → StandsFor h idle → slice_get h.tables t ≡ Some p → next <ℤ high
      → AreRowsOf p.definition added → Judged h.store p.id gone removed → CommitsRows next p.id removed added h.store r
      → StandsFor (record h { store = r; next = next +ℤ pos 1 })
      (with_table_rows idle t (rows_after next gone added (working_rows idle t)))
  own_changed t p gone removed added r f there below ok judged c =
      let copy : Copy = newest_copy defs es in
      let fits : CopyFits (definitions_of h.tables) copy =
      last_fits (definitions_of h.tables) defs es f.fits.definitions f.fits.rows in
      let opened : Represents c.opened (copies_of h.tables es) (rows_of_id h.tables copy) =
      begun_stands h.tables defs es h.store c.opened c.begins f.stands in
      let judged1 : Judged c.opened p.id gone removed =
      still-judged h.store c.opened p.id gone removed (c.same_names p.id) judged in
      let changed : Represents c.changed (copies_of h.tables es)
      (rows_of_id h.tables (replaced_copy next gone added copy t)) =
      replaced_stands h.store h.tables f.placed t p there c.opened c.changed (copies_of h.tables es) copy next gone
      removed added fits c.is_open judged1 c.changes opened in
      let from = f.not_before in
      record {
        fits = record {
          definitions = f.fits.definitions;
          defined = f.fits.defined;
          narrow = f.fits.narrow;
          rows = (
            replaced_fits h.store h.tables f.placed t p there next gone added copy from below ok fits,
            f.fits.rows,
          );
          working = tt;
        };
        clock = refl;
        horizon = c.horizon ∙ f.horizon;
        not_before = omega (arith, ints);
        not_after = omega (arith, ints);
        falls = (omega (arith, ints), f.falls);
        since = (from, f.since);
        opened = c.idle;
        dated = tt;
        stands = any_working r _ (rows_of_id h.tables (replaced_copy next gone added copy t))
            (working_of h.tables None) c.idle
            (c.commits (copies_of h.tables es) (rows_of_id h.tables (replaced_copy next gone added copy t)) next
            c.still_open changed);
        placed = same_places h.store r h.tables c.places f.placed;
        count = same_count h.store r _ c.places f.count;
        readers = readers_by h base defs es next None t (rows_after next gone added (working_rows idle t)) f;
      }

  own_undone : (r : store.StoreModel) → StandsFor h idle → Undoes next h.store r
      → StandsFor (record h { store = r }) idle
  own_undone r f c =
      let opened : Represents c.opened (copies_of h.tables es) (rows_of_id h.tables (newest_copy defs es)) =
      begun_stands h.tables defs es h.store c.opened c.begins f.stands in
      record {
        fits = f.fits;
        clock = f.clock;
        horizon = c.horizon ∙ f.horizon;
        not_before = f.not_before;
        not_after = f.not_after;
        falls = f.falls;
        since = f.since;
        opened = c.idle;
        dated = tt;
        stands = any_working r (copies_of h.tables es) (rows_of_id h.tables (newest_copy defs es))
            (working_of h.tables None) c.idle
            (c.restores (copies_of h.tables es) (rows_of_id h.tables (newest_copy defs es)) next c.is_open opened);
        placed = same_places h.store r h.tables c.places f.placed;
        count = same_count h.store r _ c.places f.count;
        readers = f.readers;
      }

  -- in the open transaction
  abbrev within : Entry → State
  within e = record base { definitions = defs; history = es; next = next; transaction = Some e }

  within_changed : (e : Entry) (t : ℕ) (p : Table) (gone : Stamped
      → Bool) (removed : List ℕ) (added : List Row) (r : store.StoreModel) → StandsFor h (within e)
      → slice_get h.tables t ≡ Some p
      → AreRowsOf p.definition added → Judged h.store p.id gone removed
      → ReplacesRows e.moment p.id removed added h.store r
      → StandsFor (record h { store = r; next = next })
      (with_table_rows (within e) t (rows_after e.moment gone added (working_rows (within e) t)))
  within_changed e t p gone removed added r f there ok judged c =
      let from = f.not_before in
      let same = f.dated.0 in
      let below = f.dated.1 in
      record {
        fits = record {
          definitions = f.fits.definitions;
          defined = f.fits.defined;
          narrow = f.fits.narrow;
          rows = f.fits.rows;
          working = replaced_fits h.store h.tables f.placed t p there e.moment gone added e.copy
              (subst (λ m. first_moment ≤ℤ m) (sym same) from) (subst (λ m. m <ℤ high) (sym same) below) ok
              f.fits.working;
        };
        clock = refl;
        horizon = c.horizon ∙ f.horizon;
        not_before = from;
        not_after = f.not_after;
        falls = f.falls;
        since = f.since;
        opened = c.still_open;
        dated = f.dated;
        stands = replaced_stands h.store h.tables f.placed t p there h.store r (copies_of h.tables es) e.copy e.moment
            gone removed added f.fits.working f.opened judged c.changes f.stands;
        placed = same_places h.store r h.tables c.places f.placed;
        count = same_count h.store r _ c.places f.count;
        readers = readers_by h base defs es next (Some e) t
            (rows_after e.moment gone added (working_rows (within e) t)) f;
      }

  changed_by : (o : Option Entry) (t : ℕ) (p : Table) (gone : Stamped
      → Bool) (removed : List ℕ) (added : List Row) (r : store.StoreModel) (after : ℤ)
      → (let s : State = record base { definitions = defs; history = es; next = next; transaction = o } in
      StandsFor h s → slice_get h.tables t ≡ Some p → (IsNone h.store.working → next <ℤ high)
      → AreRowsOf p.definition added → Judged h.store p.id gone removed
      → ChangesRows h.store.working next after p.id removed added h.store r
      → StandsFor (record h { store = r; next = after })
      (with_table_rows s t (rows_after (working_now s).moment gone added (working_rows s t))))
  changed_by None t p gone removed added r after f there below ok judged c =
      let d = subst (λ w. ChangesRows w next after p.id removed added h.store r) f.opened c in
      subst (λ n. StandsFor (record h { store = r; next = n })
      (with_table_rows idle t (rows_after next gone added (working_rows idle t)))) (sym d.1)
      (own_changed t p gone removed added r f there (below (subst (λ w. IsNone w) (sym f.opened) refl)) ok judged d.0)
  changed_by (Some e) t p gone removed added r after f there below ok judged c =
      let d = subst (λ w. ChangesRows w next after p.id removed added h.store r) f.opened c in
      subst (λ n. StandsFor (record h { store = r; next = n })
      (with_table_rows (within e) t (rows_after e.moment gone added (working_rows (within e) t)))) (sym d.1)
      (within_changed e t p gone removed added r f there ok judged d.0)

  kept_by : (o : Option Entry) (r : store.StoreModel)
      → (let s : State = record base { definitions = defs; history = es; next = next; transaction = o } in StandsFor h s
      → KeepsRows h.store.working next h.store r → StandsFor (record h { store = r }) s)
  kept_by None r f c = own_undone r f (subst (λ w. KeepsRows w next h.store r) f.opened c)
  kept_by (Some e) r f c =
      let same : r ≡ h.store = subst (λ w. KeepsRows w next h.store r) f.opened c in
      subst (λ (x : store.StoreModel). StandsFor (record h { store = x }) (within e)) (sym same) f

-- rows are replaced, in the open transaction or in one of their own
pub change_law : (h : EngineModel) (s : State) (t : ℕ) (p : Table) (gone : Stamped
    → Bool) (removed : List ℕ) (added : List Row) (r : store.StoreModel) (after : ℤ) → StandsFor h s
    → slice_get h.tables t ≡ Some p → (IsNone h.store.working → h.next <ℤ high) → AreRowsOf p.definition added
    → Judged h.store p.id gone removed
    → ChangesRows h.store.working h.next after p.id removed added h.store r
    → StandsFor (record h { store = r; next = after })
    (with_table_rows s t (rows_after (working_now s).moment gone added (working_rows s t)))
change_law h s t p gone removed added r after f there below ok judged c =
    changed_by h s s.definitions s.history s.next s.transaction t p gone removed added r after f there
    (λ none. subst (λ m. m <ℤ high) f.clock (below none)) ok judged
    (subst (λ m. ChangesRows h.store.working m after p.id removed added h.store r) f.clock c)

-- a change that was given up
pub kept_law : (h : EngineModel) (s : State) (r : store.StoreModel) → StandsFor h s
    → KeepsRows h.store.working h.next h.store r
    → StandsFor (record h { store = r }) s
kept_law h s r f c = kept_by h s s.definitions s.history s.next s.transaction r f
    (subst (λ m. KeepsRows h.store.working m h.store r) f.clock c)

-- ---- all rows, or none

all_stay : (xs : List Stamped) → filter (λ (r : Stamped). not false) xs ≡ xs
all_stay [] = refl
all_stay (x ∷ xs) = ap {B = List Stamped} (λ ys. x ∷ ys) (all_stay xs)

-- rows are only added
pub only_added : (m : ℤ) (added : List Row) (rows : List Stamped)
    → rows_after m (λ (r : Stamped). false) added rows ≡ rows ++ begun_at m added
only_added m added rows = ap (λ (xs : List Stamped). xs ++ begun_at m added) (all_stay rows)

-- no version is removed
none_goes : (b c : Bool) → false ≡ (b && (c && false))
none_goes false c = refl
none_goes true false = refl
none_goes true true = refl

pub none_judged : (h : store.StoreModel) (id : ℕ) → Judged h id (λ (r : Stamped). false) []
none_judged h id = λ i v e. none_goes (alive v) (is_current v)
