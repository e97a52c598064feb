-- What a query finds: the versions of the store, as rows that can be printed and have all columns of their tables.
use Rattle.std.proofs.Common.{◌≡◌, ℕ, zero, suc, Bool, true, false, cond, List, [], ◌∷◌, ◌++◌, map, filter}
use Rattle.std.proofs.Common.{refl, sym, ap, subst, ◌∙◌, ◌+◌, arith, length}
use Rattle.std.specs.Prelude.{ℤ, pos, ◌+ℤ◌, ◌≤ℤ◌, ◌&&◌, not, int_le, int_lt, slice_get, All, Option}
use Rattle.std.specs.Prelude.{Some, None, if◌then◌else◌, insert, nat_lt}
use Rattle.std.specs.List.{AllByRecursion}
use Rattle.std.specs.Ordering.{is_gt}
use Rattle.std.specs.declared.cmp.Ordering.{Ordering}
use Rattle.std.proofs.lemmas.Int.{ints}
use Rattle.std.proofs.lemmas.List.Elements.{All-from_recursion, recursion_from_All}
use Rattle.tql_spec.specs.Bag.{SameBag}
use Rattle.tql_spec.specs.Words.{listed}
use Rattle.tql_spec.specs.Calendar.{first_moment, high}
use Rattle.tql_spec.specs.Datum.{Moment, Row}
use Rattle.tql_spec.specs.Definition.{Stamped, System, Version, TableDef, table_at, full, with_generated}
use Rattle.tql_spec.specs.History.{Copy, Entry, TableEntry, When, Now, AsOf, FromTo, Between, FallingFrom, has_row}
use Rattle.tql_spec.specs.History.{has_version, rows_in, table_history, completed, ends_before, still, meets}
use Rattle.tql_spec.specs.History.{as_of_from, found_from, found, versions}
use Rattle.tql_spec.specs.Machine.{State, entries}
use Rattle.tql_spec.specs.Query.{OrderKey, placed, row_order, in_order}
use Rattle.tql_spec.proofs.OrderBags.{order_is_one}
use Rattle.tql_catalog.specs.Defined.{IsDefinition}
use Rattle.tql_catalog.specs.Tables.{definitions_of}
use Rattle.tql_catalog.specs.declared.catalog.Table.{Table}
use Rattle.tql_catalog.specs.Rows.{IsRowOf}
use Rattle.tql_expr.proofs.Inserted.{length_inserted}
use Rattle.tql_expr.proofs.Printing.{generated_prints}
use Rattle.tql_store.specs.Represents.{seen_by}
use Rattle.tql_value.specs.Points.{IsPrintable, ArePrintable, IsMoment}
use Rattle.tql_engine_state.specs.Fitting.{RowsFit, CopyFits, HistoryFits, WorkingFits}
use Rattle.tql_engine_state.specs.Showing.{EntriesFit, FitsTables, Shows}
use Rattle.tql_engine_state.specs.Stands.{EngineModel, StandsFor, AreSince, IsDated, copies_of, open_moment, working_of}
use Rattle.tql_engine_state.proofs.Standing.{some_is, definition_of, versioned_law}
use Rattle.tql_engine_state.proofs.Copies.{history_found}

-- ---- rows

-- the rows of a table in a copy that fits
pub rows_fit : (ps : List Table) (t : ℕ) (p : Table) → slice_get ps t ≡ Some p → (copy : Copy)
    → CopyFits (definitions_of ps) copy → RowsFit p.definition (rows_in copy t)
rows_fit [] t p e copy f = cc
rows_fit (q ∷ ps) t p e [] f = absurd f
rows_fit (q ∷ ps) zero p e (rows ∷ copy) f = subst (λ (x : Table). RowsFit x.definition rows) (some_is q p e) f.0
rows_fit (q ∷ ps) (suc t) p e (rows ∷ copy) f = rows_fit ps t p e copy f.1

-- ---- versions that can be printed

-- a version of a table: its cells are a row of the table, and its two ends are moments of the calendar
pub record VersionFits (d : TableDef) (v : Version) : Type 0 where
  pub cells : IsRowOf d v.row.cells
  start : IsMoment v.row.start
  end : IsMoment v.end

abbrev pub VersionsFit : TableDef → List Version → Type 0
VersionsFit d vs = AllByRecursion (VersionFits d) vs

-- the ends of all rows are moments of the calendar
abbrev EndsInCalendar : (Stamped → ℤ) → Type 0
EndsInCalendar ends = (r : Stamped) → IsMoment (ends r)

before_in : (b : Bool) (m n : ℤ) → IsMoment m → IsMoment n → IsMoment (if b then m else n)
before_in true m n a b = a
before_in false m n a b = b

still_in : EndsInCalendar still
still_in r = (omega (arith, ints), omega (arith, ints))

ends_in : (e : TableEntry) (ends : Stamped → ℤ) → IsMoment e.moment → EndsInCalendar ends
    → EndsInCalendar (ends_before e ends)
ends_in e ends m k r = before_in (has_row e.rows r) (ends r) e.moment (k r) m

module _ (p : TableDef) where
  completed_fit : (ends : Stamped → ℤ) (rows : List Stamped) → EndsInCalendar ends → RowsFit p rows
      → VersionsFit p (completed ends rows)
  completed_fit ends [] k f = tt
  completed_fit ends (r ∷ rows) k f =
      let below = f.0.below in (
        record {
          cells = f.0.cells;
          start = (f.0.not_before, omega (arith, ints));
          end = k r;
        },
        completed_fit ends rows k f.1,
      )

  either_fit : (b : Bool) (xs ys : List Version) → VersionsFit p xs → VersionsFit p ys
      → VersionsFit p (if b then xs else ys)
  either_fit true xs ys f g = f
  either_fit false xs ys f g = g

  both_fit : (xs ys : List Version) → VersionsFit p xs → VersionsFit p ys → VersionsFit p (xs ++ ys)
  both_fit [] ys f g = g
  both_fit (x ∷ xs) ys f g = (f.0, both_fit xs ys f.1 g)

  some_fit : (test : Version → Bool) (xs : List Version) → VersionsFit p xs → VersionsFit p (filter test xs)
  some_fit test [] f = tt
  some_fit test (x ∷ xs) f = left (test x) (some_fit test xs f.1)
    where
      left : (b : Bool) → VersionsFit p (filter test xs) → VersionsFit p (cond b (x ∷ filter test xs) (filter test xs))
      left true g = (f.0, g)
      left false g = g

  module _ (ps : List TableDef) (i : ℕ) (rows : (copy : Copy) → CopyFits ps copy → RowsFit p (rows_in copy i)) where
    -- the rows of the table in a copy
    abbrev here : Entry → TableEntry
    here e = record { moment = e.moment; rows = rows_in e.copy i }

    as_of_fit : (until : ℤ) (ends : Stamped → ℤ) (m : ℤ) (es : List Entry) → EndsInCalendar ends → EntriesFit ps es
        → VersionsFit p (as_of_from until ends m (table_history i es))
    as_of_fit until ends m [] k f = tt
    as_of_fit until ends m (e ∷ es) k f =
        either_fit (int_le e.moment m && int_lt m until) (completed ends (rows_in e.copy i))
        (as_of_from e.moment (ends_before (here e) ends) m (table_history i es))
        (completed_fit ends (rows_in e.copy i) k (rows e.copy f.0))
        (as_of_fit e.moment (ends_before (here e) ends) m es (ends_in (here e) ends f.1.0 k) f.1.1)

    range_fit : (until : ℤ) (ends : Stamped → ℤ) (a b : ℤ) (es : List Entry) → EndsInCalendar ends → EntriesFit ps es
        → VersionsFit p (found_from until ends a b (table_history i es))
    range_fit until ends a b [] k f = tt
    range_fit until ends a b (e ∷ es) k f =
        let earlier : List Version = found_from e.moment (ends_before (here e) ends) a b (table_history i es) in
        let now : List Version = if meets a b e.moment until then completed ends (rows_in e.copy i) else [] in
        both_fit (filter (λ v. not (has_version earlier v.row)) now) earlier
        (some_fit (λ v. not (has_version earlier v.row)) now
        (either_fit (meets a b e.moment until) (completed ends (rows_in e.copy i)) []
        (completed_fit ends (rows_in e.copy i) k (rows e.copy f.0)) tt))
        (range_fit e.moment (ends_before (here e) ends) a b es (ends_in (here e) ends f.1.0 k) f.1.1)

    now_fit : (es : List Entry) → EntriesFit ps es → VersionsFit p (found Now (table_history i es))
    now_fit [] f = tt
    now_fit (e ∷ es) f = completed_fit still (rows_in e.copy i) still_in (rows e.copy f.0)

    found_fit : (when : When) (es : List Entry) → EntriesFit ps es → VersionsFit p (found when (table_history i es))
    found_fit Now es f = now_fit es f
    found_fit (AsOf m) es f = as_of_fit high still m es still_in f
    found_fit (FromTo a b) es f = range_fit high still a b es still_in f
    found_fit (Between a b) es f = range_fit high still a (b +ℤ pos 1) es still_in f

-- ---- rows that an engine finds

pub past_fit : (ps : List TableDef) (bound : ℤ) (es : List Entry) → bound ≤ℤ high → AreSince first_moment es
    → FallingFrom bound es → HistoryFits ps es → EntriesFit ps es
past_fit ps bound [] top since falls f = tt
past_fit ps bound (e ∷ es) top since falls f =
    let below = falls.0 in
    let under : e.moment ≤ℤ high = omega (arith, ints) in
    (f.0, ((since.0, under), past_fit ps e.moment es under since.1 falls.1 f.1))

-- an open transaction counts as the last commit
entries_fit_by : (h : EngineModel) (s : State) (o : Option Entry) → StandsFor h s → s.transaction ≡ o
    → EntriesFit (definitions_of h.tables) (listed o ++ s.history)
entries_fit_by h s None f e =
    past_fit (definitions_of h.tables) s.next s.history f.not_after f.since f.falls f.fits.rows
entries_fit_by h s (Some x) f e =
    let dated = subst (λ o. IsDated s.next o) e f.dated in
    let low = f.not_before in
    let up = f.not_after in (
      subst (λ o. WorkingFits (definitions_of h.tables) o) e f.fits.working,
      (
        (subst (λ m. first_moment ≤ℤ m) (sym dated.0) low, subst (λ m. m ≤ℤ high) (sym dated.0) up),
        past_fit (definitions_of h.tables) s.next s.history up f.since f.falls f.fits.rows,
      ),
    )

entries_fit : (h : EngineModel) (s : State) → StandsFor h s → EntriesFit (definitions_of h.tables) (entries s)
entries_fit h s f = entries_fit_by h s s.transaction f refl

-- the versions that a query finds
abbrev pub versions_found : State → ℕ → When → List Version
versions_found s t when = found when (table_history t (entries s))

pub versions_fit : (tables : List Table) (s : State) (t : ℕ) (p : Table) (when : When) → FitsTables tables s
    → slice_get tables t ≡ Some p → VersionsFit p.definition (versions_found s t when)
versions_fit tables s t p when f e =
    found_fit p.definition (definitions_of tables) t (rows_fit tables t p e) when (entries s) f.copies

-- the rows of a table that a query finds; an open transaction counts as the last commit
abbrev pub rows_when : State → ℕ → When → List Row
rows_when s t when = versions (table_at s.definitions t) t when (entries s)

-- the table's definition
pub definition_in : (tables : List Table) (s : State) (t : ℕ) (p : Table) → FitsTables tables s
    → slice_get tables t ≡ Some p → table_at s.definitions t ≡ p.definition
definition_in tables s t p f e =
    ap (λ (ds : List TableDef). table_at ds t) f.definitions ∙ definition_of tables t p e

-- these rows are those versions
pub rows_are : (tables : List Table) (s : State) (t : ℕ) (p : Table) (when : When) → FitsTables tables s
    → slice_get tables t ≡ Some p
    → rows_when s t when ≡ map (full p.definition) (versions_found s t when)
rows_are tables s t p when f e =
    ap (λ (d : TableDef). map (full d) (versions_found s t when)) (definition_in tables s t p f e)

-- the copies that the store answers from are those of the reference model
seen_copies : (tables : List Table) (es : List Entry) (o : Option Entry) (id : ℕ)
    → seen_by (open_moment o) (copies_of tables es) (working_of tables o) id ≡ copies_of tables (listed o ++ es) id
seen_copies tables es None id = refl
seen_copies tables es (Some e) id = refl

-- the copies of a table that queries see
pub seen_law : (h : EngineModel) (s : State) (t : ℕ) (p : Table) → StandsFor h s → slice_get h.tables t ≡ Some p
    → seen_by h.store.working (copies_of h.tables s.history) (working_of h.tables s.transaction) p.id ≡ table_history
    t (entries s)
seen_law h s t p f e =
    ap (λ (w : Option ℤ). seen_by w (copies_of h.tables s.history) (working_of h.tables s.transaction) p.id) f.opened
    ∙ seen_copies h.tables s.history s.transaction p.id
    ∙ history_found h.store h.tables t p f.placed e (entries s)

-- the tables of the engine fit the state
pub fits_now : (h : EngineModel) (s : State) → StandsFor h s → FitsTables h.tables s
fits_now h s f = record {
  definitions = f.fits.definitions;
  defined = f.fits.defined;
  copies = entries_fit h s f;
}

pub shows_now : (h : EngineModel) (s : State) → StandsFor h s → Shows h.tables h.store s
shows_now h s f = record {
  fits = fits_now h s f;
  copies = copies_of h.tables s.history;
  working = working_of h.tables s.transaction;
  stands = f.stands;
  seen = λ t p e there. seen_law h s t p f e;
  versioned = λ t p e there. versioned_law h s t p f e;
}

-- ---- what can be printed

version_prints : (d : TableDef) (v : Version) → VersionFits d v → All IsPrintable (full d v)
version_prints d v f = generated_prints d.system v.row.cells v.row.start v.end f.cells.printable f.start f.end

versions_print : (d : TableDef) (vs : List Version) → VersionsFit d vs
    → AllByRecursion (All IsPrintable) (map (full d) vs)
versions_print d [] f = tt
versions_print d (v ∷ vs) f = (version_prints d v f.0, versions_print d vs f.1)

-- ---- how wide they are

-- the width of a row does not depend on when its version ends
pub by_end : (s : Option System) (cells : Row) (m e f : ℤ)
    → length (with_generated s cells m e) ≡ length (with_generated s cells m f)
by_end None cells m e f = refl
by_end (Some s) cells m e f = either (nat_lt s.start s.end)
  where
    either : (b : Bool)
        → length (cond b (insert (insert cells s.start (Moment m)) s.end (Moment e))
        (insert (insert cells s.end (Moment e)) s.start (Moment m)))
        ≡ length (cond b (insert (insert cells s.start (Moment m)) s.end (Moment f))
        (insert (insert cells s.end (Moment f)) s.start (Moment m)))
    either true =
        length_inserted (insert cells s.start (Moment m)) s.end (Moment e)
        ∙ sym (length_inserted (insert cells s.start (Moment m)) s.end (Moment f))
    either false =
        length_inserted (insert cells s.end (Moment e)) s.start (Moment m)
        ∙ ap (λ n. n + 1) (length_inserted cells s.end (Moment e) ∙ sym (length_inserted cells s.end (Moment f)))
        ∙ sym (length_inserted (insert cells s.end (Moment f)) s.start (Moment m))

-- ---- in the printed order

either_all : (P : Row → Type 0) (b : Bool) (xs ys : List Row) → AllByRecursion P xs → AllByRecursion P ys
    → AllByRecursion P (if b then xs else ys)
either_all P true xs ys e f = e
either_all P false xs ys e f = f

placed_all : (P : Row → Type 0) (R : Row → Row → Ordering) (r : Row) (xs : List Row) → P r → AllByRecursion P xs
    → AllByRecursion P (placed R r xs)
placed_all P R r [] e f = (e, tt)
placed_all P R r (x ∷ xs) e f =
    either_all P (is_gt (R r x)) (x ∷ placed R r xs) (r ∷ x ∷ xs) (f.0, placed_all P R r xs e f.1) (e, f)

ordered_all : (P : Row → Type 0) (keys : List OrderKey) (rows : List Row) → AllByRecursion P rows
    → AllByRecursion P (in_order keys rows)
ordered_all P keys [] e = tt
ordered_all P keys (r ∷ rows) e = placed_all P (row_order keys) r (in_order keys rows) e.0 (ordered_all P keys rows e.1)

-- conversely, a property of each row in the printed order holds of each row
either_each : (P : Row → Type 0) (b : Bool) (r x : Row) (xs later : List Row)
    → (AllByRecursion P later → AllByRecursion P (r ∷ xs))
    → AllByRecursion P (if b then x ∷ later else r ∷ x ∷ xs) → AllByRecursion P (r ∷ x ∷ xs)
either_each P true r x xs later k h = let rest = k h.1 in (rest.0, (h.0, rest.1))
either_each P false r x xs later k h = h

placed_each : (P : Row → Type 0) (R : Row → Row → Ordering) (r : Row) (xs : List Row) → AllByRecursion P (placed R r xs)
    → AllByRecursion P (r ∷ xs)
placed_each P R r [] h = h
placed_each P R r (x ∷ xs) h = either_each P (is_gt (R r x)) r x xs (placed R r xs) (placed_each P R r xs) h

ordered_each : (P : Row → Type 0) (keys : List OrderKey) (rows : List Row) → AllByRecursion P (in_order keys rows)
    → AllByRecursion P rows
ordered_each P keys [] h = tt
ordered_each P keys (r ∷ rows) h =
    let all = placed_each P (row_order keys) r (in_order keys rows) h in (all.0, ordered_each P keys rows all.1)

-- printable rows are printable in any order
pub bag_prints : (rows bag : List Row) → SameBag rows bag → All (All IsPrintable) bag → ArePrintable rows
bag_prints rows bag same h =
    All-from_recursion (All IsPrintable) rows
    (ordered_each (All IsPrintable) [] rows
    (subst (AllByRecursion (All IsPrintable)) (sym (order_is_one [] rows bag same))
    (ordered_all (All IsPrintable) [] bag (recursion_from_All (All IsPrintable) bag h))))

-- printable rows are printable in the order of the query too
pub ordered_prints : (keys : List OrderKey) (rows : List Row) → All (All IsPrintable) rows
    → ArePrintable (in_order keys rows)
ordered_prints keys rows h =
    All-from_recursion (All IsPrintable) (in_order keys rows)
    (ordered_all (All IsPrintable) keys rows (recursion_from_All (All IsPrintable) rows h))

-- the rows that a query finds are printable
pub found_print : (tables : List Table) (s : State) (t : ℕ) (p : Table) (when : When) → FitsTables tables s
    → slice_get tables t ≡ Some p → All (All IsPrintable) (rows_when s t when)
found_print tables s t p when f e =
    subst (All (All IsPrintable)) (sym (rows_are tables s t p when f e))
    (All-from_recursion (All IsPrintable) (map (full p.definition) (versions_found s t when))
    (versions_print p.definition (versions_found s t when) (versions_fit tables s t p when f e)))
