-- The rows that a change sees, and the rows that it reads. The others are not affected.
use Rattle.std.proofs.Common.{◌≡◌, refl, ap, sym, subst, ◌∙◌, arith, ℕ, Bool, true, false, cond, List, [], ◌∷◌, ◌++◌}
use Rattle.std.proofs.Common.{map, filter, inl, inr, Option, Some, None}
use Rattle.std.specs.Prelude.{ℤ, ◌≤ℤ◌, ◌<ℤ◌, ◌&&◌, IsNone, All, option_map, slice_get, if◌then◌else◌}
use Rattle.std.specs.List.{AllByRecursion}
use Rattle.std.proofs.lemmas.Int.{ints}
use Rattle.std.proofs.lemmas.List.Elements.{All-from_recursion}
use Rattle.tql_spec.specs.Bag.{SameBag, In}
use Rattle.tql_spec.specs.Calendar.{first_moment, high}
use Rattle.tql_spec.specs.Datum.{Row}
use Rattle.tql_spec.specs.Definition.{Stamped, TableDef, Version, shown}
use Rattle.tql_spec.specs.Expression.{SafeConditionsAreJudged}
use Rattle.tql_spec.specs.History.{Entry, Now, current, still, completed, table_history, rows_in}
use Rattle.tql_spec.specs.Machine.{State, entries, newest_copy}
use Rattle.tql_spec.proofs.Bags.{same-map, same-refl, same-sym}
use Rattle.tql_bound.specs.declared.change.Modification.{Modification}
use Rattle.tql_catalog.specs.Tables.{definitions_of}
use Rattle.tql_catalog.specs.declared.catalog.Table.{Table}
use Rattle.tql_dml.specs.Alters as dml
use Rattle.tql_dml.specs.Alters.{IsVersionOf, conds_in, is_yes, portion_in}
use Rattle.tql_dml.proofs.Modified.{touches}
use Rattle.tql_key_clashes.proofs.NamedRows.{store_names}
use Rattle.tql_plan_access.specs.Access.{IsShown, ServesChange}
use Rattle.tql_plan_access.proofs.Untouched.{IsPassedOver, passed_over, seen_and_unseen, unseen_of, untouched}
use Rattle.tql_store.proofs.StoreLaws.{answers-found}
use Rattle.tql_store.specs.Represents.{Answers, AnswersBy}
use Rattle.tql_store.specs.StoreModel.{live, named}
use Rattle.tql_versions.specs.Changes.{alive, is_current}
use Rattle.tql_versions.specs.Readings.{version_shown as version_of, where_open}
use Rattle.tql_versions.specs.declared.version.Version as code
use Rattle.tql_value.specs.declared.when.When.TheVariants as when
use Rattle.tql_engine_state.specs.Fitting.{RowsFit, CopyFits}
use Rattle.tql_engine_state.specs.Modifying.{AreShown}
use Rattle.tql_engine_state.specs.Stands.{EngineModel, StandsFor, copies_of, working_of}
use Rattle.tql_engine_state.proofs.Asked.{rows_fit, seen_law}
use Rattle.tql_engine_state.proofs.ChangeKeeps.{working_now, working_rows, last_fits, rows_left}
use Rattle.tql_engine_state.proofs.Doing.{none_there}
use Rattle.tql_engine_state.proofs.Standing.{defined_law}
use Rattle.tql_engine_state.proofs.Swapping.{member_of_same, of_members, rows_fit_same}

-- ---- the rows that a change sees

-- the rows of the newest copy, each as a current version
newest_now : (defs : List TableDef) (t : ℕ) (es : List Entry)
    → current (table_history t es) ≡ completed still (rows_in (newest_copy defs es) t)
newest_now defs t [] = ap (completed still) (sym (none_there defs t))
newest_now defs t (e ∷ older) = refl

now_by : (base : State) (defs : List TableDef) (es : List Entry) (next : ℤ) (t : ℕ) (o : Option Entry)
    → (let s : State = record base { definitions = defs; history = es; next = next; transaction = o } in current
    (table_history t (entries s)) ≡ completed still (working_rows s t))
now_by base defs es next t None = newest_now defs t es
now_by base defs es next t (Some e) = refl

pub now_is : (s : State) (t : ℕ) → current (table_history t (entries s)) ≡ completed still (working_rows s t)
now_is s t = now_by s s.definitions s.history s.next t s.transaction

pub rows_of_completed : (rows : List Stamped) → map (λ (v : Version). v.row) (completed still rows) ≡ rows
rows_of_completed [] = refl
rows_of_completed (x ∷ xs) = ap {B = List Stamped} (λ ys. x ∷ ys) (rows_of_completed xs)

-- ---- the working copy fits

copy_fits_by : (h : EngineModel) (base : State) (defs : List TableDef) (es : List Entry) (next : ℤ) (o : Option Entry)
    → (let s : State = record base { definitions = defs; history = es; next = next; transaction = o } in StandsFor h s
    → CopyFits (definitions_of h.tables) (working_now s).copy)
copy_fits_by h base defs es next None f = last_fits (definitions_of h.tables) defs es f.fits.definitions f.fits.rows
copy_fits_by h base defs es next (Some e) f = f.fits.working

pub copy_fits : (h : EngineModel) (s : State) → StandsFor h s → CopyFits (definitions_of h.tables) (working_now s).copy
copy_fits h s f = copy_fits_by h s s.definitions s.history s.next s.transaction f

-- the moment of a change is in the calendar, and before its end
dated_by : (h : EngineModel) (base : State) (defs : List TableDef) (es : List Entry) (next : ℤ) (o : Option Entry)
    → (let s : State = record base { definitions = defs; history = es; next = next; transaction = o } in
    StandsFor h s → (IsNone h.store.working → h.next <ℤ high)
    → (first_moment ≤ℤ (working_now s).moment) × ((working_now s).moment <ℤ high))
dated_by h base defs es next None f below =
    (f.not_before, subst (λ n. n <ℤ high) f.clock (below (subst IsNone (sym f.opened) refl)))
dated_by h base defs es next (Some e) f below =
    (subst (λ n. first_moment ≤ℤ n) (sym f.dated.0) f.not_before, subst (λ n. n <ℤ high) (sym f.dated.0) f.dated.1)

pub moment_dated : (h : EngineModel) (s : State) → StandsFor h s → (IsNone h.store.working → h.next <ℤ high)
    → (first_moment ≤ℤ (working_now s).moment) × ((working_now s).moment <ℤ high)
moment_dated h s f below = dated_by h s s.definitions s.history s.next s.transaction f below

-- ---- the store's current rows are those of the working copy

pub current_rows : (h : EngineModel) (s : State) (t : ℕ) (p : Table) → StandsFor h s → slice_get h.tables t ≡ Some p
    → SameBag (working_rows s t) (map (λ (v : Version). v.row) (filter is_current (live h.store p.id)))
current_rows h s t p st e =
    let found : List Version = filter is_current (live h.store p.id) in
    let answers : Answers h.store p.id Now found =
    answers-found h.store p.id when.Now found refl (same-refl found) in
    let same : SameBag found (completed still (working_rows s t)) =
    subst (SameBag found) (ap current (seen_law h s t p st e) ∙ now_is s t)
    (answers refl (copies_of h.tables s.history) (working_of h.tables s.transaction) st.stands) in
    same-sym (subst (SameBag (map (λ (v : Version). v.row) found)) (rows_of_completed (working_rows s t))
    (same-map (λ (v : Version). v.row) same))

-- ---- the rows that a change reads

-- the versions of a table that were found by a test of their stored cells
abbrev pub IsSeen : EngineModel → Table → (Row → Bool) → List code.Version → Type 0
IsSeen h p looks seen = AnswersBy h.store p.id Now looks (map version_of seen)

-- the rows that pass the test
abbrev pub looked_at : (Row → Bool) → List Stamped → List Stamped
looked_at looks rows = filter (λ r. looks r.cells) rows

rows_read : (seen : List code.Version) → dml.rows_in seen ≡ map (λ (v : Version). v.row) (map version_of seen)
rows_read [] = refl
rows_read (v ∷ vs) = ap {B = List Stamped} (λ xs. (version_of v).row ∷ xs) (rows_read vs)

looked_completed : (looks : Row → Bool) (rows : List Stamped)
    → map (λ (v : Version). v.row) (filter (λ (v : Version). looks v.row.cells) (completed still rows))
    ≡ looked_at looks rows
looked_completed looks [] = refl
looked_completed looks (r ∷ rows) =
    either (looks r.cells) (filter (λ (v : Version). looks v.row.cells) (completed still rows))
    (looked_completed looks rows)
  where
    either : (b : Bool) (vs : List Version) → map (λ (v : Version). v.row) vs ≡ looked_at looks rows
        → map (λ (v : Version). v.row) (cond b (record { row = r; end = still r } ∷ vs) vs)
        ≡ cond b (r ∷ looked_at looks rows) (looked_at looks rows)
    either true vs e = ap {B = List Stamped} (λ xs. r ∷ xs) e
    either false vs e = e

-- the rows that were read are the selected rows
pub seen_rows : (h : EngineModel) (s : State) (t : ℕ) (p : Table) (looks : Row → Bool) (seen : List code.Version)
    → StandsFor h s → slice_get h.tables t ≡ Some p → IsSeen h p looks seen
    → SameBag (dml.rows_in seen) (looked_at looks (working_rows s t))
seen_rows h s t p looks seen st e answers =
    let same : SameBag (map version_of seen)
    (filter (λ (v : Version). looks v.row.cells) (completed still (working_rows s t))) =
    subst (λ vs. SameBag (map version_of seen) (filter (λ (v : Version). looks v.row.cells) vs))
    (ap current (seen_law h s t p st e) ∙ now_is s t)
    (answers refl (copies_of h.tables s.history) (working_of h.tables s.transaction) st.stands) in
    subst (λ xs. SameBag xs (looked_at looks (working_rows s t))) (sym (rows_read seen))
    (subst (SameBag (map (λ (v : Version). v.row) (map version_of seen))) (looked_completed looks (working_rows s t))
    (same-map (λ (v : Version). v.row) same))

-- together with the others they are all rows
pub all_rows : (h : EngineModel) (s : State) (t : ℕ) (p : Table) (looks : Row → Bool) (seen : List code.Version)
    → StandsFor h s → slice_get h.tables t ≡ Some p → IsSeen h p looks seen
    → SameBag (dml.rows_in seen ++ unseen_of looks (working_rows s t)) (working_rows s t)
all_rows h s t p looks seen st e answers =
    seen_and_unseen looks (dml.rows_in seen) (working_rows s t) (seen_rows h s t p looks seen st e answers)

-- ---- they are rows of the table

pub working_fit : (h : EngineModel) (s : State) (t : ℕ) (p : Table) → StandsFor h s → slice_get h.tables t ≡ Some p
    → RowsFit p.definition (working_rows s t)
working_fit h s t p st e = rows_fit h.tables t p e (working_now s).copy (copy_fits h s st)

versions_of : (d : TableDef) (seen : List code.Version) → RowsFit d (dml.rows_in seen)
    → AllByRecursion (IsVersionOf d) seen
versions_of d [] f = tt
versions_of d (v ∷ vs) f =
    let low = f.0.not_before in
    let up = f.0.below in
    (record { cells = f.0.cells; start = (low, omega (arith, ints)) }, versions_of d vs f.1)

pub read_fit : (h : EngineModel) (s : State) (t : ℕ) (p : Table) (looks : Row → Bool) (seen : List code.Version)
    → StandsFor h s → slice_get h.tables t ≡ Some p → IsSeen h p looks seen
    → All (IsVersionOf p.definition) seen
read_fit h s t p looks seen st e answers =
    All-from_recursion (IsVersionOf p.definition) seen
    (versions_of p.definition seen
    (rows_fit_same p.definition (looked_at looks (working_rows s t)) (dml.rows_in seen)
    (same-sym (seen_rows h s t p looks seen st e answers))
    (rows_left p.definition (λ (r : Stamped). looks r.cells) (working_rows s t)
    (working_fit h s t p st e))))

-- ---- the others

-- the rows that a change sees have all columns, and periods that are not empty
working_shown : (h : EngineModel) (s : State) (t : ℕ) (p : Table) → StandsFor h s → slice_get h.tables t ≡ Some p
    → AreShown h.store p → AllByRecursion (IsShown p.definition) (working_rows s t)
working_shown h s t p st e shown =
    each_shown (working_rows s t) (λ r m. shown r (member_of_same r (current_rows h s t p st e) m))
  where
    each_shown : (rows : List Stamped) → ((r : Stamped) → In r rows → IsShown p.definition r)
        → AllByRecursion (IsShown p.definition) rows
    each_shown [] k = tt
    each_shown (r ∷ rows) k = (k r (inl refl), each_shown rows (λ q m. k q (inr m)))

-- the rows that are not selected are passed over
pub rest_passed : (h : EngineModel) (s : State) (t : ℕ) (p : Table) (looks : Row → Bool) → StandsFor h s
    → slice_get h.tables t ≡ Some p → AreShown h.store p
    → AllByRecursion (IsPassedOver p.definition looks) (unseen_of looks (working_rows s t))
rest_passed h s t p looks st e shown =
    passed_over p.definition looks (working_rows s t) (working_shown h s t p st e shown)

-- a current version of the table has a row that the change sees
version_seen : (h : EngineModel) (s : State) (t : ℕ) (p : Table) (i : ℕ) (v : Version) → StandsFor h s
    → slice_get h.tables t ≡ Some p → named h.store p.id i ≡ Some v → (alive v && is_current v) ≡ true
    → In v.row (working_rows s t)
version_seen h s t p i v st e at now =
    member_of_same v.row (same-sym (current_rows h s t p st e))
    ((store_names h.store p.id v.row).1 (
      i,
      ap (λ (w : Option Version). option_map (λ (x : Version). x.row) (where_open w)) at
          ∙ ap (λ (b : Bool). option_map (λ (x : Version). x.row) (if b then Some v else None)) now,
    ))

-- a current version whose row is not selected is not affected
pub version_untouched : SafeConditionsAreJudged → (h : EngineModel) (s : State) (p : Table) (x : Modification)
    (looks : Row → Bool) → ServesChange p.definition (portion_in x) (conds_in x) looks → AreShown h.store p
    → StandsFor h s → slice_get h.tables x.table ≡ Some p → (i : ℕ) (v : Version) → named h.store p.id i ≡ Some v
    → (alive v && is_current v) ≡ true → looks v.row.cells ≡ false
    → touches p.definition (portion_in x) (conds_in x) v.row ≡ false
version_untouched law h s p x looks serves shown st e i v at now unseen =
    let row = of_members (IsShown p.definition) (working_rows s x.table) (working_shown h s x.table p st e shown) v.row
    (version_seen h s x.table p i v st e at now) in
    ap is_yes (untouched law p.definition (portion_in x) (conds_in x) looks serves v.row
    (record { row = row; unseen = unseen }))
