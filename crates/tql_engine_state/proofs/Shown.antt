-- The rows that are found in a table have all its columns. Their application period begins at one point and ends at a
-- later one of the same type.
use Rattle.std.proofs.Common.{◌≡◌, refl, sym, ap, subst, ◌∙◌, ℕ, ◌+◌, Bool, true, false, List, [], ◌∷◌, map, filter}
use Rattle.std.proofs.Common.{length, Option, Some, None, inl, inr}
use Rattle.std.specs.Prelude.{ℤ, ◌||◌, All, IsTrue, option_map, slice_get}
use Rattle.std.specs.List.{AllByRecursion}
use Rattle.std.proofs.lemmas.List.Elements.{All-from_recursion}
use Rattle.tql_spec.specs.Bag.{SameBag, In}
use Rattle.tql_spec.specs.Calendar.{high}
use Rattle.tql_spec.specs.Creation.{are_ends, kinds_of}
use Rattle.tql_spec.specs.Datum.{Kind, Row, kind_of}
use Rattle.tql_spec.specs.Definition.{Application, Stamped, TableDef, Version, cell, full, shown, table_at}
use Rattle.tql_spec.specs.Definition.{with_generated}
use Rattle.tql_spec.specs.History.{found, table_history}
use Rattle.tql_spec.specs.Horizon.{is_before}
use Rattle.tql_spec.specs.Machine.{State, bag_of, entries}
use Rattle.tql_spec.specs.Query.{Ref}
use Rattle.tql_spec.specs.Typing.{AreOfKinds, IsApplicationOf, IsOfKind, IsTypedDefinition, IsTypedState, column_kind}
use Rattle.tql_spec.proofs.Bags.{same-map, same-refl, same-sym, same-trans}
use Rattle.tql_spec.proofs.KindRuns.{bags_typed}
use Rattle.tql_spec.proofs.MemberLists.{in_image, in_map}
use Rattle.tql_spec.proofs.RowKinds.{cell_kind, ends_agree, generated_same, same_kinds}
use Rattle.tql_catalog.specs.Defined.{IsDefinition}
use Rattle.tql_catalog.specs.Rows.{RisesBy}
use Rattle.tql_catalog.specs.declared.catalog.Table.{Table}
use Rattle.tql_dml.proofs.Rows.{shown_width}
use Rattle.tql_plan_access.specs.Access.{IsRow, IsShown, Lasts, period_columns}
use Rattle.tql_plan_laws.specs.Constants.{ArePoints}
use Rattle.tql_store.proofs.StoreLaws.{answers-found}
use Rattle.tql_store.specs.Represents.{Answers}
use Rattle.tql_store.specs.StoreModel.{StoreModel, has_table, is_versioned, live}
use Rattle.tql_versions.specs.Changes.{is_current}
use Rattle.tql_versions.specs.Readings.{asked}
use Rattle.tql_value.specs.When.{is_now, when_of}
use Rattle.tql_value.specs.declared.when.When as code
use Rattle.tql_engine_state.specs.Fitting.{RowFits}
use Rattle.tql_engine_state.specs.Modifying.{AreShown}
use Rattle.tql_engine_state.specs.Showing.{Shows}
use Rattle.tql_engine_state.specs.Stands.{EngineModel, StandsFor}
use Rattle.tql_engine_state.proofs.Asked.{VersionFits, VersionsFit, by_end, definition_in, rows_are, rows_when}
use Rattle.tql_engine_state.proofs.Asked.{versions_fit, versions_found}
use Rattle.tql_engine_state.proofs.ChangeKeeps.{working_rows}
use Rattle.tql_engine_state.proofs.Looking.{current_rows, working_fit}
use Rattle.tql_engine_state.proofs.Standing.{defined_law, defined_of, definition_law}
use Rattle.tql_engine_state.proofs.Swapping.{member_of_same, of_members}
use Rattle.tql_engine_state.proofs.Typed.{working_typed}

-- ---- one row

module _ (d : TableDef) (typed : IsTypedDefinition d) (row : Row) (kinds : AreOfKinds (kinds_of d) row) where
  -- the columns of its application period hold points of one type
  points_in : (a : Application) → d.application ≡ Some a → ArePoints row a.start a.end
  points_in a e =
      let ends = (typed.application a e).kinds in
      let same : column_kind d a.start ≡ column_kind d a.end =
      ends_agree (column_kind d a.start) (column_kind d a.end) ends in
      record {
        kind = column_kind d a.start;
        of_points = subst (λ (k : Kind). are_ends (column_kind d a.start) k ≡ true) (sym same) ends;
        start = cell_kind (kinds_of d) row kinds a.start;
        end = subst (λ (k : Kind). IsOfKind (Some k) (cell row a.end)) (sym same)
            (cell_kind (kinds_of d) row kinds a.end);
      }

  lasting : (o : Option Application) → d.application ≡ o → RisesBy o row → (columns : ℕ × ℕ)
      → option_map (λ (a : Application). (a.start, a.end)) o ≡ Some columns → Lasts row columns
  lasting None e rises columns f = absurd (cc)
  lasting (Some a) e rises columns f =
      subst (Lasts row) (inside (a.start, a.end) columns f)
      (record { points = points_in a e; rising = rises.rising })
    where
      inside : (p q : ℕ × ℕ) → Some p ≡ Some q → p ≡ q
      inside p q e = cc

  pub row_is : length row ≡ length d.columns → RisesBy d.application row
      → IsRow (period_columns d) (length d.columns) row
  row_is wide rises = record { wide = wide; lasts = lasting d.application refl rises }

-- ---- what a change sees

-- each current row of the store is a row of its table
pub current_shown : (h : EngineModel) (s : State) (t : ℕ) (p : Table) → StandsFor h s → IsTypedState s
    → slice_get h.tables t ≡ Some p → AreShown h.store p
current_shown h s t p st typed e r m =
    let d : TableDef = p.definition in
    let here : table_at s.definitions t ≡ d = definition_law h s t p st e in
    let there = member_of_same r (same-sym (current_rows h s t p st e)) m in
    let fits : RowFits d r = of_members (RowFits d) (working_rows s t) (working_fit h s t p st e) r there in
    row_is d (subst IsTypedDefinition here (typed.definitions t)) (shown d r)
    (subst (λ (x : TableDef). AreOfKinds (kinds_of x) (shown x r)) here
    (working_typed s s.definitions s.history s.next s.transaction typed t r there))
    (shown_width d r (defined_law h s t p st e) fits.cells.width) (fits.cells.rising r.start high)

-- ---- what a query finds

-- each member of a list of fitting versions fits
version_of_members : (d : TableDef) (vs : List Version) → VersionsFit d vs → (v : Version) → In v vs → VersionFits d v
version_of_members d [] f v m = absurd m
version_of_members d (w ∷ vs) f v (inl e) = subst (VersionFits d) (sym e) f.0
version_of_members d (w ∷ vs) f v (inr m) = version_of_members d vs f.1 v m

each_row : (P : Row → Type 0) (d : TableDef) (vs : List Version) → ((v : Version) → In v vs → P (full d v))
    → AllByRecursion P (map (full d) vs)
each_row P d [] k = tt
each_row P d (v ∷ vs) k = (k v (inl refl), each_row P d vs (λ w m. k w (inr m)))

module _ (tables : List Table) (r : StoreModel) (s s' : State) (k : Shows tables r s) (k' : Shows tables r s')
    (typed : IsTypedState s') (t : ℕ) (p : Table) (e : slice_get tables t ≡ Some p) (w : code.When)
    (there : IsTrue (has_table r p.id)) (kept : (is_now (when_of w) || is_versioned r p.id) ≡ true)
    (within : is_before r.horizon (when_of w) ≡ false) where
  abbrev d : TableDef
  d = p.definition

  -- the versions are the same for any state that the store shows
  answered : Answers r p.id (when_of w) (filter (asked w) (live r p.id))
  answered = answers-found r p.id w (filter (asked w) (live r p.id)) kept (same-refl _)

  found_for : (x : State) → Shows tables r x
      → SameBag (filter (asked w) (live r p.id)) (versions_found x t (when_of w))
  found_for x sx =
      subst (λ es. SameBag (filter (asked w) (live r p.id)) (found (when_of w) es)) (sx.seen t p e there)
      (answered within sx.copies sx.working sx.stands)

  same_rows : SameBag (map (λ (v : Version). v.row) (versions_found s t (when_of w)))
      (map (λ (v : Version). v.row) (versions_found s' t (when_of w)))
  same_rows = same-map (λ (v : Version). v.row) (same-trans (same-sym (found_for s k)) (found_for s' k'))

  -- their values have the types of their columns
  other_kinds : (v : Version) → In v (versions_found s' t (when_of w)) → AreOfKinds (kinds_of d) (full d v)
  other_kinds v m =
      let q : Ref = record { table = t; when = when_of w; width = 0 } in
      let here : table_at s'.definitions t ≡ d = definition_in tables s' t p k'.fits e in
      subst (λ (x : TableDef). AreOfKinds (kinds_of x) (full x v)) here
      (bags_typed s' typed q (full (table_at s'.definitions t) v)
      (in_map (full (table_at s'.definitions t)) v (versions_found s' t (when_of w)) m))

  kinds_found : (v : Version) → In v (versions_found s t (when_of w)) → AreOfKinds (kinds_of d) (full d v)
  kinds_found v m =
      let i = in_image (λ (x : Version). x.row) v.row (versions_found s' t (when_of w))
      (member_of_same v.row same_rows (in_map (λ (x : Version). x.row) v (versions_found s t (when_of w)) m)) in
      let u : Version = i.0 in
      same_kinds (kinds_of d) (full d u) (full d v)
      (generated_same d.system u.row.cells u.row.start u.end u.row.start v.end
      ∙ ap (λ (x : Stamped). map kind_of (with_generated d.system x.cells x.start v.end)) (sym i.2))
      (other_kinds u i.1)

  -- so they are rows of the table
  pub found_rows : All (IsRow (period_columns d) (length d.columns)) (rows_when s t (when_of w))
  found_rows =
      let P = IsRow (period_columns d) (length d.columns) in
      let vs = versions_found s t (when_of w) in
      let right : IsDefinition d = defined_of tables t p k.fits.defined e in
      let of_table = subst IsTypedDefinition (definition_in tables s' t p k'.fits e) (typed.definitions t) in
      subst (All P) (sym (rows_are tables s t p (when_of w) k.fits e))
      (All-from_recursion P (map (full d) vs) (each_row P d vs (λ v m.
      let fits : VersionFits d v = version_of_members d vs (versions_fit tables s t p (when_of w) k.fits e) v m in
      row_is d of_table (full d v) (kinds_found v m)
      (by_end d.system v.row.cells v.row.start v.end high ∙ shown_width d v.row right fits.cells.width)
      (fits.cells.rising v.row.start v.end))))
