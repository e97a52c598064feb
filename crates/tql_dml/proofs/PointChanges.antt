-- At each point, the slice of the table after a change is what the plain change of that point makes of the slice
-- before.
use Rattle.std.proofs.Common.{◌≡◌, refl, sym, ap, subst, ◌∙◌, ℕ, Bool, true, false, List, [], ◌∷◌, ◌++◌, map, filter}
use Rattle.std.proofs.Common.{cond, inl, inr}
use Rattle.std.specs.Prelude.{ℤ, not, Option, Some, None, Result, Ok, Err, IfOk}
use Rattle.std.specs.List.{sum_by}
use Rattle.tql_spec.specs.Bag.{In, SameBag}
use Rattle.tql_spec.specs.Datum.{Row}
use Rattle.tql_spec.specs.Refusal.{first}
use Rattle.tql_spec.specs.Definition.{TableDef, Stamped, shown, stamped}
use Rattle.tql_spec.specs.Creation.{has_number}
use Rattle.tql_spec.specs.Change.{Fate, after_fates, new_rows, outcome_of, insert, new_row}
use Rattle.tql_spec.proofs.ChangeBags.{by_parts, no_order}
use Rattle.tql_spec.proofs.FirstFaults.{none_first}
use Rattle.tql_spec.proofs.MemberLists.{in_map, in_image, in_kept}
use Rattle.tql_spec.proofs.Members.{by_bool}
use Rattle.tql_points.specs.Slice.{slice}
use Rattle.tql_points.specs.Scope.{IsPointTable}
use Rattle.tql_points.proofs.Changes.{modifications_reduce, slice_total}
use Rattle.tql_points.proofs.Fates.{weight_at}
use Rattle.tql_points.proofs.Insertions.{insertions_reduce}
use Rattle.tql_points.proofs.Numbers.{Apart, in_number, not_number, kept_in}
use Rattle.tql_points.proofs.Tables.{filter_map}
use Rattle.tql_points.proofs.WrittenChanges.{once_apart}
use Rattle.tql_bound.specs.declared.change.Insertion.{Insertion}
use Rattle.tql_bound.specs.declared.change.Modification.{Modification}
use Rattle.tql_store.specs.Changes.{starting, rows_after}
use Rattle.tql_store.specs.declared.store.Delta.{Delta}
use Rattle.tql_versions.specs.Readings.{version_shown as version_of}
use Rattle.tql_versions.specs.declared.version.Version.{Version}
use Rattle.tql_value.specs.declared.refusal.Refusal.{Refusal}
use Rattle.tql_dml.specs.Alters.{Gives, Alters, gone, coming, fates, modified, inserted, tuples_in, rows_in}
use Rattle.tql_dml.specs.Alters.{portion_in, work_in, conds_in}
use Rattle.tql_dml.specs.PointChanges.{rows_added, versions_left, ModifiesAtPoints, InsertsAtPoints, exprs_in}
use Rattle.tql_dml.proofs.Modified.{touches, fates_there, made_after}

-- ---- the versions that stay, by their ids

-- versions with different ids
abbrev AreApart : List Version → Type 0
AreApart found = Apart (map (λ (v : Version). v.id) found)

-- versions with the same id are equal
one_version : (found : List Version) → AreApart found → (u v : Version) → In u found → In v found → u.id ≡ v.id → u ≡ v
one_version [] a u v m n e = absurd m
one_version (x ∷ xs) a u v (inl p) (inl q) e = p ∙ sym q
one_version (x ∷ xs) a u v (inl p) (inr n) e =
    absurd (a.0 (subst (λ i. In i (map (λ (z : Version). z.id) xs)) (sym e ∙ ap (λ (z : Version). z.id) p)
    (in_map (λ (z : Version). z.id) v xs n)))
one_version (x ∷ xs) a u v (inr m) (inl q) e =
    absurd (a.0 (subst (λ i. In i (map (λ (z : Version). z.id) xs)) (e ∙ ap (λ (z : Version). z.id) q)
    (in_map (λ (z : Version). z.id) u xs m)))
one_version (x ∷ xs) a u v (inr m) (inr n) e = one_version xs a.1 u v m n e

-- filters by tests that agree on the members
same_filter : {A : Type 0} (p q : A → Bool) (xs : List A) → ((x : A) → In x xs → p x ≡ q x) → filter p xs ≡ filter q xs
same_filter p q [] h = refl
same_filter p q (x ∷ xs) h =
    ap (λ b. cond b (x ∷ filter p xs) (filter p xs)) (h x (inl refl))
    ∙ ap (λ ys. cond (q x) (x ∷ ys) ys) (same_filter p q xs (λ y m. h y (inr m)))

-- the id of a version is among the ids kept by a test if and only if the test keeps the version
id_kept : (t : Version → Bool) (found : List Version) → AreApart found → (v : Version) → In v found
    → has_number v.id (map (λ (z : Version). z.id) (filter t found)) ≡ t v
id_kept t found a v m = by_bool (t v)
    (λ e. in_number v.id _ (in_map (λ (z : Version). z.id) v (filter t found) (kept_in t v found m e)) ∙ sym e)
    (λ e. not_number v.id _ (λ n.
    let k = in_image (λ (z : Version). z.id) v.id (filter t found) n in
    let u = in_kept t k.0 found k.1 in
    let same : v ≡ k.0 = one_version found a v k.0 m u.0 k.2 in
    let never : true ≡ false = sym u.1 ∙ sym (ap t same) ∙ e in absurd (cc)) ∙ sym e)

-- ---- bags

-- the slices of a bag are a bag
slice_same : (defs : List TableDef) (d : TableDef) → IsPointTable defs d → (p : ℤ) (xs ys : List Stamped)
    → SameBag xs ys → (w : Row → ℕ)
    → sum_by w (slice d p (map (shown d) xs)) ≡ sum_by w (slice d p (map (shown d) ys))
slice_same defs d t p xs ys h w =
    slice_total defs d t p w xs ∙ h.totals (λ r. weight_at defs d t p w (shown d r)) ∙ sym (slice_total defs d t p w ys)

-- ---- UPDATE and DELETE

modified_rows : (d : TableDef) (rows : List Stamped) (o : Option (List Fate)) (fs : List Fate) → o ≡ Some fs
    → (outcome_of d rows o).rows ≡ after_fates rows fs
modified_rows d rows o fs e = ap (λ (z : Option (List Fate)). (outcome_of d rows z).rows) e

pub modify_at_points : (d : TableDef) (id : ℕ) (found : List Version) (x : Modification) (delta : Delta)
    → Gives id (gone d x found) (λ m. coming (fates d found x m)) (modified d found x) delta
    → ModifiesAtPoints d found x delta
modify_at_points d id found x delta g scope apart defs p m others h =
    let rows : List Stamped = rows_in found in
    let k = fates_there no_order by_parts d m (portion_in x) (work_in x) (conds_in x) rows (fates d found x m) refl
    (g.sound m) in
    let come : map (λ (r : Stamped). r.cells) (new_rows k.0) ≡ delta.added.items =
    ap (λ o. map (λ (r : Stamped). r.cells) (coming o)) (sym k.1) ∙ g.added m in
    let after : SameBag (after_fates rows k.0)
    (rows_after m (touches d (portion_in x) (conds_in x)) delta.added.items rows) =
    made_after no_order by_parts d m (portion_in x) (work_in x) (conds_in x) rows k.0 delta.added.items k.1
    come in
    let made : (modified d found x m).rows ≡ after_fates rows k.0 = modified_rows d rows (fates d found x m) k.0 k.1 in
    let stays : rows_in (versions_left found delta) ≡ filter
    (λ r. not (touches d (portion_in x) (conds_in x) r)) rows =
    ap rows_in (same_filter (λ (v : Version). not (has_number v.id delta.removed.items))
    (λ (v : Version). not (touches d (portion_in x) (conds_in x) (version_of v).row)) found
    (λ v n. ap (λ is. not (has_number v.id is)) g.removed
    ∙ ap not (id_kept (λ (v : Version). touches d (portion_in x) (conds_in x) (version_of v).row) found
    (once_apart (map (λ (v : Version). v.id) found) apart) v n)))
    ∙ sym (filter_map (λ r. not (touches d (portion_in x) (conds_in x) r)) (λ (v : Version). (version_of v).row)
    found) in
    let reduced = modifications_reduce defs d p m rows others (portion_in x) (work_in x) (conds_in x) h scope in
    let none = none_first (modified d found x m).faults (g.sound m) in
    record {
      sound = reduced.taken none;
      slice = record {
        totals = λ w.
            ap (λ xs. sum_by w (slice d p (map (shown d) (xs ++ rows_added delta m)))) stays
            ∙ sym (slice_same defs d h.table p (after_fates rows k.0)
            (rows_after m (touches d (portion_in x) (conds_in x)) delta.added.items rows) after w)
            ∙ sym (ap (λ xs. sum_by w (slice d p (map (shown d) xs))) made)
            ∙ (reduced.rows none).totals w;
      };
    }

-- by its result
pub modifies_where_ok : (d : TableDef) (id : ℕ) (found : List Version) (x : Modification)
    (result : Result Delta Refusal)
    → Alters id (gone d x found) (λ m. coming (fates d found x m)) (modified d found x) result
    → IfOk result (ModifiesAtPoints d found x)
modifies_where_ok d id found x (Ok delta) g = modify_at_points d id found x delta g
modifies_where_ok d id found x (Err e) g = tt

-- ---- INSERT

starts_so : (d : TableDef) (m : ℤ) (columns : List ℕ) (tuples : List Row)
    → map (λ values. stamped d m (new_row d columns values)) tuples
    ≡ map (starting m) (map (λ (r : Stamped). r.cells) (map (λ values. stamped d m (new_row d columns values)) tuples))
starts_so d m columns [] = refl
starts_so d m columns (t ∷ ts) =
    ap {B = List Stamped} (λ rows. stamped d m (new_row d columns t) ∷ rows) (starts_so d m columns ts)

-- the rows after an INSERT of given values, and its faults
inserted_rows : (d : TableDef) (m : ℤ) (rows : List Stamped) (columns : List ℕ) (o : Option (List Row))
    (added : List Row) → first (insert d m [] columns o).faults ≡ None
    → map (λ (r : Stamped). r.cells) (insert d m [] columns o).rows ≡ added
    → ((insert d m rows columns o).rows ≡ rows ++ map (starting m) added) × ((insert d m rows columns o).faults ≡ [])
inserted_rows d m rows columns None added e f = absurd (cc)
inserted_rows d m rows columns (Some tuples) added e f = (
  ap (λ xs. rows ++ xs) (starts_so d m columns tuples ∙ ap (map (starting m)) f),
  none_first (insert d m [] columns (Some tuples)).faults e,
)

pub insert_at_points : (d : TableDef) (id : ℕ) (x : Insertion) (delta : Delta)
    → Gives id [] (λ m. (inserted d x m).rows) (inserted d x) delta → InsertsAtPoints d x delta
insert_at_points d id x delta g scope defs p m rows others h =
    let k = inserted_rows d m rows x.columns.items (tuples_in x) delta.added.items (g.sound m) (g.added m) in
    let reduced = insertions_reduce defs d p m rows others x.columns.items (exprs_in x) h scope in
    record {
      sound = reduced.taken k.1;
      slice = record {
        totals = λ w. sym (ap (λ xs. sum_by w (slice d p (map (shown d) xs))) k.0) ∙ (reduced.rows k.1).totals w;
      };
    }

-- by its result
pub inserts_where_ok : (d : TableDef) (id : ℕ) (x : Insertion) (result : Result Delta Refusal)
    → Alters id [] (λ m. (inserted d x m).rows) (inserted d x) result → IfOk result (InsertsAtPoints d x)
inserts_where_ok d id x (Ok delta) g = insert_at_points d id x delta g
inserts_where_ok d id x (Err e) g = tt
