-- The effect of the changes, from the effects of their parts.
use Rattle.std.specs.Prelude.{◌≡◌, ℕ, ℤ, List, [], map, length, slice_index_or, All, Option, Some, None, Ok, Err}
use Rattle.std.specs.Prelude.{Result, IsErr, IsErrAnd, pos}
use Rattle.std.proofs.Common.{sym, ap, subst, ◌∙◌}
use Rattle.std.proofs.lemmas.List.{length-map}
use Rattle.std.proofs.lemmas.List.Elements.{All-map, All-weaker}
use Rattle.tql_spec.specs.Datum.{Row}
use Rattle.tql_spec.specs.Refusal as spec
use Rattle.tql_spec.specs.Refusal.{first}
use Rattle.tql_spec.specs.Definition.{TableDef, Stamped}
use Rattle.tql_spec.specs.Change.{Outcome, Fate, outcome_of}
use Rattle.tql_spec.specs.Change as change
use Rattle.tql_catalog.specs.Defined.{IsDefinition}
use Rattle.tql_catalog.specs.Rows.{IsRowOf, stored_width}
use Rattle.tql_bound.specs.Works.{work_of}
use Rattle.tql_bound.specs.declared.change.Insertion.{Insertion}
use Rattle.tql_bound.specs.declared.change.Modification.{Modification}
use Rattle.tql_store.specs.declared.store.Delta.{Delta}
use Rattle.tql_versions.specs.declared.version.Version.{Version}
use Rattle.tql_value.specs.Points.{IsPrintable}
use Rattle.tql_value.specs.Refusals.{refusal_of}
use Rattle.tql_value.specs.declared.refusal.Refusal.{Refusal}
use Rattle.tql_value.specs.declared.refusal.Refusal.TheVariants as r
use Rattle.tql_dml.specs.Alters.{Gives, Alters, added_rows, tuples_in, rows_in, portion_in, conds_in, modified, fates}
use Rattle.tql_dml.specs.Alters.{coming, gone, inserted, IsVersionOf, AreTyped}
use Rattle.tql_dml.specs.Cells.{stored_cells, rows_faults}
use Rattle.tql_expr.specs.Evaluated.{Fails}
use Rattle.tql_dml.specs.Parts.{Parts, parts}
use Rattle.tql_dml.proofs.Fates.{Told, agreed, disagreed, fates_agree}
use Rattle.tql_dml.proofs.Rows.{Fit, PartsFit, AreRows, parts_fit, stored_faults}
use Rattle.tql_dml.proofs.Filling.{length-stored, stored_prints}
use Rattle.tql_dml.proofs.Rising.{rows_fit}
use Rattle.tql_expr.proofs.Printing.{RowsPrint}
use Rattle.tql_dml.proofs.Texts.{tuples_print, coming_fit}
use Rattle.tql_dml.proofs.Inserting.{new_cells, first_of}

-- a fault is reported
pub tells : (id : ℕ) (gone : List ℕ) (new : ℤ → List Stamped) (outcome : ℤ → Outcome) (e : Refusal)
    → ((m : ℤ) → first (outcome m).faults ≡ Some (refusal_of e)) → Alters id gone new outcome (Err e)
tells id gone new outcome r.OutOfMemory h = tt
tells id gone new outcome e h = h

-- ---- INSERT

-- rows with a fault are refused
pub insert_refused : (d : TableDef) (id : ℕ) (js : List ℕ) (tuples rows : List Row) (e : Refusal) → IsDefinition d
    → rows ≡ map (stored_cells d js) tuples → Some (refusal_of e) ≡ first (rows_faults d rows)
    → Alters id [] (λ m. (added_rows d js (Some tuples) m).rows) (added_rows d js (Some tuples)) (Err e)
insert_refused d id js tuples rows e s is f =
    tells id [] (λ m. (added_rows d js (Some tuples) m).rows) (added_rows d js (Some tuples)) e
    (λ m. first_of d m js tuples rows (Some (refusal_of e)) s is f)

-- rows without a fault are added
pub insert_adds : (d : TableDef) (id : ℕ) (js : List ℕ) (tuples : List Row) (delta : Delta) → IsDefinition d
    → delta.table ≡ id → delta.removed.items ≡ []
    → delta.added.items ≡ map (stored_cells d js) tuples → delta.count ≡ length delta.added.items
    → None ≡ first (rows_faults d delta.added.items)
    → Gives id [] (λ m. (added_rows d js (Some tuples) m).rows) (added_rows d js (Some tuples)) delta
insert_adds d id js tuples delta s table removed rows count faults = record {
  table = table;
  removed = removed;
  added = λ m. new_cells d m js tuples ∙ sym rows;
  count = λ m. count ∙ ap length rows ∙ length-map tuples (stored_cells d js)
      ∙ sym (length-map tuples _);
  sound = λ m. first_of d m js tuples delta.added.items None s rows faults;
}

-- added rows fit the table
pub insert_fits : (d : TableDef) (js : List ℕ) (tuples rows : List Row) → IsDefinition d
    → All (All IsPrintable) tuples → rows ≡ map (stored_cells d js) tuples
    → None ≡ first (rows_faults d rows) → All (IsRowOf d) rows
insert_fits d js tuples rows s prints is none =
    let wide : Fit d (map (stored_cells d js) tuples) =
    All-map (λ (cells : Row). length cells ≡ stored_width d) (stored_cells d js) tuples
    (λ k z l. length-stored d js (slice_index_or tuples k z) s) in
    let texts : All (All IsPrintable) (map (stored_cells d js) tuples) =
    All-map (All IsPrintable) (stored_cells d js) tuples
    (All-weaker (All IsPrintable) (λ vs. All IsPrintable (stored_cells d js vs))
    (λ vs h. stored_prints d js vs s h) tuples prints) in
    rows_fit d rows s (subst (Fit d) (sym is) wide) (subst (All (All IsPrintable)) (sym is) texts) none

-- the values of tuples have texts
pub values_print : (x : Insertion) (tuples : List Row) → tuples_in x ≡ Some tuples → All (All IsPrintable) tuples
values_print x tuples v = subst RowsPrint v (tuples_print x.terms x.tuples.items)

-- an INSERT of tuples is an INSERT of their values
pub of_values : (d : TableDef) (id : ℕ) (x : Insertion) (o p : Option (List Row)) (result : Result Delta Refusal)
    → o ≡ p
    → Alters id [] (λ m. (added_rows d x.columns.items p m).rows) (added_rows d x.columns.items p) result
    → Alters id [] (λ m. (added_rows d x.columns.items o m).rows) (added_rows d x.columns.items o) result
of_values d id x o p result e h =
    subst (λ o. Alters id [] (λ m. (added_rows d x.columns.items o m).rows) (added_rows d x.columns.items o) result)
    (sym e) h

-- an evaluation is out of range, or there is no memory
insert_ends : (d : TableDef) (id : ℕ) (x : Insertion) (e : Refusal) → Fails (tuples_in x) e
    → Alters id [] (λ m. (inserted d x m).rows) (inserted d x) (Err e)
insert_ends d id x r.OutOfMemory f = tt
insert_ends d id x r.ValueOutOfRange f = λ m. ap (λ o. first (added_rows d x.columns.items o m).faults) f
insert_ends d id x _ f = absurd f

pub insert_fails : (d : TableDef) (id : ℕ) (x : Insertion) (e : Refusal) (result : Result Delta Refusal)
    → IsErr result × IsErrAnd result (λ f. f ≡ e) → Fails (tuples_in x) e
    → Alters id [] (λ m. (inserted d x m).rows) (inserted d x) result
insert_fails d id x e (Ok delta) h f = absurd cc
insert_fails d id x e (Err why) h f = insert_ends d id x why (subst (Fails (tuples_in x)) (sym h.1) f)

-- ---- UPDATE and DELETE

-- the effect of a modification on versions
abbrev pub parts_of : TableDef → List Version → Modification → Option Parts
parts_of d found x = parts d (portion_in x) (work_of x.terms x.work) (conds_in x) found

-- the fates of the versions, if all evaluations are in range
told : (d : TableDef) (found : List Version) (x : Modification) (p : Parts) (m : ℤ) → parts_of d found x ≡ Some p
    → (fs : List Fate) × ((fates d found x m ≡ Some fs) × Told fs (gone d x found) p)
told d found x p m e =
    agreed (fates d found x m) (gone d x found) (parts_of d found x) p e
    (fates_agree d m (portion_in x) (work_of x.terms x.work) (conds_in x) found)

-- the outcome of fates
outcome_is : (d : TableDef) (found : List Version) (x : Modification) (fs : List Fate) (m : ℤ)
    → fates d found x m ≡ Some fs → modified d found x m ≡ outcome_of d (rows_in found) (Some fs)
outcome_is d found x fs m e = ap (outcome_of d (rows_in found)) e

-- an evaluation is out of range, or there is no memory
modify_ends : (d : TableDef) (id : ℕ) (found : List Version) (x : Modification) (e : Refusal)
    → Fails (parts_of d found x) e
    → Alters id (gone d x found) (λ m. coming (fates d found x m)) (modified d found x) (Err e)
modify_ends d id found x r.OutOfMemory f = tt
modify_ends d id found x r.ValueOutOfRange f = λ m.
    let none : fates d found x m ≡ None =
    disagreed (fates d found x m) (gone d x found) (parts_of d found x) f
    (fates_agree d m (portion_in x) (work_of x.terms x.work) (conds_in x) found) in
    ap (λ o. first (outcome_of d (rows_in found) o).faults) none
modify_ends d id found x _ f = absurd f

pub modify_fails : (d : TableDef) (id : ℕ) (found : List Version) (x : Modification) (e : Refusal)
    (result : Result Delta Refusal) → IsErr result × IsErrAnd result (λ f. f ≡ e)
    → Fails (parts_of d found x) e
    → Alters id (gone d x found) (λ m. coming (fates d found x m)) (modified d found x) result
modify_fails d id found x e (Ok delta) h f = absurd cc
modify_fails d id found x e (Err why) h f =
    modify_ends d id found x why (subst (Fails (parts_of d found x)) (sym h.1) f)

-- the first fault of the added rows
modify_faults : (d : TableDef) (found : List Version) (x : Modification) (p : Parts) (o : Option spec.Refusal)
    (m : ℤ) → IsDefinition d → AreRows d found → parts_of d found x ≡ Some p
    → o ≡ first (rows_faults d p.come) → first (modified d found x m).faults ≡ o
modify_faults d found x p o m s h e f =
    let t = told d found x p m e in
    let fits : PartsFit d (Some p) =
    subst (PartsFit d) e (parts_fit d (portion_in x) (work_of x.terms x.work) (conds_in x) found s h) in
    let cells : map (λ (r : Stamped). r.cells) (change.new_rows t.0) ≡ p.come = t.1.1.come in
    ap (λ (y : Outcome). first y.faults) (outcome_is d found x t.0 m t.1.0)
    ∙ ap first (stored_faults d (change.new_rows t.0) s (subst (Fit d) (sym cells) fits))
    ∙ ap (λ rows. first (rows_faults d rows)) cells ∙ sym f

-- rows with a fault are refused
pub modify_refused : (d : TableDef) (id : ℕ) (found : List Version) (x : Modification) (p : Parts) (e : Refusal)
    → IsDefinition d → AreRows d found → parts_of d found x ≡ Some p
    → Some (refusal_of e) ≡ first (rows_faults d p.come)
    → Alters id (gone d x found) (λ m. coming (fates d found x m)) (modified d found x) (Err e)
modify_refused d id found x p e s h v f =
    tells id (gone d x found) (λ m. coming (fates d found x m)) (modified d found x) e
    (λ m. modify_faults d found x p (Some (refusal_of e)) m s h v f)

-- rows without a fault are added
pub modify_gives : (d : TableDef) (id : ℕ) (found : List Version) (x : Modification) (p : Parts) (delta : Delta)
    → IsDefinition d → AreRows d found → parts_of d found x ≡ Some p
    → delta.table ≡ id → delta.removed.items ≡ p.gone → delta.added.items ≡ p.come → delta.count ≡ length p.gone
    → None ≡ first (rows_faults d p.come)
    → Gives id (gone d x found) (λ m. coming (fates d found x m)) (modified d found x) delta
modify_gives d id found x p delta s h v table removed rows count faults = record {
  table = table;
  removed = removed ∙ sym (told d found x p (pos 0) v).1.1.gone;
  added = λ m.
      let t = told d found x p m v in
      ap (λ o. map (λ (r : Stamped). r.cells) (coming o)) t.1.0 ∙ t.1.1.come ∙ sym rows;
  count = λ m.
      let t = told d found x p m v in
      count ∙ sym t.1.1.count ∙ sym (ap (λ (y : Outcome). y.count) (outcome_is d found x t.0 m t.1.0));
  sound = λ m. modify_faults d found x p None m s h v faults;
}

-- added rows fit the table
pub modify_fits : (d : TableDef) (found : List Version) (x : Modification) (p : Parts) (rows : List Row)
    → IsDefinition d → AreRows d found → parts_of d found x ≡ Some p → rows ≡ p.come
    → None ≡ first (rows_faults d p.come) → All (IsVersionOf d) found → AreTyped d found x → All (IsRowOf d) rows
modify_fits d found x p rows s h v is none f k =
    subst (All (IsRowOf d)) (sym is) (coming_fit d (portion_in x) x.terms x.work (conds_in x) found p s h v none f k)
