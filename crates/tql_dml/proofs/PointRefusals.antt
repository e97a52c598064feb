-- A change of a table is refused as the points refuse their plain changes.
use Rattle.std.proofs.Common.{◌≡◌, refl, ap, ◌∙◌, ℕ, List, []}
use Rattle.std.specs.Prelude.{ℤ, Option, Some, None, Result, Ok, Err}
use Rattle.tql_spec.specs.Datum.{Row}
use Rattle.tql_spec.specs.Refusal as spec
use Rattle.tql_spec.specs.Refusal.{first}
use Rattle.tql_spec.specs.Definition.{TableDef, Stamped}
use Rattle.tql_spec.specs.Change.{Outcome, insert}
use Rattle.tql_spec.proofs.FirstFaults.{none_first}
use Rattle.tql_points.specs.FaultLaw.{IsFirstAtPoints}
use Rattle.tql_points.proofs.ChangeRefusals.{modification_refusals, insertion_refusals}
use Rattle.tql_points.proofs.Changes.{modifications_reduce}
use Rattle.tql_points.proofs.Insertions.{insertions_reduce}
use Rattle.tql_bound.specs.declared.change.Insertion.{Insertion}
use Rattle.tql_bound.specs.declared.change.Modification.{Modification}
use Rattle.tql_store.specs.declared.store.Delta.{Delta}
use Rattle.tql_versions.specs.declared.version.Version.{Version}
use Rattle.tql_value.specs.Refusals.{refusal_of}
use Rattle.tql_value.specs.declared.refusal.Refusal.{Refusal}
use Rattle.tql_value.specs.declared.refusal.Refusal.TheVariants as r
use Rattle.tql_dml.specs.Alters.{Alters, gone, coming, fates, modified, inserted, tuples_in, rows_in, portion_in}
use Rattle.tql_dml.specs.Alters.{work_in, conds_in}
use Rattle.tql_dml.specs.PointChanges.{exprs_in}
use Rattle.tql_dml.specs.PointRefusals.{IsRefusedAsPoints, modified_at, inserted_at, RefusesModificationAsPoints}
use Rattle.tql_dml.specs.PointRefusals.{RefusesInsertionAsPoints}

-- if a result refuses an outcome exactly with its first fault, it refuses as the points do if that is their first fault
refused_so : (id : ℕ) (gone : List ℕ) (new : ℤ → List Stamped) (outcome : ℤ → Outcome) (m : ℤ) (given : ℤ → Outcome)
    (result : Result Delta Refusal)
    → (first (outcome m).faults ≡ None → (p : ℤ) → (given p).faults ≡ [])
    → ((e : spec.Refusal) → first (outcome m).faults ≡ Some e → IsFirstAtPoints given e)
    → Alters id gone new outcome result → IsRefusedAsPoints given result
refused_so id gone new outcome m given (Ok delta) none some a = none (a.sound m)
refused_so id gone new outcome m given (Err r.OutOfMemory) none some a = tt
refused_so id gone new outcome m given (Err e) none some a = some (refusal_of e) (a m)

-- ---- UPDATE and DELETE

pub modify_as_points : (d : TableDef) (id : ℕ) (found : List Version) (x : Modification)
    (result : Result Delta Refusal)
    → Alters id (gone d x found) (λ m. coming (fates d found x m)) (modified d found x) result
    → RefusesModificationAsPoints d found x result
modify_as_points d id found x result a scope defs m others h sound =
    refused_so id (gone d x found) (λ m. coming (fates d found x m)) (modified d found x) m
    (modified_at defs d x m others) result
    (λ none p. (modifications_reduce defs d p m (rows_in found) (others p) (portion_in x) (work_in x) (conds_in x)
    (h p) scope).taken (none_first (modified d found x m).faults none))
    (λ e some. (modification_refusals defs d m (rows_in found) others (portion_in x) (work_in x) (conds_in x) e h
    sound scope).0 some) a

-- ---- INSERT

-- the faults of an INSERT are those of its tuples, whatever rows the table has
same_faults : (d : TableDef) (m : ℤ) (rows : List Stamped) (columns : List ℕ) (o : Option (List Row))
    → (insert d m rows columns o).faults ≡ (insert d m [] columns o).faults
same_faults d m rows columns None = refl
same_faults d m rows columns (Some tuples) = refl

pub insert_as_points : (d : TableDef) (id : ℕ) (x : Insertion) (result : Result Delta Refusal)
    → Alters id [] (λ m. (inserted d x m).rows) (inserted d x) result → RefusesInsertionAsPoints d x result
insert_as_points d id x result a filled periods defs m rows others h =
    let same = same_faults d m rows x.columns.items (tuples_in x) in
    refused_so id [] (λ m. (inserted d x m).rows) (inserted d x) m (inserted_at defs d x m others) result
    (λ none p. (insertions_reduce defs d p m rows (others p) x.columns.items (exprs_in x) (h p) filled).taken
    (same ∙ none_first (inserted d x m).faults none))
    (λ e some. (insertion_refusals defs d m rows others x.columns.items (exprs_in x) e h filled periods).0
    (ap first same ∙ some)) a
