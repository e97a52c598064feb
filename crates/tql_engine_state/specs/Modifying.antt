-- The result of an UPDATE or DELETE, from the versions of its table that were read.
use Rattle.std.specs.Prelude.{Bool, List, map, filter, All, Result, Ok, Err, IfOk, ⊤}
use Rattle.tql_spec.specs.Bag.{In}
use Rattle.tql_spec.specs.Datum.{Row}
use Rattle.tql_spec.specs.Definition.{Stamped}
use Rattle.tql_spec.specs.Definition as kept
use Rattle.tql_bound.specs.declared.change.Modification.{Modification}
use Rattle.tql_catalog.specs.Rows.{IsRowOf}
use Rattle.tql_catalog.specs.declared.catalog.Table.{Table}
use Rattle.tql_dml.specs.Alters.{Alters, gone, fates, coming, conds_in, portion_in, modified, IsVersionOf, AreTyped}
use Rattle.tql_plan_access.specs.Access.{IsShown, ServesChange}
use Rattle.tql_store.specs.StoreModel.{StoreModel, live}
use Rattle.tql_versions.specs.Changes.{is_current}
use Rattle.tql_store.specs.Views.{IsFound}
use Rattle.tql_store.specs.declared.store.Delta.{Delta}
use Rattle.tql_versions.specs.declared.version.Version.{Version}
use Rattle.tql_value.specs.declared.refusal.Refusal.{Refusal}
use Rattle.tql_value.specs.declared.refusal.Refusal.TheVariants.{OutOfMemory}
use Rattle.tql_value.specs.declared.when.When.TheVariants.{Now}

-- each current row of the table has all columns, and an application period from one point to a later one of the same
-- type
abbrev pub AreShown : StoreModel → Table → Type 0
AreShown h p =
    (r : Stamped) → In r (map (λ (v : kept.Version). v.row) (filter is_current (live h p.id))) → IsShown p.definition r

-- the change or its fault, from the versions that were read; these are the current versions whose stored cells pass a
-- test, and include all that the change can affect
pub record Made (h : StoreModel) (p : Table) (x : Modification) (result : Result Delta Refusal) : Type 0 where
  pub looks : Row → Bool
  pub serves : ServesChange p.definition (portion_in x) (conds_in x) looks
  pub shown : AreShown h p
  pub seen : List Version
  pub found : IsFound h p.id Now looks seen
  pub alters : Alters p.id (gone p.definition x seen) (λ m. coming (fates p.definition seen x m))
      (modified p.definition seen x) result
  pub fits : All (IsVersionOf p.definition) seen → AreTyped p.definition seen x
      → IfOk result (λ delta. All (IsRowOf p.definition) delta.added.items)

-- the result; an allocation may be refused
abbrev pub Makes : StoreModel → Table → Modification → Result Delta Refusal → Type 0
Makes h p x (Ok delta) = Made h p x (Ok delta)
Makes h p x (Err OutOfMemory) = ⊤
Makes h p x (Err e) = Made h p x (Err e)
