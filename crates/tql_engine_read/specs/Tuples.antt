-- What an INSERT of tuples adds.
use Rattle.std.specs.Prelude.{[], All, IfOk, Result}
use Rattle.tql_bound.specs.declared.change.Insertion.{Insertion}
use Rattle.tql_catalog.specs.Rows.{IsRowOf}
use Rattle.tql_catalog.specs.declared.catalog.Table.{Table}
use Rattle.tql_dml.specs.Alters.{Alters, inserted}
use Rattle.tql_store.specs.declared.store.Delta.{Delta}
use Rattle.tql_value.specs.declared.refusal.Refusal.{Refusal}

-- the change adds the tuples as rows of the table, or is refused for their first fault; an allocation may be refused
pub record AddsTuples (p : Table) (x : Insertion) (result : Result Delta Refusal) : Type 0 where
  pub alters : Alters p.id [] (λ m. (inserted p.definition x m).rows) (inserted p.definition x) result
  pub fits : IfOk result (λ delta. All (IsRowOf p.definition) delta.added.items)
