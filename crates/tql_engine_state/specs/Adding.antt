-- What an INSERT from a query adds, given the answer of the reference model to the query.
use Rattle.std.specs.Prelude.{◌≡◌, ◌⊎◌, List, [], All, Some, None, Result, Ok, Err, ⊤}
use Rattle.tql_spec.specs.Bag.{SameBag}
use Rattle.tql_spec.specs.Datum.{Row}
use Rattle.tql_spec.specs.Machine.{State, bag_of}
use Rattle.tql_spec.specs.Query.{answer}
use Rattle.tql_bound.specs.Queries.{bound_query_of}
use Rattle.tql_bound.specs.declared.change.QueryInsertion.{QueryInsertion}
use Rattle.tql_catalog.specs.Rows.{IsRowOf}
use Rattle.tql_catalog.specs.declared.catalog.Table.{Table}
use Rattle.tql_dml.specs.Alters.{Alters, added_rows}
use Rattle.tql_store.specs.declared.store.Delta.{Delta}
use Rattle.tql_value.specs.declared.refusal.Refusal.{Refusal}
use Rattle.tql_value.specs.declared.refusal.Refusal.TheVariants.{OutOfMemory, ValueOutOfRange}

-- the rows of the answer, in some order, are tested and added
pub record Added (s : State) (p : Table) (x : QueryInsertion) (result : Result Delta Refusal) : Type 0 where
  pub bag : List Row
  pub answered : answer (bag_of s) (bound_query_of x.query) ≡ Some bag
  pub rows : List Row
  pub same : SameBag rows bag
  pub alters : Alters p.id [] (λ m. (added_rows p.definition x.columns.items (Some rows) m).rows)
      (added_rows p.definition x.columns.items (Some rows)) result

-- the change; a refused allocation; or the query is out of range, or a new row has a fault
abbrev pub Adds : State → Table → QueryInsertion → Result Delta Refusal → Type 0
Adds s p x (Ok delta) = Added s p x (Ok delta) × All (IsRowOf p.definition) delta.added.items
Adds s p x (Err OutOfMemory) = ⊤
Adds s p x (Err e) = ((e ≡ ValueOutOfRange) × (answer (bag_of s) (bound_query_of x.query) ≡ None)) ⊎ Added s p x (Err e)
