-- The changes of the reference model that bound ones represent.
use Rattle.std.specs.Prelude.{List, map, option_map, Vec}
use Rattle.tql_spec.specs.Expression as bound
use Rattle.tql_spec.specs.Machine as machine
use Rattle.tql_spec.specs.Machine.{InsertTuples, InsertQuery, Modify}
use Rattle.tql_period.specs.Points.{points_of}
use Rattle.tql_expr.specs.Meaning.{expr, cond}
use Rattle.tql_expr.specs.declared.terms.ExprId.{ExprId}
use Rattle.tql_expr.specs.declared.terms.Terms.{Terms}
use Rattle.tql_bound.specs.declared.change.Insertion.{Insertion}
use Rattle.tql_bound.specs.declared.change.Modification.{Modification}
use Rattle.tql_bound.specs.declared.change.QueryInsertion.{QueryInsertion}
use Rattle.tql_bound.specs.Queries.{bound_query_of}
use Rattle.tql_bound.specs.Works.{work_of}

-- the expressions of a tuple
abbrev pub tuple_of : {A : Type 0} → Terms → Vec ExprId A → List bound.Expr
tuple_of t ids = map (expr t) ids.items

-- INSERT of tuples
abbrev pub insertion_of : Insertion → machine.Change
insertion_of x = InsertTuples x.table x.columns.items (map (tuple_of x.terms) x.tuples.items)

-- INSERT from a query
abbrev pub query_insertion_of : QueryInsertion → machine.Change
query_insertion_of x = InsertQuery x.table x.columns.items (bound_query_of x.query)

-- UPDATE and DELETE, of a portion or of none
abbrev pub modification_of : Modification → machine.Change
modification_of x = Modify x.table (option_map points_of x.portion) (work_of x.terms x.work)
    (map (cond x.terms) x.conjuncts.items)
