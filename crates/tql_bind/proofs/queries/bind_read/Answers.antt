use Rattle.std.proofs.Common.{sym, subst}
use Rattle.tql_spec.specs.Binding.{bind}
use Rattle.tql_spec.specs.Definition.{Name}
use Rattle.tql_spec.specs.Machine.{Read}
use Rattle.tql_bound.specs.Queries.{bound_query_of}
use Rattle.tql_catalog.specs.Tables.{definitions_of}
use Rattle.tql_bind_expr.specs.Gathered.{Gathers}
use Rattle.tql_syntax_tree.specs.Expressions.{name_of}
use Rattle.tql_syntax_tree.specs.Statements.{boxed_select_of, orders_of, read_of}
use Rattle.tql_bind.proofs.Limited.{read_bound}
use Rattle.tql_bind.proofs.queries.bind_read.Goals as goal

pub returns-clause-bound : goal.returns-clause-bound
returns-clause-bound c =
    let defs = definitions_of c.args.tables.now in
    let q = bound_query_of c.in_ok-query.query in
    subst (λ (n : Name). Gathers (bind defs (read_of c.args.name c.args.query.now)) c.args.faults.now
    c.bind_query.new.faults (Read n q)) (sym c.in_ok-reader.ensures)
    (read_bound defs (name_of c.args.name) (boxed_select_of c.args.query.now.select)
    (orders_of c.args.query.now.ordering) c.args.faults.now c.bind_query.new.faults q c.in_ok-query.ensures)
