use Rattle.tql_syntax_tree.specs.Statements.{boxed_select_of, orders_of, statement_of}
use Rattle.tql_engine_read.proofs.ColumnKinds.{binding_refused, query_clean, query_told}
use Rattle.tql_engine_read.proofs.held.Held.kinds_asked.Goals as goal

pub kinds_of-requires-clause-clean : goal.kinds_of-requires-clause-clean
kinds_of-requires-clause-clean g c s st =
    let q = c.args.query.now in
    query_clean s (statement_of c.args.statement.now) (boxed_select_of q.select) (orders_of q.ordering) c.requires.asks
    (c.in-Ok.ensures s st)

pub returns : goal.returns
returns g c s st =
    let q = c.args.query.now in
    query_told c.args.self.now s (statement_of c.args.statement.now) (boxed_select_of q.select) (orders_of q.ordering)
    c.in_ok-kinds.kinds.items st c.requires.asks (c.in-Ok.ensures s st) c.in_ok-kinds.ensures

pub returns-in-Err : goal.returns-in-Err
returns-in-Err g c s st =
    binding_refused s (statement_of c.args.statement.now) _ _ c.in-Err.refusal c.requires.asks (c.in-Err.ensures s st)
