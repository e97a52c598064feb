-- One more row.
use Rattle.std.specs.Prelude.{map}
use Rattle.tql_expr.specs.Meaning.{cond, expr}
use Rattle.tql_exec_join.specs.Tuples.{tuple_row}
use Rattle.tql_value.specs.Views.{rows_of}
use Rattle.tql_exec_group.proofs.Scopes.{listed_if}
use Rattle.tql_exec_group.proofs.listing.ListingSink.take.Goals as goal

pub returns : goal.returns
returns c =
    let t = c.args.self.now.terms.now in
    listed_if (map (cond t) c.args.self.now.having.now) (map (expr t) c.args.self.now.items.now)
    (tuple_row c.args.row.now) (rows_of c.args.state.now.items) _ c.add_scope.result c.add_scope.ensures
