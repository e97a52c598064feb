-- One more row.
use Rattle.std.specs.Prelude.{map}
use Rattle.tql_expr.specs.Meaning.{cond, expr}
use Rattle.tql_exec_join.specs.Tuples.{tuple_row}
use Rattle.tql_exec_group.proofs.Scopes.{listed_if}
use Rattle.tql_exec_group.proofs.packing.PackingSink.take.Goals as goal

pub returns : goal.returns
returns c =
    let t = c.args.self.now.listing.terms.now in
    listed_if (map (cond t) c.args.self.now.listing.having.now) (map (expr t) c.args.self.now.listing.items.now)
    (tuple_row c.args.row.now) c.args.state.now.items _ c.pack_scope.result c.pack_scope.ensures
