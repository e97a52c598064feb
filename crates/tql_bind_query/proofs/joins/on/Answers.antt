use Rattle.std.proofs.Common.{List, [], map, sym, subst}
use Rattle.tql_expr.specs.Meaning.{cond}
use Rattle.tql_expr.specs.declared.terms.CondId.{CondId}
use Rattle.tql_syntax_tree.specs.Statements.{join_of}
use Rattle.tql_syntax_tree.specs.declared.statement.JoinTree.{JoinTree}
use Rattle.tql_bind_expr.specs.Gathered.{Gathers}
use Rattle.tql_bind_expr.specs.Scopes.{scope_of}
use Rattle.tql_bind_expr.proofs.Gathering.{sound_here}
use Rattle.tql_bind_query.specs.From.{on_in}
use Rattle.tql_bind_query.proofs.joins.on.Goals as goal

pub returns-in-Cross-clause-bound : goal.returns-in-Cross-clause-bound
returns-in-Cross-clause-bound c =
    let now = c.args.faults.now in
    let scope = scope_of c.args.scope.now in
    subst (λ (xs : List CondId). Gathers (on_in scope (join_of c.args.join.now)) now now
    (map (cond c.args.terms.now) xs)) (sym c.new.ensures.items)
    (subst (λ (j : JoinTree). Gathers (on_in scope (join_of j)) now now []) (sym c.in-Cross.is) (sound_here [] now))
