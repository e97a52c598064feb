use Rattle.std.proofs.Common.{ap}
use Rattle.tql_syntax_tree.specs.Statements.{items_of}
use Rattle.tql_syntax_tree.specs.declared.statement.Items.{Items}
use Rattle.tql_bind_expr.specs.Scopes.{scope_of}
use Rattle.tql_bind_query.specs.Shown.{outputs_of, shown}
use Rattle.tql_bind_query.proofs.ShownLaws.{star_ok}
use Rattle.tql_bind_query.proofs.outputs.outputs.Goals as goal

pub returns-in-All-clause-bound : goal.returns-in-All-clause-bound
returns-in-All-clause-bound c =
    let scope = scope_of c.args.scope.now in
    star_ok scope (shown scope (items_of c.args.items.now)) (outputs_of c.all_columns.new.terms) c.args.faults.now
    c.all_columns.result (ap (λ (x : Items). shown scope (items_of x)) c.in-All.is) c.all_columns.ensures.bound
