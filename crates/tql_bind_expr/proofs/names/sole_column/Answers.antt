use Rattle.std.proofs.Common.{ap, sym, ◌∙◌}
use Rattle.tql_bind_expr.specs.Columns.{sole_column}
use Rattle.tql_bind_expr.specs.Scopes.{things_of}
use Rattle.tql_bind_expr.proofs.Loops.{only}
use Rattle.tql_bind_expr.proofs.names.sole_column.Goals as goal

pub returns-in-len1 : goal.returns-in-len1
returns-in-len1 c = c.as_column.ensures
    ∙ ap (λ xs. sole_column (things_of xs))
    (sym (only c.args.found.now c.thing-item.result c.in-len1.len_at_least c.in-len1.len_below c.thing-item.is))
