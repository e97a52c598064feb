use Rattle.std.proofs.Common.{ap, sym, ◌∙◌}
use Rattle.tql_bind_expr.specs.Scopes.{things_of}
use Rattle.tql_bind_expr.proofs.Loops.{only}
use Rattle.tql_bind_cond.specs.Ends.{sole_period}
use Rattle.tql_bind_cond.proofs.periods.sole_period.Goals as goal

pub returns-in-len1 : goal.returns-in-len1
returns-in-len1 c = c.as_period.ensures
    ∙ ap (λ xs. sole_period (things_of xs))
    (sym (only c.args.found.now c.thing-item.result c.in-len1.len_at_least c.in-len1.len_below c.thing-item.is))
