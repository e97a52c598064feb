use Rattle.std.proofs.Common.{sym, ◌∙◌}
use Rattle.tql_bind_cond.proofs.SoleLaws.{sole_alone, sole_behind}
use Rattle.tql_bind_cond.proofs.sole_names.sole_name.Goals as goal

pub returns-then-is_empty : goal.returns-then-is_empty
returns-then-is_empty c = c.sole_factor.ensures
    ∙ sym (sole_alone c.args.expr.now (sym c.is_empty.ensures ∙ c.if-is_empty.true))

pub returns-else-is_empty : goal.returns-else-is_empty
returns-else-is_empty c = sym (sole_behind c.args.expr.now (sym c.is_empty.ensures ∙ c.if-is_empty.false))
