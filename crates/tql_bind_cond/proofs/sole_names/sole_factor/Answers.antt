use Rattle.std.proofs.Common.{sym, ◌∙◌}
use Rattle.tql_bind_cond.proofs.SoleLaws.{factor_alone, factor_behind}
use Rattle.tql_bind_cond.proofs.sole_names.sole_factor.Goals as goal

pub returns-then-is_empty : goal.returns-then-is_empty
returns-then-is_empty c = c.name_in.ensures
    ∙ sym (factor_alone c.args.product.now (sym c.is_empty.ensures ∙ c.if-is_empty.true))

pub returns-else-is_empty : goal.returns-else-is_empty
returns-else-is_empty c = sym (factor_behind c.args.product.now (sym c.is_empty.ensures ∙ c.if-is_empty.false))
