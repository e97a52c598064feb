use Rattle.std.proofs.Common.{arith}
use Rattle.tql_bind_expr.proofs.NumberLemmas.{out_of_range}
use Rattle.tql_bind_expr.proofs.number.unsigned.Goals as goal

pub returns-in_err-number : goal.returns-in_err-number
returns-in_err-number c =
    rw c.from_residual.ensures
    (out_of_range c.loop-digit.number c.loop-digit.digit-index _ c.args.digits.now (omega arith)
    c.loop-digit.invariant c.in_err-number.ensures)
