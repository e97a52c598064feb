use Rattle.std.proofs.Common.{◌∙◌, sym, arith}
use Rattle.std.proofs.lemmas.Bool.Decides.{nat_tests}
use Rattle.tql_options.proofs.SizeLemmas.{no_number, whole_number}
use Rattle.tql_options.proofs.sizes.number.Goals as goal

pub returns-in_err-number : goal.returns-in_err-number
returns-in_err-number c = c.from_residual.ensures
    ∙ no_number c.loop-byte.number c.loop-byte.byte-index c.args.digits.now (omega arith) c.loop-byte.invariant.same
    (sym c.in_err-number.ensures)

pub returns : goal.returns
returns c =
    whole_number c.loop-byte.number c.loop-byte.byte-index c.args.digits.now c.loop-byte.invariant.small (omega arith)
    (grind (arith, nat_tests, c.is_empty.ensures, c.if-is_empty.false)) c.loop-byte.invariant.same
