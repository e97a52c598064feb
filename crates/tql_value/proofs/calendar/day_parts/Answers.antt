use Rattle.std.proofs.Common.{ap, arith, ◌∙◌, pos, nat_abs, ◌+ℤ◌, FitsSigned, w64}
use Rattle.jiff_core.proofs.SignedLemmas.{signed_arith}
use Rattle.tql_spec.specs.Calendar.{date_after_start}
use Rattle.tql_value.proofs.PointCasts.{sum_of_bits}
use Rattle.tql_value.proofs.calendar.day_parts.Goals as goal

pub returns-clause-date : goal.returns-clause-date
returns-clause-date c =
    let fits : FitsSigned w64 (c.args.day +ℤ pos 719162) = omega (arith, signed_arith) in
    c.parts_after.ensures.date
    ∙ ap (λ z. date_after_start (nat_abs z)) (sum_of_bits c.args.day (pos 719162) c.ranges.day fits)
