use Rattle.std.proofs.Common.{◌≡◌, Some, true, pos, ap, ◌∙◌, arith, nat_abs, ◌+ℤ◌, FitsSigned, w32, w64, to_z-of_z}
use Rattle.jiff_core.proofs.SignedLemmas.{signed_arith}
use Rattle.tql_spec.specs.Calendar.{is_date, days_after_start, day_number}
use Rattle.tql_value.proofs.PointCasts.{sum_of_bits, sum_of_difference}
use Rattle.tql_value.proofs.calendar.days_to_date.Goals as goal

pub returns-clause-value : goal.returns-clause-value
returns-clause-value c =
    let valid : is_date c.args.year c.args.month c.args.day ≡ true = c.in_ok-date.ensures.valid in
    let found = rw c.to_plain.ensures at c.to_unix_epoch_day-number.ensures.value in
    let small : FitsSigned w32 c.to_unix_epoch_day-number.result = omega (arith, signed_arith) in
    let same : c.from.result ≡ day_number c.args.year c.args.month c.args.day =
    c.from.ensures ∙ to_z-of_z small ∙ found ∙ c.in_ok-date.ensures.number in
    let sum = sum_of_difference c.from.result (days_after_start c.args.year c.args.month c.args.day) 719162 same in
    let fits : FitsSigned w64 c.from.result = omega (arith, signed_arith) in
    let fits_sum : FitsSigned w64 (c.from.result +ℤ pos 719162) = omega (arith, signed_arith) in
    rw valid (ap (λ z. Some (nat_abs z)) (sum_of_bits c.from.result (pos 719162) fits fits_sum ∙ sum))
