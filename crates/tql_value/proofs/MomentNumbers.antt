-- A moment is its days and its microseconds.
use Rattle.std.proofs.Common.{◌≡◌, ℕ, ◌+◌, ◌*◌, ◌/◌, ◌%◌, ◌<◌, ap, ◌∙◌, arith, ℤ, pos, negsuc, refl, ◌≤ℤ◌, ◌+ℤ◌, ◌-ℤ◌}
use Rattle.std.proofs.Common.{nat_abs}
use Rattle.std.proofs.Math.IntN as IntN
use Rattle.jiff_core.proofs.SignedLemmas.{signed_arith}
use Rattle.tql_spec.specs.Calendar.{day_count, day_length, start_offset, moment_number}
use Rattle.tql_value.specs.Points.{MomentsReadBack}
use Rattle.tql_value.proofs.DayNumbers.{date_after_start-date, days_after_start-date_after_start, date-to_test}

number_of_parts : (n : ℕ) → moment_number (n / day_length) (n % day_length) ≡ pos n -ℤ pos (start_offset * day_length)
number_of_parts n = let whole : n / day_length * day_length + n % day_length ≡ n =
    omega arith in ap (λ k. pos k -ℤ pos (start_offset * day_length)) whole

nat_abs-nonnegative : (z : ℤ) → pos 0 ≤ℤ z → pos (nat_abs z) ≡ z
nat_abs-nonnegative (pos n) h = refl
nat_abs-nonnegative (negsuc n) h = absurd (omega (arith, signed_arith))

pub moments_read_back : MomentsReadBack
moments_read_back m h =
    let start = pos (start_offset * day_length) in
    let n = nat_abs (m +ℤ start) in
    let low = h.0 in let high = h.1 in
    let after : pos 0 ≤ℤ (m +ℤ start) = omega (arith, signed_arith) in
    let counted : pos n ≡ m +ℤ start = nat_abs-nonnegative (m +ℤ start) after in
    let is : pos n -ℤ start ≡ m = ap (λ z. z -ℤ start) counted ∙ IntN.+ℤ-neg_ℤ_cancel m start in
    let small : n < day_count * day_length = omega (arith, signed_arith) in
    let within : n / day_length < day_count = omega arith in
    let back = days_after_start-date_after_start (n / day_length) in (
      date-to_test _ _ _ (date_after_start-date (n / day_length) within),
      ap (λ days. moment_number days (n % day_length)) back ∙ number_of_parts n ∙ is,
    )
