use Rattle.std.proofs.Common.{w8, w16, arith}
use Rattle.tql_value.proofs.JiffDays.{IsDateOf-from_result}
use Rattle.tql_value.proofs.PointCasts.{bits_of_conversion}
use Rattle.tql_value.proofs.calendar.date_of.Goals as goal

pub returns : goal.returns
returns c =
    let year = bits_of_conversion w16 c.try_from.result c.in_ok-year.year _ c.try_from.ensures
    c.in_ok-year.ensures.value in
    let month = bits_of_conversion w8 c.try_from-2.result c.in_ok-month.month _ c.try_from-2.ensures
    c.in_ok-month.ensures.value in
    let day = bits_of_conversion w8 c.try_from-3.result c.in_ok-day.day _ c.try_from-3.ensures
    c.in_ok-day.ensures.value in
    IsDateOf-from_result c.args.year c.args.month c.args.day _ _ _ c.new.result c.ok-4.result (omega arith) year
    month day c.ok-4.ensures.value c.new.ensures.succeeds c.new.ensures.value
