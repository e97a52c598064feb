use Rattle.tql_value.proofs.LiteralLemmas.{time_read-is}
use Rattle.tql_value.proofs.literal.time_at_end.Goals as goal

pub returns-then-has_signs_of_time-clause-value : goal.returns-then-has_signs_of_time-clause-value
returns-then-has_signs_of_time-clause-value c =
    let fraction = rw c.rest_from.ensures at c.in_ok-fraction.ensures.value in
    time_read-is c.args.bytes.now _ _ _ _ _ c.in_ok-hour.ensures c.in_ok-minute.ensures c.in_ok-second.ensures
    fraction c.in_ok-micros.ensures.value c.if-has_signs_of_time.ensures
