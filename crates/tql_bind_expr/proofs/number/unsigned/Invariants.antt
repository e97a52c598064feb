use Rattle.std.proofs.Common.{◌≡◌, drop}
use Rattle.tql_spec.specs.Calendar.{number_from, number_of}
use Rattle.tql_bind_expr.proofs.number.unsigned.Given as goal

abbrev pub invariant-loop-digit : goal.invariant-loop-digit
invariant-loop-digit l = number_from l.number (drop l.digit-index l.digits) ≡ number_of l.digits
