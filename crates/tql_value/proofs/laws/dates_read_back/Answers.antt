use Rattle.tql_value.proofs.DayNumbers.{parts_are_dates, parts_read_back}
use Rattle.tql_value.proofs.MomentNumbers.{moments_read_back}
use Rattle.tql_value.proofs.laws.dates_read_back.Goals as goal

pub returns-clause-days : goal.returns-clause-days
returns-clause-days c = parts_are_dates

pub returns-clause-dates : goal.returns-clause-dates
returns-clause-dates c = parts_read_back

pub returns-clause-moments : goal.returns-clause-moments
returns-clause-moments c = moments_read_back
