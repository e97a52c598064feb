use Rattle.std.proofs.Math.Facts.{to_z-of_z}
use Rattle.tql_result.proofs.Clock.{moment_text}
use Rattle.tql_result.proofs.Pushing.{joined, ended, as_text}
use Rattle.tql_result.proofs.point.push_moment.Goals as goal

pub returns-in_err-push_all : goal.returns-in_err-push_all
returns-in_err-push_all g c =
    let parts = c.moment_parts-parts.ensures in
    as_text
    (moment_text _ (to_z-of_z c.ranges.moment) parts.date parts.hour parts.minute parts.second parts.microsecond)
    (ended _ _ c.from_residual.ensures.0 (as_text c.date_bytes.ensures c.in_err-push_all.ensures))

pub returns-in_err-push_all-2 : goal.returns-in_err-push_all-2
returns-in_err-push_all-2 g c =
    let parts = c.moment_parts-parts.ensures in
    as_text
    (moment_text _ (to_z-of_z c.ranges.moment) parts.date parts.hour parts.minute parts.second parts.microsecond)
    (joined (as_text c.date_bytes.ensures c.in_ok-push_all.ensures)
    (ended _ _ c.from_residual-in_err-push_all-2.ensures.0 (as_text c.clock_bytes.ensures c.in_err-push_all-2.ensures)))

pub returns : goal.returns
returns g c =
    let parts = c.moment_parts-parts.ensures in
    as_text
    (moment_text _ (to_z-of_z c.ranges.moment) parts.date parts.hour parts.minute parts.second parts.microsecond)
    (joined (as_text c.date_bytes.ensures c.in_ok-push_all.ensures)
    (joined (as_text c.clock_bytes.ensures c.in_ok-push_all-2.ensures) c.push_fraction.ensures))
