use Rattle.std.proofs.Math.Facts.{to_z-of_z}
use Rattle.tql_result_box.proofs.Widths.{length_of_second, length_of_micros}
use Rattle.tql_result_box.proofs.shown.moment_width.Goals as goal

pub returns-then-moment_parts-eq0 : goal.returns-then-moment_parts-eq0
returns-then-moment_parts-eq0 c =
    length_of_second (to_z-of_z c.ranges.moment) c.requires c.moment_parts.ensures.microsecond
    c.if-moment_parts-eq0.true

pub returns-else-moment_parts-eq0 : goal.returns-else-moment_parts-eq0
returns-else-moment_parts-eq0 c =
    length_of_micros (to_z-of_z c.ranges.moment) c.requires c.moment_parts.ensures.microsecond
    c.if-moment_parts-eq0.false
