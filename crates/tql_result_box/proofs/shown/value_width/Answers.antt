use Rattle.tql_result_box.proofs.Widths.{width_of_day}
use Rattle.tql_result_box.proofs.shown.value_width.Goals as goal

pub returns-in-Day : goal.returns-in-Day
returns-in-Day c = width_of_day _ _ c.in-Day.is c.requires
