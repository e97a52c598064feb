use Rattle.std.proofs.Common.{map, string_bytes}
use Rattle.tql_result.proofs.Pushing.{joined, ended, as_text}
use Rattle.tql_result_box.proofs.Columns.{bars_same}
use Rattle.tql_result_box.proofs.lines.push_rule.Goals as goal

pub returns-in_err-push_all : goal.returns-in_err-push_all
returns-in_err-push_all g c =
    ended _ _ c.from_residual.ensures.0 (as_text c.as_bytes.ensures.value c.in_err-push_all.ensures)

pub returns-in_err-push_bars : goal.returns-in_err-push_bars
returns-in_err-push_bars g c =
    joined (as_text c.as_bytes.ensures.value c.in_ok-push_all.ensures)
    (ended _ _ c.from_residual-in_err-push_bars.ensures.0
    (as_text (bars_same c.args.layouts.now (map string_bytes c.args.names.now) c.as_bytes-2.ensures.value)
    c.in_err-push_bars.ensures))

pub returns-in_err-push_all-2 : goal.returns-in_err-push_all-2
returns-in_err-push_all-2 g c =
    joined (as_text c.as_bytes.ensures.value c.in_ok-push_all.ensures)
    (joined
    (as_text (bars_same c.args.layouts.now (map string_bytes c.args.names.now) c.as_bytes-2.ensures.value)
    c.in_ok-push_bars.ensures)
    (ended _ _ c.from_residual-in_err-push_all-2.ensures.0
    (as_text c.as_bytes-3.ensures.value c.in_err-push_all-2.ensures)))

pub returns : goal.returns
returns g c =
    joined (as_text c.as_bytes.ensures.value c.in_ok-push_all.ensures)
    (joined
    (as_text (bars_same c.args.layouts.now (map string_bytes c.args.names.now) c.as_bytes-2.ensures.value)
    c.in_ok-push_bars.ensures)
    (joined (as_text c.as_bytes-3.ensures.value c.in_ok-push_all-2.ensures) c.push_all-3.ensures))
