use lib.Utf8.{encode}
use Rattle.std.specs.Prelude.{codes, encode_utf8_all}
use Rattle.tql_result.proofs.Pushing.{joined, ended, as_text}
use Rattle.tql_result_box.proofs.Columns.{times_two}
use Rattle.tql_result_box.proofs.lines.push_bar.Goals as goal

pub returns-in_err-push_all : goal.returns-in_err-push_all
unfolding encode
returns-in_err-push_all g c =
    as_text (times_two c.args.width (encode_utf8_all (codes "─")))
    (ended _ _ c.from_residual.ensures.0 (as_text c.as_bytes.ensures.value c.in_err-push_all.ensures))

pub returns : goal.returns
unfolding encode
returns g c =
    as_text (times_two c.args.width (encode_utf8_all (codes "─")))
    (joined (as_text c.as_bytes.ensures.value c.in_ok-push_all.ensures) c.push_times.ensures)
