use lib.Utf8.{encode}
use Rattle.tql_result.proofs.Pushing.{joined, ended, as_text}
use Rattle.tql_result_box.proofs.lines.push_boxed.Goals as goal

pub returns-in_err-push_all : goal.returns-in_err-push_all
unfolding encode
returns-in_err-push_all g c =
    ended _ _ c.from_residual.ensures.0 (as_text c.as_bytes.ensures.value c.in_err-push_all.ensures)

pub returns-in_err-push_filled : goal.returns-in_err-push_filled
unfolding encode
returns-in_err-push_filled g c =
    joined (as_text c.as_bytes.ensures.value c.in_ok-push_all.ensures)
    (ended _ _ c.from_residual-in_err-push_filled.ensures.0 c.in_err-push_filled.ensures)

pub returns : goal.returns
unfolding encode
returns g c =
    joined (as_text c.as_bytes.ensures.value c.in_ok-push_all.ensures)
    (joined c.in_ok-push_filled.ensures c.push_all-2.ensures)
