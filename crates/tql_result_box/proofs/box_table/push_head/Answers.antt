use lib.Utf8.{encode}
use Rattle.tql_result.proofs.Pushing.{joined, ended}
use Rattle.tql_result_box.proofs.box_table.push_head.Goals as goal

pub returns-in_err-push_rule : goal.returns-in_err-push_rule
unfolding encode
returns-in_err-push_rule g c = ended _ _ c.from_residual.ensures.0 c.in_err-push_rule.ensures

pub returns-in_err-push_headings : goal.returns-in_err-push_headings
unfolding encode
returns-in_err-push_headings g c =
    joined c.in_ok-push_rule.ensures
    (ended _ _ c.from_residual-in_err-push_headings.ensures.0 c.in_err-push_headings.ensures)

pub returns : goal.returns
unfolding encode
returns g c = joined c.in_ok-push_rule.ensures (joined c.in_ok-push_headings.ensures c.push_rule-2.ensures)
