use Rattle.std.proofs.Common.{sym, ◌∙◌}
use Rattle.tql_result.proofs.Pushing.{as_text}
use Rattle.tql_run_forms.proofs.Writing.{refusal_line, other_line}
use Rattle.tql_run_forms.proofs.json_form.push_answer.Goals as goal

pub returns-then-is_refused : goal.returns-then-is_refused
returns-then-is_refused g c =
    as_text (refusal_line _ _ c.args.detail _ _ _ (sym c.is_refused.ensures ∙ c.if-is_refused.true)
    c.line_of-line.ensures c.diagnostic_of.ensures)
    c.write_json_answer.ensures

pub returns-else-is_refused : goal.returns-else-is_refused
returns-else-is_refused g c =
    as_text (other_line _ _ c.args.detail _ (sym c.is_refused.ensures ∙ c.if-is_refused.false))
    c.write_json_answer-else-is_refused.ensures
