use Rattle.std.proofs.Common.{◌∷◌, [], sym, ◌∙◌, append_assoc}
use Rattle.tql_spec.specs.Text.{verb_text, count_text}
use Rattle.tql_result.specs.Replies.{plain_verb}
use Rattle.tql_result.proofs.Pushing.{joined, ended, as_text}
use Rattle.tql_result.proofs.print.push_done.Goals as goal

pub returns-in_err-push_count : goal.returns-in_err-push_count
returns-in_err-push_count g c =
    as_text (sym (append_assoc (verb_text (plain_verb c.args.verb)) (count_text c.args.count) (10 ∷ [])))
    (joined (as_text (c.as_bytes.ensures.value ∙ c.text.ensures) c.in_ok-push_all.ensures)
    (ended _ _ c.from_residual-in_err-push_count.ensures.0 c.in_err-push_count.ensures))

pub returns : goal.returns
returns g c =
    as_text (sym (append_assoc (verb_text (plain_verb c.args.verb)) (count_text c.args.count) (10 ∷ [])))
    (joined (as_text (c.as_bytes.ensures.value ∙ c.text.ensures) c.in_ok-push_all.ensures)
    (joined c.in_ok-push_count.ensures c.push_all-2.ensures))
