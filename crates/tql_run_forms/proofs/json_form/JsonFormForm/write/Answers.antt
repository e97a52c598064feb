use Rattle.std.proofs.Common.{ap, ℕ}
use Rattle.tql_result.proofs.Pushing.{as_text}
use Rattle.tql_result.specs.Replies.{answer_of}
use Rattle.tql_run_forms.specs.Faults.{json_of}
use Rattle.tql_run_forms.proofs.Writing.{json_writes}
use Rattle.tql_run_forms.proofs.json_form.JsonFormForm.write.Goals as goal

pub returns-clause-writes : goal.returns-clause-writes
returns-clause-writes g c =
    json_writes _ _ _ c.args.line c.args.detail (answer_of c.args.answer.now) c.push_answer.result _ _ _ _
    c.saturating_add-self.ensures c.push_answer.ensures

pub returns-clause-exact : goal.returns-clause-exact
returns-clause-exact g c =
    as_text (ap (λ (n : ℕ). json_of n c.args.line c.args.detail (answer_of c.args.answer.now))
    c.saturating_add-self.ensures) c.push_answer.ensures
