use Rattle.tql_run_forms.specs.Forms.{box_texts}
use Rattle.tql_run_forms.proofs.Writing.{always_writes}
use Rattle.tql_run_forms.proofs.box_form.BoxFormForm.write.Goals as goal

pub returns : goal.returns
returns g c =
    always_writes box_texts _ _ _ c.push_answer.ensures.0 c.push_answer.result _ _ _ _ (λ earlier.
    c.push_answer.ensures.1)
    c.push_answer.ensures.2
