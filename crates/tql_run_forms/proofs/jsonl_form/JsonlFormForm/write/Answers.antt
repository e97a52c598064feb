use Rattle.std.proofs.Common.{refl}
use Rattle.tql_run_forms.specs.Forms.{jsonl_texts}
use Rattle.tql_run_forms.proofs.Writing.{always_writes}
use Rattle.tql_run_forms.proofs.jsonl_form.JsonlFormForm.write.Goals as goal

pub returns : goal.returns
returns g c = always_writes jsonl_texts _ _ _ _ c.push_answer.result _ _ _ _ (λ earlier. refl) c.push_answer.ensures
