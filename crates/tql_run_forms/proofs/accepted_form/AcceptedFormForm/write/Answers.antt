use Rattle.std.proofs.Common.{refl}
use Rattle.tql_run_forms.specs.Forms.{accepted_texts}
use Rattle.tql_run_forms.proofs.Writing.{always_writes}
use Rattle.tql_run_forms.proofs.accepted_form.AcceptedFormForm.write.Goals as goal

pub returns : goal.returns
returns g c = always_writes accepted_texts _ _ _ _ c.push_accepted.result _ _ _ _ (λ earlier. refl)
    c.push_accepted.ensures
