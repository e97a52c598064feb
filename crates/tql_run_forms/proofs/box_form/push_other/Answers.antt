use Rattle.tql_run_forms.proofs.Writing.{other_box}
use Rattle.tql_run_forms.proofs.box_form.push_other.Goals as goal

pub returns : goal.returns
returns g c = (_, other_box _ c.requires.other, c.push_accepted.ensures)
