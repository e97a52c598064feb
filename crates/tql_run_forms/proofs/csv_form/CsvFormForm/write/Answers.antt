use Rattle.std.proofs.Common.{ap, Bool}
use Rattle.std.specs.Prelude.{◌||◌}
use Rattle.tql_run_forms.proofs.Writing.{csv_writes}
use Rattle.tql_run_forms.proofs.csv_form.CsvFormForm.write.Goals as goal

pub returns : goal.returns
returns g c =
    csv_writes _ _ _ _ _ c.push_answer-outcome.result _ _ _ _
    (ap (λ (b : Bool). c.args.self.now.has_table || b) c.is_table.ensures) c.push_answer-outcome.ensures
