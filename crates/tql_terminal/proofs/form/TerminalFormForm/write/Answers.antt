use Rattle.tql_run_forms.proofs.Writing.{always_writes}
use Rattle.tql_terminal.specs.Terminal.{terminal_texts}
use Rattle.tql_terminal.proofs.form.TerminalFormForm.write.Goals as goal

pub returns : goal.returns
returns g c =
    always_writes terminal_texts _ _ _ c.push_answer.ensures.0 c.push_answer.result _ _ _ _ (λ earlier.
    (c.args.self.now.width, c.push_answer.ensures.1))
    c.push_answer.ensures.2
