use Rattle.tql_terminal.proofs.Answering.{other_shown}
use Rattle.tql_terminal.proofs.form.push_other.Goals as goal

pub returns : goal.returns
returns g c = (_, other_shown c.args.width _ c.requires.other, c.push_accepted.ensures)
