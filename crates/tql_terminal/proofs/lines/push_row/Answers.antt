use lib.Utf8.{encode}
use Rattle.tql_result.proofs.Pushing.{joined, as_text}
use Rattle.tql_terminal.proofs.lines.push_row.Goals as goal

pub returns : goal.returns
unfolding encode
returns g c = joined c.in_ok-push_cells.ensures (as_text c.as_bytes.ensures.value c.push_all.ensures)
