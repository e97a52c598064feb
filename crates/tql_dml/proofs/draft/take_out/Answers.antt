use Rattle.std.proofs.Common.{ap, ◌∙◌}
use Rattle.tql_dml.specs.Cells.{data_of}
use Rattle.tql_dml.proofs.Removals.{data_remove}
use Rattle.tql_dml.proofs.draft.take_out.Goals as goal

pub returns-then-place-len : goal.returns-then-place-len
returns-then-place-len c = ap data_of c.remove.ensures.items ∙ data_remove c.args.row.items c.args.place
