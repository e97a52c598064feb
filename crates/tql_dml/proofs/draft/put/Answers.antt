use Rattle.std.proofs.lemmas.List.{map-set}
use Rattle.tql_value.specs.Views.{datum_of_view}
use Rattle.tql_dml.proofs.draft.put.Goals as goal

pub returns-then-column-row : goal.returns-then-column-row
returns-then-column-row c = map-set datum_of_view c.args.row.now c.args.column c.args.value
