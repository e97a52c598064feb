use Rattle.std.proofs.Common.{rules, tests, ◌∙◌}
use Rattle.std.proofs.lemmas.Iterator.{YieldsList-from_slice}
use Rattle.std.proofs.lemmas.Iterator.Search.{position_from_yields_List}
use Rattle.tql_bind_draft.proofs.ColumnLaws.{is_called, number_of_columns}
use Rattle.tql_bind_draft.proofs.columns.number_in.Goals as goal

pub returns : goal.returns
returns c =
    let n = c.args.name.now in
    let columns = c.args.columns.now in
    position_from_yields_List (is_called n) _ _ _ c.position.ensures.ran (YieldsList-from_slice columns cc)
    (λ x b q k. search (rules, tests)) ∙ number_of_columns n columns
