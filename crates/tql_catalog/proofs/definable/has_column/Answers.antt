use Rattle.std.proofs.Common.{rules, tests, ◌∙◌}
use Rattle.std.proofs.lemmas.Iterator.{YieldsList-from_slice}
use Rattle.std.proofs.lemmas.Iterator.Search.{any_from_yields_List}
use Rattle.tql_catalog.proofs.ColumnNames.{is_called, any_called}
use Rattle.tql_catalog.proofs.definable.has_column.Goals as goal

pub returns : goal.returns
returns c =
    let n = c.args.name.now in
    let columns = c.args.columns.now in
    any_from_yields_List (is_called n) _ _ _ c.any.ensures.ran (YieldsList-from_slice columns cc)
    (λ x b q k. search (rules, tests)) ∙ any_called n columns
