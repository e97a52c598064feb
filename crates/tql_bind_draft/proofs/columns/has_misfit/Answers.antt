use Rattle.std.proofs.Common.{rules, tests, ◌∙◌}
use Rattle.std.proofs.lemmas.Iterator.{YieldsList-from_slice}
use Rattle.std.proofs.lemmas.Iterator.Search.{any_from_yields_List}
use Rattle.tql_bind_draft.proofs.ColumnLaws.{is_misfit, any_misfit}
use Rattle.tql_bind_draft.proofs.columns.has_misfit.Goals as goal

pub returns : goal.returns
returns c =
    let columns = c.args.columns.now in
    any_from_yields_List is_misfit _ _ _ c.any.ensures.ran (YieldsList-from_slice columns cc)
    (λ x b q k. search (rules, tests)) ∙ any_misfit columns
