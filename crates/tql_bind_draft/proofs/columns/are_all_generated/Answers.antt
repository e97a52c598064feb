use Rattle.std.proofs.Common.{rules, tests, ◌∙◌}
use Rattle.std.proofs.lemmas.Iterator.{YieldsList-from_slice}
use Rattle.std.proofs.lemmas.Iterator.Search.{all_from_yields_List}
use Rattle.tql_bind_draft.proofs.ColumnLaws.{is_given, all_given}
use Rattle.tql_bind_draft.proofs.columns.are_all_generated.Goals as goal

pub returns : goal.returns
returns c =
    let columns = c.args.columns.now in
    all_from_yields_List is_given _ _ _ c.all.ensures.ran (YieldsList-from_slice columns cc)
    (λ x b q k. search (rules, tests)) ∙ all_given columns
