use Rattle.std.proofs.Common.{rules, tests, ◌∙◌}
use Rattle.std.proofs.lemmas.Iterator.{YieldsList-from_slice}
use Rattle.std.proofs.lemmas.Iterator.Consumers.{count_from_yields_List, YieldsList-from_filter}
use Rattle.tql_spec.specs.Creation.{is_row_end}
use Rattle.tql_bind_draft.proofs.ColumnLaws.{has_generated, counted}
use Rattle.tql_bind_draft.proofs.columns.end_count.Goals as goal

pub returns : goal.returns
returns c =
    let columns = c.args.columns.now in
    count_from_yields_List _ _ c.count.ensures.ran
    (YieldsList-from_filter _ (has_generated is_row_end) (YieldsList-from_slice columns cc) c.filter.ensures.closure
    (λ x b q k. search (rules, tests)))
    ∙ counted is_row_end 0 columns
