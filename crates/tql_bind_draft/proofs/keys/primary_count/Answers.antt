use Rattle.std.proofs.Common.{rules, tests, ◌∙◌}
use Rattle.std.proofs.lemmas.Iterator.{YieldsList-from_slice}
use Rattle.std.proofs.lemmas.Iterator.Consumers.{count_from_yields_List, YieldsList-from_filter}
use Rattle.tql_bind_draft.proofs.ListLaws.{is_primary, primaries_counted}
use Rattle.tql_bind_draft.proofs.keys.primary_count.Goals as goal

pub returns : goal.returns
returns c =
    let keys = c.args.keys.now in
    count_from_yields_List _ _ c.count.ensures.ran
    (YieldsList-from_filter _ is_primary (YieldsList-from_slice keys cc) c.filter.ensures.closure
    (λ x b q k. search (rules, tests)))
    ∙ primaries_counted keys
