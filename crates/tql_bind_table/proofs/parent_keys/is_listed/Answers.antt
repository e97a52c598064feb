use Rattle.std.proofs.Common.{◌∙◌, rules}
use Rattle.std.proofs.lemmas.Fn.{always_returns_same}
use Rattle.tql_bind_table.proofs.KeyListLaws.{by_columns, searched}
use Rattle.tql_bind_table.proofs.parent_keys.is_listed.Goals as goal

pub returns : goal.returns
returns c =
    let is = c.args.columns.now in
    let ls = c.args.lists.now in
    c.is_ok.ensures.value
    ∙ searched is ls c.binary_search_by.result c.binary_search_by.ensures.bound
    (c.binary_search_by.ensures.position (by_columns is)
    (always_returns_same _ _ _ (λ a r f' k. (search rules, search rules)))) c.requires
