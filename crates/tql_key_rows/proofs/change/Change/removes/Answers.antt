use Rattle.std.proofs.Common.{◌∙◌}
use Rattle.std.proofs.lemmas.List.Sorted.{searched}
use Rattle.tql_key_rows.proofs.Listed.{search_tells}
use Rattle.tql_key_rows.proofs.change.Change.removes.Goals as goal

pub returns : goal.returns
returns c =
    let ids = c.args.self.now.removed.now in
    c.is_ok.ensures.value
    ∙ search_tells ids c.args.id c.binary_search.result
    (searched ids c.args.id c.binary_search.result c.binary_search.ensures.position c.args.self.now.rising)
