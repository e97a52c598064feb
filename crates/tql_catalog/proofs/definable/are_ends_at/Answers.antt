use Rattle.std.proofs.Common.{◌∙◌}
use Rattle.tql_catalog.proofs.ColumnNames.{ends_there}
use Rattle.tql_catalog.proofs.definable.are_ends_at.Goals as goal

pub returns : goal.returns
returns c =
    let at = ends_there c.args.columns.now c.args.start c.args.end c.index-columns-start.result
    c.index-columns-end.result c.requires.start c.requires.end in
    c.are_ends.ensures ∙ at
