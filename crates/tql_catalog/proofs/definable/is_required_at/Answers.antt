use Rattle.std.proofs.Common.{◌∙◌}
use Rattle.tql_catalog.proofs.ColumnNames.{required_there}
use Rattle.tql_catalog.proofs.definable.is_required_at.Goals as goal

pub returns-then-number-columns : goal.returns-then-number-columns
returns-then-number-columns c = c.is_required.ensures
    ∙ required_there c.args.columns.now c.args.number c.index-columns-number.result c.if-number-columns.true
    c.index-columns-number.is
