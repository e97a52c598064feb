-- One group without grouping columns, else one for each key.
use Rattle.std.proofs.Common.{sym, ◌∙◌}
use Rattle.tql_exec_group.proofs.Groups.{count_kept, count_one}
use Rattle.tql_exec_group.proofs.grouping.Grouping.count.Goals as goal

pub returns-then-is_empty : goal.returns-then-is_empty
returns-then-is_empty c = λ rows is.
    count_one c.args.self.now.columns.now rows (sym c.is_empty.ensures ∙ c.if-is_empty.true)

pub returns-else-is_empty : goal.returns-else-is_empty
returns-else-is_empty c = λ rows is.
    c.len.ensures
    ∙ count_kept c.args.self.now.columns.now rows c.args.keys.now (sym c.is_empty.ensures ∙ c.if-is_empty.false) is
