use Rattle.std.proofs.Common.{rules, arith, ◌∙◌}
use Rattle.std.proofs.lemmas.Grind.{common_steps}
use Rattle.tql_bind_draft.proofs.ColumnLaws.{kind_there}
use Rattle.tql_bind_draft.proofs.columns.kind_at.Goals as goal

pub returns-in-Some : goal.returns-in-Some
returns-in-Some c =
    c.kind_of.ensures
    ∙ kind_there c.args.columns.now c.args.number c.in-Some.column.now
    (first_of (search rules, grind (arith, common_steps))) (first_of (search rules, grind (arith, common_steps)))
