use Rattle.std.proofs.Common.{rules, arith, ◌∙◌}
use Rattle.std.proofs.lemmas.Grind.{common_steps}
use Rattle.tql_spec.specs.Syntax.{ColumnTree}
use Rattle.tql_spec.specs.Creation.{is_row_end}
use Rattle.tql_bind_draft.proofs.ColumnLaws.{generated_at, not_generated}
use Rattle.tql_bind_draft.proofs.columns.is_end_at.Goals as goal

pub returns-in-Some : goal.returns-in-Some
returns-in-Some c =
    c.is_row_end.ensures
    ∙ generated_at is_row_end c.args.columns.now c.args.number c.in-Some.column.now
    (first_of (search rules, grind (arith, common_steps))) (first_of (search rules, grind (arith, common_steps)))

pub returns-in-None : goal.returns-in-None
returns-in-None c = not_generated (λ (t : ColumnTree). is_row_end t.generated) c.args.columns.now c.args.number
    (first_of (search rules, grind (arith, common_steps)))
