use Rattle.std.proofs.Common.{rules, ◌≡◌, ◌∙◌, ◌==◌, true, length}
use Rattle.tql_bind_change.proofs.ColumnLaws.{all_filled}
use Rattle.tql_bind_change.proofs.columns.insert_columns.Goals as goal

pub returns-then-is_empty : goal.returns-then-is_empty
returns-then-is_empty c =
    let names = c.args.names.now in
    let none : (length names == 0) ≡ true = search rules in
    all_filled c.args.definition.now names c.in_ok-from_slice.field-0.items c.args.faults.now none
    (c.in_ok-from_slice.ensures.items ∙ c.assignable.ensures.assignable)
