use Rattle.tql_result.specs.Replies.{headings_of, table_rows}
use Rattle.tql_result_box.specs.Box.{box_text}
use Rattle.tql_run_forms.proofs.Writing.{either_text}
use Rattle.tql_run_forms.proofs.box_form.push_box.Goals as goal

pub returns : goal.returns
returns g c =
    let headings = headings_of c.args.table.now in
    let rows = table_rows c.args.table.now in (
      _,
      either_text (λ l. box_text l headings rows) _ _ _ c.write_box_table.ensures.1,
      c.write_box_table.ensures.2,
    )
