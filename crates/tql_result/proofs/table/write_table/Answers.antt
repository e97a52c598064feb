use Rattle.std.proofs.Common.{refl}
use Rattle.tql_result.proofs.Printing.{values_print, headings_are, rows_are, count_is}
use Rattle.tql_result.proofs.Pushing.{joined, ended, as_text}
use Rattle.tql_result.proofs.table.write_table.Goals as goal

pub push_rows-requires : goal.push_rows-requires
push_rows-requires g c = values_print _ _ c.as_slice-rows.ensures.value c.requires

pub returns-in_err-push_rows : goal.returns-in_err-push_rows
returns-in_err-push_rows g c =
    ended _ _ c.from_residual-in_err-push_rows.ensures.0
    (joined (as_text (headings_are _ _ c.as_slice.ensures.value) c.in_ok-push_headings.ensures)
    (as_text (rows_are _ _ c.as_slice-rows.ensures.value) c.in_err-push_rows.ensures))

pub returns : goal.returns
returns g c =
    joined
    (joined (as_text (headings_are _ _ c.as_slice.ensures.value) c.in_ok-push_headings.ensures)
    (as_text (rows_are _ _ c.as_slice-rows.ensures.value) c.in_ok-push_rows.ensures))
    (as_text (count_is _ _ _ refl c.as_slice-rows.ensures.value) c.push_row_count.ensures)
