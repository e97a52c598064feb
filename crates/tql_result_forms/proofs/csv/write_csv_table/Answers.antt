use Rattle.std.proofs.Common.{ap, map, string_bytes}
use Rattle.tql_result_laws.specs.Csv.{text_field, field, csv_line}
use Rattle.tql_result.proofs.Printing.{values_print}
use Rattle.tql_result.proofs.Pushing.{joined, ended, as_text}
use Rattle.tql_result_forms.proofs.Lines.{lines_are}
use Rattle.tql_result_forms.proofs.csv.write_csv_table.Goals as goal

pub push_rows-requires : goal.push_rows-requires
push_rows-requires g c = values_print _ _ c.as_slice-2.ensures.value c.requires

pub returns-in_err-push_headings : goal.returns-in_err-push_headings
returns-in_err-push_headings g c =
    ended _ _ c.from_residual.ensures.0
    (as_text (ap (λ l. csv_line (map text_field (map string_bytes l))) c.as_slice.ensures.value)
    c.in_err-push_headings.ensures)

pub returns : goal.returns
returns g c =
    joined
    (as_text (ap (λ l. csv_line (map text_field (map string_bytes l))) c.as_slice.ensures.value)
    c.in_ok-push_headings.ensures)
    (as_text (lines_are (λ r. csv_line (map field r)) _ _ c.as_slice-2.ensures.value) c.push_rows.ensures)
