use Rattle.std.proofs.Common.{◌∙◌, ap, map, string_bytes}
use Rattle.std.specs.List.{flat_map}
use Rattle.tql_result_laws.specs.Jsonl.{row_line}
use Rattle.tql_value.specs.Views.{row_of}
use Rattle.tql_result.proofs.Printing.{values_print}
use Rattle.tql_result.proofs.Pushing.{as_text}
use Rattle.tql_result_forms.proofs.Lines.{lines_are}
use Rattle.tql_result_forms.proofs.jsonl.write_json_rows.Goals as goal

pub push_objects-requires : goal.push_objects-requires
push_objects-requires g c = values_print _ _ c.as_slice-2.ensures.value c.requires

pub returns : goal.returns
returns g c =
    as_text
    (ap (λ l. flat_map (λ r. row_line (map string_bytes l) (row_of r.items)) c.as_slice-2.result.now)
    c.as_slice.ensures.value
    ∙ lines_are (row_line (map string_bytes c.args.table.now.headings.items)) _ _ c.as_slice-2.ensures.value)
    c.push_objects.ensures
