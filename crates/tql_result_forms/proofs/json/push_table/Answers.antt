use Rattle.std.proofs.Common.{sym, ◌∙◌, ap, map, string_bytes}
use Rattle.std.proofs.lemmas.List.{append-nil}
use Rattle.tql_result_laws.specs.Json.{string, array, row_array}
use Rattle.tql_value.specs.Views.{row_of}
use Rattle.tql_result.proofs.Printing.{values_print}
use Rattle.tql_result.proofs.Pushing.{joined, ended, as_text}
use Rattle.tql_result_forms.proofs.json.push_table.Goals as goal

pub push_rows-requires : goal.push_rows-requires
push_rows-requires g c = values_print _ _ c.as_slice-2.ensures.value c.requires

pub returns-in_err-push_all : goal.returns-in_err-push_all
returns-in_err-push_all g c = ended _ _ c.from_residual.ensures.0 c.in_err-push_all.ensures

pub returns-in_err-push_names : goal.returns-in_err-push_names
returns-in_err-push_names g c =
    joined c.in_ok-push_all.ensures
    (ended _ _ c.from_residual-in_err-push_names.ensures.0
    (as_text (ap (λ l. array (map string (map string_bytes l))) c.as_slice.ensures.value) c.in_err-push_names.ensures))

pub returns-in_err-push_all-2 : goal.returns-in_err-push_all-2
returns-in_err-push_all-2 g c =
    joined c.in_ok-push_all.ensures
    (joined (as_text (ap (λ l. array (map string (map string_bytes l))) c.as_slice.ensures.value)
    c.in_ok-push_names.ensures)
    (ended _ _ c.from_residual-in_err-push_all-2.ensures.0 c.in_err-push_all-2.ensures))

pub returns : goal.returns
returns g c =
    joined c.in_ok-push_all.ensures
    (joined (as_text (ap (λ l. array (map string (map string_bytes l))) c.as_slice.ensures.value)
    c.in_ok-push_names.ensures)
    (joined c.in_ok-push_all-2.ensures
    (as_text
    (ap (λ l. array (map row_array (map (λ r. row_of r.items) l))) c.as_slice-2.ensures.value ∙ sym (append-nil _))
    c.push_rows.ensures)))
