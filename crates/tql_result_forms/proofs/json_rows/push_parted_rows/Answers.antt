use Rattle.std.proofs.Common.{refl, sym, ap}
use Rattle.std.specs.Prelude.{All}
use Rattle.std.proofs.lemmas.List.Elements.{All-head, All-rest, All-same}
use Rattle.tql_result_laws.specs.Json.{row_array}
use Rattle.tql_value.specs.Views.{datum_of_value, row_of}
use Rattle.tql_value.specs.Points.{IsPrintable}
use Rattle.tql_result_forms.proofs.Parting.{parted_parts}
use Rattle.tql_result.proofs.Pushing.{sent_none, step, stop, last}
use Rattle.tql_result_forms.proofs.json_rows.push_parted_rows.Goals as goal

pub push_row-requires : goal.push_row-requires
push_row-requires g c =
    All-same (λ v. IsPrintable (datum_of_value v)) _ _ c.as_slice.ensures.value
    (All-head (λ r. All (λ v. IsPrintable (datum_of_value v)) r.items) _ _
    (All-same (λ r. All (λ v. IsPrintable (datum_of_value v)) r.items) _ _ (sym c.in-Some.ensures.cases.0) c.requires))

pub push_next_rows-requires : goal.push_next_rows-requires
push_next_rows-requires g c =
    All-rest (λ r. All (λ v. IsPrintable (datum_of_value v)) r.items) _ _ _ c.in-Some.ensures.cases.0 c.requires

pub returns-in_ok-push_row-in-Some : goal.returns-in_ok-push_row-in-Some
returns-in_ok-push_row-in-Some g c =
    last _
    (step _ (sent_none _ _ _)
    (parted_parts row_array (λ r. row_of r.items) _ _ _ _ c.in-Some.ensures.cases.0
    (ap (λ l. row_array (row_of l)) (sym c.as_slice.ensures.value)))
    c.in_ok-push_row-in-Some.ensures)
    refl c.push_next_rows.ensures

pub returns-in_err-push_row-in-Some : goal.returns-in_err-push_row-in-Some
returns-in_err-push_row-in-Some g c =
    stop _ _ c.from_residual.ensures.0 (sent_none _ _ _)
    (parted_parts row_array (λ r. row_of r.items) _ _ _ _ c.in-Some.ensures.cases.0
    (ap (λ l. row_array (row_of l)) (sym c.as_slice.ensures.value)))
    c.in_err-push_row-in-Some.ensures
