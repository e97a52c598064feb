use Rattle.std.proofs.Common.{refl, sym, ap, subst}
use Rattle.std.proofs.lemmas.List.Elements.{All-head, All-rest, All-same}
use Rattle.tql_result_laws.specs.Json.{json_value}
use Rattle.tql_value.specs.Views.{datum_of_value}
use Rattle.tql_value.specs.Points.{IsPrintable}
use Rattle.tql_result_forms.proofs.Parting.{parted_parts}
use Rattle.tql_result.proofs.Pushing.{sent_none, step, last}
use Rattle.tql_result_forms.proofs.json_rows.push_parted_values.Goals as goal

pub push_value-requires : goal.push_value-requires
push_value-requires g c =
    subst IsPrintable (sym c.view.ensures)
    (All-head (λ v. IsPrintable (datum_of_value v)) _ _
    (All-same (λ v. IsPrintable (datum_of_value v)) _ _ (sym c.in-Some.ensures.cases.0) c.requires))

pub push_next_values-requires : goal.push_next_values-requires
push_next_values-requires g c =
    All-rest (λ v. IsPrintable (datum_of_value v)) _ _ _ c.in-Some.ensures.cases.0 c.requires

pub returns-in_ok-push_value-in-Some : goal.returns-in_ok-push_value-in-Some
returns-in_ok-push_value-in-Some g c =
    last _
    (step _ (sent_none _ _ _)
    (parted_parts json_value datum_of_value _ _ _ _ c.in-Some.ensures.cases.0
    (ap json_value (sym c.view.ensures)))
    c.in_ok-push_value-in-Some.ensures)
    refl c.push_next_values.ensures
