use Rattle.std.proofs.Common.{refl, sym, ap, subst}
use Rattle.std.proofs.lemmas.List.Elements.{All-head, All-rest, All-same}
use Rattle.tql_result_laws.specs.Csv.{field}
use Rattle.tql_value.specs.Views.{datum_of_value}
use Rattle.tql_value.specs.Points.{IsPrintable}
use Rattle.tql_result.proofs.Joining.{joined_parts}
use Rattle.tql_result.proofs.Pushing.{sent_none, step, last}
use Rattle.tql_result_forms.proofs.csv.push_joined_fields.Goals as goal

pub push_field-requires : goal.push_field-requires
push_field-requires g c =
    subst IsPrintable (sym c.view.ensures)
    (All-head (λ v. IsPrintable (datum_of_value v)) _ _
    (All-same (λ v. IsPrintable (datum_of_value v)) _ _ (sym c.in-Some.ensures.cases.0) c.requires))

pub push_next_fields-requires : goal.push_next_fields-requires
push_next_fields-requires g c =
    All-rest (λ v. IsPrintable (datum_of_value v)) _ _ _ c.in-Some.ensures.cases.0 c.requires

pub returns-in_ok-push_field-in-Some : goal.returns-in_ok-push_field-in-Some
returns-in_ok-push_field-in-Some g c =
    last _
    (step _ (sent_none _ _ _)
    (joined_parts field datum_of_value 44 _ _ _ _ c.in-Some.ensures.cases.0
    (ap field (sym c.view.ensures)))
    c.in_ok-push_field-in-Some.ensures)
    refl c.push_next_fields.ensures
