use Rattle.std.proofs.Common.{ap}
use Rattle.std.proofs.Math.Facts.{to_z-of_z}
use Rattle.std.specs.Prelude.{ℤ}
use Rattle.tql_spec.specs.Datum.{Day}
use Rattle.tql_result_laws.specs.Json.{in_quotes}
use Rattle.tql_spec.specs.Text.{cell_text}
use Rattle.tql_result.proofs.Pushing.{joined, ended, as_text}
use Rattle.tql_result_forms.proofs.json_rows.push_day_string.Goals as goal

pub returns-in_err-push_all : goal.returns-in_err-push_all
returns-in_err-push_all g c = ended _ _ c.from_residual.ensures.0 c.in_err-push_all.ensures

pub returns-in_err-push_day : goal.returns-in_err-push_day
returns-in_err-push_day g c =
    as_text (ap (λ (z : ℤ). in_quotes (cell_text (Day z))) (to_z-of_z c.ranges.day))
    (joined c.in_ok-push_all.ensures (ended _ _ c.from_residual-in_err-push_day.ensures.0 c.in_err-push_day.ensures))

pub returns : goal.returns
returns g c =
    as_text (ap (λ (z : ℤ). in_quotes (cell_text (Day z))) (to_z-of_z c.ranges.day))
    (joined c.in_ok-push_all.ensures (joined c.in_ok-push_day.ensures c.push_all-2.ensures))
