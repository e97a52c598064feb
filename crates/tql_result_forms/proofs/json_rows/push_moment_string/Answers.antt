use Rattle.std.proofs.Common.{ap}
use Rattle.std.proofs.Math.Facts.{to_z-of_z}
use Rattle.std.specs.Prelude.{ℤ}
use Rattle.tql_spec.specs.Datum.{Moment}
use Rattle.tql_spec.specs.Text.{cell_text}
use Rattle.tql_result_laws.specs.Json.{in_quotes}
use Rattle.tql_result.proofs.Pushing.{joined, ended, as_text}
use Rattle.tql_result_forms.proofs.json_rows.push_moment_string.Goals as goal

pub returns-in_err-push_all : goal.returns-in_err-push_all
returns-in_err-push_all g c = ended _ _ c.from_residual.ensures.0 c.in_err-push_all.ensures

pub returns-in_err-push_moment : goal.returns-in_err-push_moment
returns-in_err-push_moment g c =
    as_text (ap (λ (z : ℤ). in_quotes (cell_text (Moment z))) (to_z-of_z c.ranges.moment))
    (joined c.in_ok-push_all.ensures
    (ended _ _ c.from_residual-in_err-push_moment.ensures.0 c.in_err-push_moment.ensures))

pub returns : goal.returns
returns g c =
    as_text (ap (λ (z : ℤ). in_quotes (cell_text (Moment z))) (to_z-of_z c.ranges.moment))
    (joined c.in_ok-push_all.ensures (joined c.in_ok-push_moment.ensures c.push_all-2.ensures))
