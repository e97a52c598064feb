use Rattle.std.proofs.Common.{decimal}
use Rattle.std.specs.Prelude.{codes, option_map}
use Rattle.tql_result_laws.specs.Json.{string}
use Rattle.tql_result.proofs.Pushing.{joined, ended, as_text}
use Rattle.tql_result_forms.specs.Diagnostics.{fault_of}
use Rattle.tql_result_forms.proofs.Placing.{three_known}
use Rattle.tql_result_forms.proofs.json.push_fault_place.Goals as goal

pub returns-in_err-push_number : goal.returns-in_err-push_number
returns-in_err-push_number g c =
    as_text
    (three_known (codes "column") (codes "detail") (codes "hint") decimal string string
    (fault_of c.args.diagnostic).column (fault_of c.args.diagnostic).detail (fault_of c.args.diagnostic).hint)
    (ended _ _ c.from_residual.ensures.0 c.in_err-push_number.ensures)

pub returns-in_err-push_text : goal.returns-in_err-push_text
returns-in_err-push_text g c =
    as_text
    (three_known (codes "column") (codes "detail") (codes "hint") decimal string string
    (fault_of c.args.diagnostic).column (fault_of c.args.diagnostic).detail (fault_of c.args.diagnostic).hint)
    (joined c.in_ok-push_number.ensures
    (ended _ _ c.from_residual-in_err-push_text.ensures.0 c.in_err-push_text.ensures))

pub returns : goal.returns
returns g c =
    as_text
    (three_known (codes "column") (codes "detail") (codes "hint") decimal string string
    (fault_of c.args.diagnostic).column (fault_of c.args.diagnostic).detail (fault_of c.args.diagnostic).hint)
    (joined c.in_ok-push_number.ensures (joined c.in_ok-push_text.ensures c.push_text-2.ensures))
