use Rattle.std.proofs.Common.{decimal}
use Rattle.std.specs.Prelude.{codes}
use Rattle.tql_result_laws.specs.Json.{string, name_array}
use Rattle.tql_result.proofs.Pushing.{joined, ended, as_text}
use Rattle.tql_result_forms.specs.Diagnostics.{fault_of}
use Rattle.tql_result_forms.proofs.Placing.{three_known}
use Rattle.tql_result_forms.proofs.json.push_fault_row.Goals as goal

pub returns-in_err-push_text : goal.returns-in_err-push_text
returns-in_err-push_text g c =
    as_text
    (three_known (codes "constraint") (codes "columns") (codes "row") string name_array decimal
    (fault_of c.args.diagnostic).constraint (fault_of c.args.diagnostic).columns
    (fault_of c.args.diagnostic).row)
    (ended _ _ c.from_residual.ensures.0 c.in_err-push_text.ensures)

pub returns-in_err-push_columns : goal.returns-in_err-push_columns
returns-in_err-push_columns g c =
    as_text
    (three_known (codes "constraint") (codes "columns") (codes "row") string name_array decimal
    (fault_of c.args.diagnostic).constraint (fault_of c.args.diagnostic).columns
    (fault_of c.args.diagnostic).row)
    (joined c.in_ok-push_text.ensures
    (ended _ _ c.from_residual-in_err-push_columns.ensures.0 c.in_err-push_columns.ensures))

pub returns : goal.returns
returns g c =
    as_text
    (three_known (codes "constraint") (codes "columns") (codes "row") string name_array decimal
    (fault_of c.args.diagnostic).constraint (fault_of c.args.diagnostic).columns
    (fault_of c.args.diagnostic).row)
    (joined c.in_ok-push_text.ensures (joined c.in_ok-push_columns.ensures c.push_number.ensures))
