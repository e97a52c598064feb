use Rattle.tql_result_laws.specs.Json.{refusal_members}
use Rattle.tql_value.specs.Refusals.{refusal_of}
use Rattle.tql_result.proofs.Pushing.{joined, ended, as_text}
use Rattle.tql_result_forms.specs.Diagnostics.{fault_of}
use Rattle.tql_result_forms.proofs.Placing.{fault_parts}
use Rattle.tql_result_forms.proofs.json.push_refusal.Goals as goal

pub returns-in_err-push_words : goal.returns-in_err-push_words
returns-in_err-push_words g c =
    as_text (fault_parts (refusal_members (refusal_of c.args.refusal)) (fault_of c.args.diagnostic))
    (ended _ _ c.from_residual.ensures.0 c.in_err-push_words.ensures)

pub returns-in_err-push_fault_place : goal.returns-in_err-push_fault_place
returns-in_err-push_fault_place g c =
    as_text (fault_parts (refusal_members (refusal_of c.args.refusal)) (fault_of c.args.diagnostic))
    (joined c.in_ok-push_words.ensures
    (ended _ _ c.from_residual-in_err-push_fault_place.ensures.0 c.in_err-push_fault_place.ensures))

pub returns : goal.returns
returns g c =
    as_text (fault_parts (refusal_members (refusal_of c.args.refusal)) (fault_of c.args.diagnostic))
    (joined c.in_ok-push_words.ensures (joined c.in_ok-push_fault_place.ensures c.push_fault_row.ensures))
