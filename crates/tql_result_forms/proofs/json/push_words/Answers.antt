use Rattle.std.proofs.Common.{sym, ◌∙◌, ap, decimal}
use Rattle.std.proofs.lemmas.List.{append-nil}
use Rattle.tql_result_laws.specs.Json.{string}
use Rattle.tql_result.proofs.Pushing.{joined, ended, as_text}
use Rattle.tql_result_forms.proofs.json.push_words.Goals as goal

pub returns-in_err-push_all : goal.returns-in_err-push_all
returns-in_err-push_all g c = ended _ _ c.from_residual.ensures.0 c.in_err-push_all.ensures

pub returns-in_err-push_decimal : goal.returns-in_err-push_decimal
returns-in_err-push_decimal g c =
    joined c.in_ok-push_all.ensures
    (ended _ _ c.from_residual-in_err-push_decimal.ensures.0
    (as_text (ap decimal (c.from.ensures ∙ c.number.ensures)) c.in_err-push_decimal.ensures))

pub returns-in_err-push_all-2 : goal.returns-in_err-push_all-2
returns-in_err-push_all-2 g c =
    joined c.in_ok-push_all.ensures
    (joined (as_text (ap decimal (c.from.ensures ∙ c.number.ensures)) c.in_ok-push_decimal.ensures)
    (ended _ _ c.from_residual-in_err-push_all-2.ensures.0 c.in_err-push_all-2.ensures))

pub returns : goal.returns
returns g c =
    joined c.in_ok-push_all.ensures
    (joined (as_text (ap decimal (c.from.ensures ∙ c.number.ensures)) c.in_ok-push_decimal.ensures)
    (joined c.in_ok-push_all-2.ensures
    (as_text (ap string c.words.ensures ∙ sym (append-nil _)) c.push_string.ensures)))
