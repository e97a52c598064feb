use Rattle.std.proofs.Common.{sym}
use Rattle.tql_result_forms.proofs.Escaping.{escapes_parts, escapes_without}
use Rattle.tql_result_forms.proofs.escape.parts_at_escape.Goals as goal

pub returns-in_err-place-clause-parts : goal.returns-in_err-place-clause-parts
returns-in_err-place-clause-parts c =
    rw c.from_residual.ensures (escapes_without _ (sym c.in_err-place.ensures.place))

pub returns-clause-parts : goal.returns-clause-parts
returns-clause-parts c =
    escapes_parts _ _ _ _ c.split_at.ensures.front c.split_at.ensures.back (sym c.in_ok-place.ensures.place)
