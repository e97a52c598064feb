-- Conditions that have a truth value.
use Rattle.std.proofs.Common.{◌≡◌, refl, IsOk, Option, Some, Result, Ok, Err}
use Rattle.tql_spec.specs.Truth.{Truth}
use Rattle.tql_value.specs.declared.arithmetic.Range.{Range}
use Rattle.tql_value.specs.declared.truth.Truth as code
use Rattle.tql_expr.specs.Meaning.{judged}

-- if a condition has a truth value, its evaluation returns one
pub judged_is_ok : (result : Result code.Truth Range) (o : Option Truth) → (t : Truth) × (o ≡ Some t)
    → judged result ≡ o → IsOk result
judged_is_ok (Ok t) o h is = refl
judged_is_ok (Err e) o h is = absurd (cc (is, h.1))
