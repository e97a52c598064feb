-- The `;` at the end of a text.
use Rattle.std.proofs.Common.{◌≡◌, ◌≢◌, ℕ, ◌-◌, List, [], ◌∷◌, ◌++◌, length, get_or, take, false, refl, arith}
use Rattle.std.proofs.lemmas.Bool.{ne_eqb}
use Rattle.std.proofs.lemmas.Grind.{common_steps}
use Rattle.std.specs.Prelude.{◌==◌}
use Rattle.tql_prompt.specs.Commands.{unterminated}

ends : (t : List ℕ) → get_or t (length t - 1) 0 ≡ 59 → t ≡ take (length t - 1) t ++ (59 ∷ [])
ends t e = grind (arith, common_steps)

-- a text that does not end with `;`
pub stays : (t : List ℕ) → ((front : List ℕ) → t ≢ front ++ (59 ∷ [])) → t ≡ unterminated t
stays t h =
    let no : (get_or t (length t - 1) 0 == 59) ≡ false =
    ne_eqb (get_or t (length t - 1) 0) 59 (λ e. h (take (length t - 1) t) (ends t e)) in
    rw no refl
