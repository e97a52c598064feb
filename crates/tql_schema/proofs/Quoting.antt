-- The part of a name after a double quote is a text.
use Rattle.std.proofs.Common.{◌≡◌, ℕ, suc, ◌+◌, List, [], ◌∷◌, ◌++◌, length, get_or, drop, refl, ap, ◌∙◌, arith}
use Rattle.std.proofs.Common.{add-one, subst}
use Rattle.std.proofs.lemmas.List.{length-append}
use Rattle.std.proofs.lemmas.Str.{IsCharBoundary-after_ascii, IsUtf8-drop}
use Rattle.std.specs.Str.{IsUtf8}

at_quote : (before behind : List ℕ) → get_or (before ++ 34 ∷ behind) (length before) 0 ≡ 34
at_quote [] behind = refl
at_quote (b ∷ before) behind = at_quote before behind

behind_quote : (before behind : List ℕ) → drop (suc (length before)) (before ++ 34 ∷ behind) ≡ behind
behind_quote [] behind = refl
behind_quote (b ∷ before) behind = behind_quote before behind

pub behind_text : (bs before behind : List ℕ) → IsUtf8 bs → bs ≡ before ++ 34 ∷ behind → IsUtf8 behind
behind_text bs before behind text e =
    let i = length before in
    let long : length bs ≡ i + length (34 ∷ behind) = ap length e ∙ length-append before (34 ∷ behind) in
    let quote : get_or bs i 0 ≡ 34 = ap (λ (l : List ℕ). get_or l i 0) e ∙ at_quote before behind in
    let rest : drop (i + 1) bs ≡ behind = rw add-one (ap (drop (suc i)) e ∙ behind_quote before behind) in
    subst IsUtf8 rest
    (IsUtf8-drop bs (i + 1) text (IsCharBoundary-after_ascii bs i text (omega arith) (omega arith)))
