-- A text with each quote doubled, split at its first quote.
use Rattle.std.proofs.Common.{◌≡◌, ◌≢◌, ℕ, suc, ◌+◌, ◌<◌, List, [], ◌∷◌, ◌++◌, length, get_or, drop, refl, sym, ap, ◌∙◌}
use Rattle.std.proofs.Common.{add-one, append_assoc, arith, subst}
use Rattle.std.proofs.lemmas.List.{length-append}
use Rattle.std.proofs.lemmas.Str.{IsCharBoundary-after_ascii, IsUtf8-drop}
use Rattle.std.specs.Str.{IsUtf8}
use Rattle.std.proofs.lemmas.Bool.{eq-eqb, ne_eqb}
use Rattle.std.specs.Prelude.{◌==◌, false}
use Rattle.tql_spec.specs.Text.{doubled}

-- a text without quotes
clear : (q : ℕ) (bs : List ℕ) → ((i : ℕ) → i < length bs → get_or bs i 0 ≢ q) → doubled q bs ≡ bs
clear q [] h = refl
clear q (b ∷ bs) h =
    let here : (b == q) ≡ false = ne_eqb b q (h 0 (omega arith)) in
    let later : (i : ℕ) → i < length bs → get_or bs i 0 ≢ q = λ i lt e. h (suc i) (omega arith) e in
    rw here (ap (λ (l : List ℕ). b ∷ l) (clear q bs later))

-- a text with a quote, and the part after it
front : (q : ℕ) (before behind : List ℕ) → ((i : ℕ) → i < length before → get_or before i 0 ≢ q)
    → doubled q (before ++ q ∷ behind) ≡ before ++ (q ∷ q ∷ doubled q behind)
front q [] behind h = rw (eq-eqb q q refl) refl
front q (b ∷ before) behind h =
    let here : (b == q) ≡ false = ne_eqb b q (h 0 (omega arith)) in
    let later : (i : ℕ) → i < length before → get_or before i 0 ≢ q = λ i lt e. h (suc i) (omega arith) e in
    rw here (ap (λ (l : List ℕ). b ∷ l) (front q before behind later))

-- the next quote was copied
pub goes_on : (q : ℕ) (whole done rest before behind : List ℕ) → whole ≡ done ++ doubled q rest
    → (rest ≡ before ++ q ∷ behind) × ((i : ℕ) → i < length before → get_or before i 0 ≢ q)
    → whole ≡ ((done ++ before) ++ (q ∷ q ∷ [])) ++ doubled q behind
goes_on q whole done rest before behind e split =
    e ∙ ap (λ (l : List ℕ). done ++ doubled q l) split.0
    ∙ ap (λ (l : List ℕ). done ++ l) (front q before behind split.1)
    ∙ sym (append_assoc done before (q ∷ q ∷ doubled q behind))
    ∙ sym (append_assoc (done ++ before) (q ∷ q ∷ []) (doubled q behind))

-- no quote is left
pub all_doubled : (q : ℕ) (whole done rest : List ℕ) → whole ≡ done ++ doubled q rest
    → ((i : ℕ) → i < length rest → get_or rest i 0 ≢ q) → done ++ rest ≡ whole
all_doubled q whole done rest e none = sym (e ∙ ap (λ (l : List ℕ). done ++ l) (clear q rest none))

-- ---- the part after a quote is a text

at_quote : (before behind : List ℕ) → get_or (before ++ 39 ∷ behind) (length before) 0 ≡ 39
at_quote [] behind = refl
at_quote (b ∷ before) behind = at_quote before behind

behind_quote : (before behind : List ℕ) → drop (suc (length before)) (before ++ 39 ∷ behind) ≡ behind
behind_quote [] behind = refl
behind_quote (b ∷ before) behind = behind_quote before behind

pub behind_text : (bs before behind : List ℕ) → IsUtf8 bs → bs ≡ before ++ 39 ∷ behind → IsUtf8 behind
behind_text bs before behind text e =
    let i = length before in
    let long : length bs ≡ i + length (39 ∷ behind) = ap length e ∙ length-append before (39 ∷ behind) in
    let quote : get_or bs i 0 ≡ 39 = ap (λ (l : List ℕ). get_or l i 0) e ∙ at_quote before behind in
    let rest : drop (i + 1) bs ≡ behind = rw add-one (ap (drop (suc i)) e ∙ behind_quote before behind) in
    subst IsUtf8 rest
    (IsUtf8-drop bs (i + 1) text (IsCharBoundary-after_ascii bs i text (omega arith) (omega arith)))
