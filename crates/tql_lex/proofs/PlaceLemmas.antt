-- The offsets of the tokens found so far.
use Rattle.std.proofs.Common.{◌≡◌, ℕ, false, ◌+◌, ◌-◌, ◌<◌, ◌≤◌, List, [], ◌∷◌, ◌++◌, length, take, drop, length-drop}
use Rattle.std.proofs.Common.{refl, sym, ap, ◌∙◌, arith}
use Rattle.std.specs.Prelude.{map, slice_range, Some, None}
use Rattle.std.proofs.lemmas.List.{map-append, drop-drop}
use Rattle.tql_spec.specs.Script.{without_lead}
use Rattle.tql_spec.specs.Token.{AreTokens}
use Rattle.tql_spec.specs.Token as token
use Rattle.tql_spec.specs.FirstToken.{token_with}
use Rattle.tql_lex.specs.declared.token.Token.{Token}
use Rattle.tql_lex.specs.Tokens.{AreInPlace, token_of, sort_of}
use Rattle.tql_lex.specs.Reading.{IsNextStart, IsTokenAt}
use Rattle.tql_lex.proofs.TokensLemmas.{SoFar, one_more_token, no_tokens}

-- the tokens are in place, and the last one ends at `end`
abbrev pub Placed : ℕ → List Token → List ℕ → ℕ → Type 0
Placed from [] text end = from ≡ end
Placed from (t ∷ ts) text end =
    let next = t.start + length t.text.now in
    (from ≤ t.start) × (next ≤ length text) × (t.text.now ≡ slice_range text t.start next) × Placed next ts text end

pub are_in_place : (from : ℕ) (ts : List Token) (text : List ℕ) (end : ℕ) → Placed from ts text end
    → AreInPlace from ts text
are_in_place from [] text end p = tt
are_in_place from (t ∷ ts) text end p = (p.0, p.1, p.2, are_in_place (t.start + length t.text.now) ts text end p.3)

one_more_place : (from : ℕ) (ts : List Token) (text : List ℕ) (end : ℕ) (t : Token) → Placed from ts text end
    → end ≤ t.start → t.start + length t.text.now ≤ length text
    → t.text.now ≡ slice_range text t.start (t.start + length t.text.now)
    → Placed from (ts ++ t ∷ []) text (t.start + length t.text.now)
one_more_place from [] text end t p later within is = (omega (arith, p), within, is, refl)
one_more_place from (u ∷ us) text end t p later within is =
    (p.0, p.1, p.2, one_more_place (u.start + length u.text.now) us text end t p.3 later within is)

pub placed_more : (ts : List Token) (text : List ℕ) (from start : ℕ) (t : Token) → Placed 0 ts text from
    → IsNextStart text from (Some start) → IsTokenAt text start (Some t)
    → Placed 0 (ts ++ t ∷ []) text (start + length t.text.now)
placed_more ts text from start t p next at =
    let n : (start + length t.text.now) - start ≡ length t.text.now = omega arith in
    rw (← at.0) (one_more_place 0 ts text from t p (rw at.0 next.0) (rw at.0 at.2) (rw at.0 (at.3
    ∙ ap (λ (k : ℕ). take k (drop start text)) (sym n))))

pub found_more : (ts : List Token) (text : List ℕ) (from start : ℕ) (t : Token)
    → SoFar text (map token_of ts) (drop from text) → IsNextStart text from (Some start)
    → IsTokenAt text start (Some t) → SoFar text (map token_of (ts ++ t ∷ [])) (drop (start + length t.text.now) text)
found_more ts text from start t s next at =
    let n = length t.text.now in
    let written : token_with (sort_of t.kind) (take n (drop start text)) ≡ token_of t =
    ap (token_with (sort_of t.kind)) (sym at.3) in
    rw (map-append token_of ts (t ∷ []), ← drop-drop n start text, ← written)
    (one_more_token text (drop from text) (drop start text) (map token_of ts) (sort_of t.kind) n s
    (record { at = next.2; token = at.4 }))

pub none_here : (ts : List Token) (text : List ℕ) (from start : ℕ) → SoFar text (map token_of ts) (drop from text)
    → IsNextStart text from (Some start) → IsTokenAt text start None → (us : List token.Token) → AreTokens us text → ⊥
none_here ts text from start s next none us a =
    let some : 0 < length (without_lead false (drop from text)) =
    rw next.2 (omega (arith, length-drop start text, next.1)) in
    no_tokens text (drop from text) (map token_of ts) s some (rw next.2 none) us a
