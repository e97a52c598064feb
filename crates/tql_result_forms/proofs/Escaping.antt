-- The bytes of a string, split at the first that needs an escape.
use Rattle.std.proofs.Common.{◌≡◌, ℕ, ◌+◌, ◌-◌, ◌<◌, ◌≤◌, suc, false, List, [], ◌∷◌, ◌++◌, refl, sym, ◌∙◌, ap}
use Rattle.std.proofs.Common.{take, drop, length, get_or, arith, inl, inr}
use Rattle.std.proofs.lemmas.Bool.{ltb-false, cases_Bool}
use Rattle.std.proofs.lemmas.List.{take-append-drop, drop_more, get_or-take, length-take, take_rest, drop-drop}
use Rattle.std.proofs.lemmas.List.Concat.{flat_map-append}
use Rattle.std.proofs.lemmas.List.Quantifiers.{position-Some}
use Rattle.std.specs.Prelude.{◌==◌, ◌||◌, position, Some, None, nat_lt}
use Rattle.std.specs.List.{position_or_len, flat_map}
use Rattle.tql_result_laws.specs.Json.{escaped}
use Rattle.tql_result_forms.specs.Escapes.{has_escape}

-- a byte that needs no escape is unchanged
escaped_clear : (x : ℕ) → has_escape x ≡ false → escaped x ≡ x ∷ []
escaped_clear x e = elim (cases_Bool ((x == 34) || (x == 92))) [
  | inl sign ↦ let h = rw sign at e in absurd (cc)
  | inr other ↦ let h = rw other at e in rw (other, h) refl
]

-- a text without bytes that need an escape is unchanged
clear : (xs : List ℕ) → ((k : ℕ) → k < length xs → has_escape (get_or xs k 0) ≡ false) → flat_map escaped xs ≡ xs
clear [] h = refl
clear (x ∷ xs) h =
    ap (λ l. l ++ flat_map escaped xs) (escaped_clear x (h 0 (omega arith)))
    ∙ ap (λ l. x ∷ l) (clear xs (λ k b. h (suc k) (omega arith)))

-- a text is unchanged if the position of the first escape is past its end
clear_past : (xs : List ℕ) → length xs ≤ position_or_len has_escape xs → flat_map escaped xs ≡ xs
clear_past [] h = refl
clear_past (x ∷ xs) h = elim (cases_Bool (has_escape x)) [
  | inl same ↦ let none = rw same at h in absurd (omega (arith, none))
  | inr other ↦
      let more = rw other at h in
      ap (λ l. l ++ flat_map escaped xs) (escaped_clear x other)
      ∙ ap (λ l. x ∷ l) (clear_past xs (omega (arith, more)))
]

-- a text is unchanged if there is no position of an escape
pub escapes_without : (xs : List ℕ) → position has_escape xs ≡ None → flat_map escaped xs ≡ xs
escapes_without xs e = elim (cases_Bool (nat_lt (position_or_len has_escape xs) (length xs))) [
  | inl below ↦ let found = rw below at e in absurd (cc)
  | inr above ↦ clear_past xs (ltb-false _ _ above)
]

-- a text split at its first byte that needs an escape
escapes_at : (xs : List ℕ) (i : ℕ) → position has_escape xs ≡ Some i
    → flat_map escaped xs ≡ take i xs ++ (escaped (get_or xs i 0) ++ flat_map escaped (drop (i + 1) xs))
escapes_at xs i e =
    let facts = position-Some has_escape xs i 0 e in
    let within : i < length xs = facts.0 in
    let within_front : (k : ℕ) → k < length (take i xs) → k < i = λ k b. omega (arith, length-take i xs, b) in
    let front : flat_map escaped (take i xs) ≡ take i xs =
    clear (take i xs)
    (λ k b. rw (get_or-take i xs k 0 (within_front k b)) (facts.2 k (within_front k b))) in
    let parts : xs ≡ take i xs ++ (get_or xs i 0 ∷ drop (i + 1) xs) =
    sym (take-append-drop i xs) ∙ ap (λ l. take i xs ++ l) (drop_more xs i 0 within) in
    ap (flat_map escaped) parts ∙ flat_map-append _ (take i xs) (get_or xs i 0 ∷ drop (i + 1) xs)
    ∙ ap (λ l. l ++ flat_map escaped (get_or xs i 0 ∷ drop (i + 1) xs)) front

-- the same, given the parts before and from that position on
pub escapes_parts : (xs : List ℕ) (i : ℕ) (front back : List ℕ) → front ≡ take i xs → back ≡ drop i xs
    → position has_escape xs ≡ Some i
    → flat_map escaped xs
    ≡ front ++ (escaped (get_or back 0 0) ++ flat_map escaped (take (length back - 1) (drop 1 back)))
escapes_parts xs i front back f b e =
    let facts = position-Some has_escape xs i 0 e in
    let within : i < length xs = facts.0 in
    let here : get_or back 0 0 ≡ get_or xs i 0 =
    ap (λ l. get_or l 0 0) (b ∙ drop_more xs i 0 within) in
    let behind : take (length back - 1) (drop 1 back) ≡ drop (i + 1) xs = take_rest back 1 ∙ ap (drop 1) b
    ∙ drop-drop 1 i xs in
    escapes_at xs i e
    ∙ ap (λ l. l ++ (escaped (get_or xs i 0) ++ flat_map escaped (drop (i + 1) xs))) (sym f)
    ∙ ap (λ (y : ℕ). front ++ (escaped y ++ flat_map escaped (drop (i + 1) xs))) (sym here)
    ∙ ap (λ l. front ++ (escaped (get_or back 0 0) ++ flat_map escaped l)) (sym behind)
