-- A text with each quote doubled, split at its first quote.
use Rattle.std.proofs.Common.{◌≡◌, ℕ, ◌+◌, ◌-◌, ◌<◌, ◌≤◌, suc, true, false, List, [], ◌∷◌, ◌++◌, refl, sym, ◌∙◌, ap}
use Rattle.std.proofs.Common.{take, drop, length, get_or, arith, inl, inr}
use Rattle.std.proofs.lemmas.Bool.{eqb-true, eq-eqb, ltb-false, cases_Bool}
use Rattle.std.proofs.lemmas.List.{take-append-drop, drop_more, get_or-take, length-take, take_rest, drop-drop}
use Rattle.std.proofs.lemmas.List.Concat.{flat_map-append}
use Rattle.std.proofs.lemmas.List.Quantifiers.{position-Some}
use Rattle.std.specs.Prelude.{◌==◌, position, Some, None, nat_lt}
use Rattle.std.specs.List.{position_or_len}
use Rattle.tql_spec.specs.Text.{doubled}

-- a text without quotes is unchanged
doubled_clear : (q : ℕ) (xs : List ℕ) → ((k : ℕ) → k < length xs → (get_or xs k 0 == q) ≡ false) → doubled q xs ≡ xs
doubled_clear q [] h = refl
doubled_clear q (x ∷ xs) h =
    rw (h 0 (omega arith)) (ap (λ l. x ∷ l) (doubled_clear q xs (λ k b. h (suc k) (omega arith))))

-- a quote is doubled
doubled_quote : (q x : ℕ) (xs : List ℕ) → (x == q) ≡ true → doubled q (x ∷ xs) ≡ x ∷ q ∷ doubled q xs
doubled_quote q x xs e = let same : x ≡ q = eqb-true x q e in rw e (ap (λ (y : ℕ). x ∷ y ∷ doubled q xs) same)

-- a text is unchanged if the position of the first quote is past its end
doubled_past : (q : ℕ) (xs : List ℕ) → length xs ≤ position_or_len (λ b. b == q) xs → doubled q xs ≡ xs
doubled_past q [] h = refl
doubled_past q (x ∷ xs) h = elim (cases_Bool (x == q)) [
  | inl same ↦ let none = rw same at h in absurd (omega (arith, none))
  | inr other ↦ let more = rw other at h in rw other (ap (λ l. x ∷ l) (doubled_past q xs (omega (arith, more))))
]

-- a text is unchanged if there is no position of a quote
pub doubled_without : (q : ℕ) (xs : List ℕ) → position (λ b. b == q) xs ≡ None → doubled q xs ≡ xs
doubled_without q xs e = elim (cases_Bool (nat_lt (position_or_len (λ b. b == q) xs) (length xs))) [
  | inl below ↦ let found = rw below at e in absurd (cc)
  | inr above ↦ doubled_past q xs (ltb-false _ _ above)
]

-- a text split at its first quote
pub doubled_at : (q : ℕ) (xs : List ℕ) (i : ℕ) → position (λ b. b == q) xs ≡ Some i
    → doubled q xs ≡ take i xs ++ (q ∷ q ∷ doubled q (drop (i + 1) xs))
doubled_at q xs i e =
    let facts = position-Some (λ b. b == q) xs i 0 e in
    let within : i < length xs = facts.0 in
    let quote : get_or xs i 0 ≡ q = eqb-true (get_or xs i 0) q facts.1 in
    let within_front : (k : ℕ) → k < length (take i xs) → k < i = λ k b. omega (arith, length-take i xs, b) in
    let clear : doubled q (take i xs) ≡ take i xs =
    doubled_clear q (take i xs)
    (λ k b. rw (get_or-take i xs k 0 (within_front k b)) (facts.2 k (within_front k b))) in
    let parts : xs ≡ take i xs ++ (q ∷ drop (i + 1) xs) =
    sym (take-append-drop i xs)
    ∙ ap (λ l. take i xs ++ l) (drop_more xs i 0 within ∙ ap (λ (y : ℕ). y ∷ drop (i + 1) xs) quote) in
    ap (doubled q) parts ∙ flat_map-append _ (take i xs) (q ∷ drop (i + 1) xs)
    ∙ ap (λ l. l ++ doubled q (q ∷ drop (i + 1) xs)) clear
    ∙ ap (λ l. take i xs ++ l) (doubled_quote q q (drop (i + 1) xs) (eq-eqb q q refl))

-- the same, given the parts before and from that position on
pub doubled_parts : (q : ℕ) (xs : List ℕ) (i : ℕ) (front back : List ℕ) → front ≡ take i xs → back ≡ drop i xs
    → position (λ b. b == q) xs ≡ Some i
    → doubled q xs ≡ front ++ (q ∷ q ∷ doubled q (take (length back - 1) (drop 1 back)))
doubled_parts q xs i front back f b e =
    let behind : take (length back - 1) (drop 1 back) ≡ drop (i + 1) xs = take_rest back 1 ∙ ap (drop 1) b
    ∙ drop-drop 1 i xs in
    doubled_at q xs i e ∙ ap (λ l. l ++ (q ∷ q ∷ doubled q (drop (i + 1) xs))) (sym f)
    ∙ ap (λ l. front ++ (q ∷ q ∷ doubled q l)) (sym behind)
