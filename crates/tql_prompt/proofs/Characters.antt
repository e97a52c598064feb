-- Characters as shown, one by one.
use Rattle.std.proofs.Common.{◌≡◌, ℕ, List, [], ◌∷◌, ◌++◌, map, refl, sym, ap, ◌∙◌, append_assoc, encode_utf8_all}
use Rattle.std.proofs.lemmas.List.{append-nil, map-append}
use Rattle.std.specs.Char.{encode_utf8}
use Rattle.tql_prompt.specs.Carets.{plain}

encoded_more : (xs : List ℕ) (c : ℕ) → encode_utf8_all (xs ++ (c ∷ [])) ≡ encode_utf8_all xs ++ encode_utf8 c
encoded_more [] c = append-nil (encode_utf8 c)
encoded_more (x ∷ xs) c =
    ap (λ (l : List ℕ). encode_utf8 x ++ l) (encoded_more xs c)
    ∙ sym (append_assoc (encode_utf8 x) (encode_utf8_all xs) (encode_utf8 c))

-- one more character is appended as shown
pub one_more : (start old new yielded : List ℕ) (c shown : ℕ) → old ≡ start ++ encode_utf8_all (map plain yielded)
    → new ≡ old ++ encode_utf8 shown → shown ≡ plain c
    → new ≡ start ++ encode_utf8_all (map plain (yielded ++ (c ∷ [])))
one_more start old new yielded c shown before pushed same =
    pushed ∙ ap (λ (l : List ℕ). l ++ encode_utf8 shown) before
    ∙ append_assoc start (encode_utf8_all (map plain yielded)) (encode_utf8 shown)
    ∙ ap (λ (l : List ℕ). start ++ l)
    (ap (λ (d : ℕ). encode_utf8_all (map plain yielded) ++ encode_utf8 d) same
    ∙ sym (encoded_more (map plain yielded) (plain c))
    ∙ ap encode_utf8_all (sym (map-append plain yielded (c ∷ []))))
