-- JSON strings, and where they end.
use Rattle.std.proofs.Common.{◌≡◌, ℕ, ◌+◌, ◌/◌, ◌%◌, ◌<◌, ◌≤◌, List, [], ◌∷◌, ◌++◌, true, false, refl, sym}
use Rattle.std.proofs.Common.{◌∙◌, ap, arith, append_assoc, inl, inr, ◌⊎◌, get_or}
use Rattle.std.proofs.lemmas.Bool.{cases_Bool, eqb-true, cases_lt}
use Rattle.std.proofs.lemmas.Bool.Decides.{nat_tests}
use Rattle.std.specs.Prelude.{◌==◌, ◌||◌, nat_lt}
use Rattle.std.specs.List.{flat_map, list_all}
use Rattle.tql_result_laws.specs.Json.{hex_digit, control, escaped, string}
use Rattle.tql_result_laws.proofs.Cuts.{and_left, and_right}
use Rattle.tql_result_laws.proofs.Words.{is_word}

-- a byte is a quote or a backslash, a control byte, or another byte
pub data Sort (b : ℕ) : Type 0 where
  Sign : (b ≡ 34) ⊎ (b ≡ 92) → ((p : List ℕ) → escaped b ++ p ≡ 92 ∷ b ∷ p) → Sort b
  Control : b < 32 → ((p : List ℕ) → escaped b ++ p ≡ control b ++ p) → Sort b
  Plain : (b ≡ 34 → ⊥) → (b ≡ 92 → ⊥) → ((p : List ℕ) → escaped b ++ p ≡ b ∷ p) → Sort b

sign_of : (b : ℕ) → ((b == 34) || (b == 92)) ≡ true → (b ≡ 34) ⊎ (b ≡ 92)
sign_of b h = elim (cases_Bool (b == 34)) [
  | inl quote ↦ inl (eqb-true b 34 quote)
  | inr other ↦ let slash : (b == 92) ≡ true = rw other at h in inr (eqb-true b 92 slash)
]

no_sign : (b : ℕ) → ((b == 34) || (b == 92)) ≡ false → (b ≡ 34 → ⊥) × (b ≡ 92 → ⊥)
no_sign b h = (λ e. grind (arith, nat_tests), λ e. grind (arith, nat_tests))

sort : (b : ℕ) → Sort b
sort b = elim (cases_Bool ((b == 34) || (b == 92))) [
  | inl sign ↦ Sign (sign_of b sign) (λ p. rw sign refl)
  | inr other ↦ elim (cases_Bool (nat_lt b 32)) [
    | inl low ↦ Control (grind (arith, nat_tests)) (λ p. rw (other, low) refl)
    | inr high ↦ Plain (no_sign b other).0 (no_sign b other).1 (λ p. rw (other, high) refl)
  ]
]

low_digit : (d : ℕ) → d < 10 → hex_digit d ≡ 48 + d
low_digit d h = let test : nat_lt d 10 ≡ true = grind (arith, nat_tests) in rw test refl

high_digit : (d : ℕ) → 10 ≤ d → hex_digit d ≡ 87 + d
high_digit d h = let test : nat_lt d 10 ≡ false = grind (arith, nat_tests) in rw test refl

digit_same : (c d : ℕ) → c < 16 → d < 16 → hex_digit c ≡ hex_digit d → c ≡ d
digit_same c d hc hd e = elim (cases_lt c 10) [
  | inl c_low ↦ elim (cases_lt d 10) [
    | inl d_low ↦ let same : 48 + c ≡ 48 + d = sym (low_digit c c_low) ∙ e ∙ low_digit d d_low in omega arith
    | inr d_high ↦ let same : 48 + c ≡ 87 + d = sym (low_digit c c_low) ∙ e ∙ high_digit d d_high in omega arith
  ]
  | inr c_high ↦ elim (cases_lt d 10) [
    | inl d_low ↦ let same : 87 + c ≡ 48 + d = sym (high_digit c c_high) ∙ e ∙ low_digit d d_low in omega arith
    | inr d_high ↦ let same : 87 + c ≡ 87 + d = sym (high_digit c c_high) ∙ e ∙ high_digit d d_high in omega arith
  ]
]

control_is : (b : ℕ) (p : List ℕ)
    → control b ++ p ≡ 92 ∷ 117 ∷ 48 ∷ 48 ∷ hex_digit (b / 16) ∷ hex_digit (b % 16) ∷ p
control_is b p = refl

controls_same : (b c : ℕ) → b < 32 → c < 32 → (p q : List ℕ) → control b ++ p ≡ control c ++ q → (b ≡ c) × (p ≡ q)
controls_same b c hb hc p q e =
    let bytes : 92 ∷ 117 ∷ 48 ∷ 48 ∷ hex_digit (b / 16) ∷ hex_digit (b % 16) ∷ p
    ≡ 92 ∷ 117 ∷ 48 ∷ 48 ∷ hex_digit (c / 16) ∷ hex_digit (c % 16) ∷ q =
    sym (control_is b p) ∙ e ∙ control_is c q in
    let first : hex_digit (b / 16) ≡ hex_digit (c / 16) = cc in
    let second : hex_digit (b % 16) ≡ hex_digit (c % 16) = cc in
    let rest : p ≡ q = cc in
    let tens = digit_same (b / 16) (c / 16) (omega arith) (omega arith) first in
    let units = digit_same (b % 16) (c % 16) (omega arith) (omega arith) second in
    let same : b ≡ c = omega (arith, tens, units) in (same, rest)

-- the second byte of an escaped quote or backslash is not that of a control byte
sign_second : (b : ℕ) → (b ≡ 34) ⊎ (b ≡ 92) → b ≡ 117 → ⊥
sign_second b h e = elim h [ inl quote ↦ omega arith | inr slash ↦ omega arith ]

-- bytes are determined by their escapes
escaped_cut : (b c : ℕ) (p q : List ℕ) → escaped b ++ p ≡ escaped c ++ q → (b ≡ c) × (p ≡ q)
escaped_cut b c p q e = elim (sort b) [
  | Sign hb fb ↦ elim (sort c) [
    | Sign hc fc ↦ let both : 92 ∷ b ∷ p ≡ 92 ∷ c ∷ q = sym (fb p) ∙ e ∙ fc q in (cc, cc)
    | Control hc fc ↦
        let both : 92 ∷ b ∷ p ≡ 92 ∷ 117 ∷ 48 ∷ 48 ∷ hex_digit (c / 16) ∷ hex_digit (c % 16) ∷ q =
        sym (fb p) ∙ e ∙ fc q ∙ control_is c q in
        let second : b ≡ 117 = cc in absurd (sign_second b hb second)
    | Plain nc mc fc ↦
        let both : 92 ∷ b ∷ p ≡ c ∷ q = sym (fb p) ∙ e ∙ fc q in
        let first : c ≡ 92 = cc in absurd (mc first)
  ]
  | Control hb fb ↦ elim (sort c) [
    | Sign hc fc ↦
        let both : 92 ∷ 117 ∷ 48 ∷ 48 ∷ hex_digit (b / 16) ∷ hex_digit (b % 16) ∷ p ≡ 92 ∷ c ∷ q =
        sym (fb p ∙ control_is b p) ∙ e ∙ fc q in
        let second : c ≡ 117 = cc in absurd (sign_second c hc second)
    | Control hc fc ↦ controls_same b c hb hc p q (sym (fb p) ∙ e ∙ fc q)
    | Plain nc mc fc ↦
        let both : 92 ∷ 117 ∷ 48 ∷ 48 ∷ hex_digit (b / 16) ∷ hex_digit (b % 16) ∷ p ≡ c ∷ q =
        sym (fb p ∙ control_is b p) ∙ e ∙ fc q in
        let first : c ≡ 92 = cc in absurd (mc first)
  ]
  | Plain nb mb fb ↦ elim (sort c) [
    | Sign hc fc ↦
        let both : b ∷ p ≡ 92 ∷ c ∷ q = sym (fb p) ∙ e ∙ fc q in
        let first : b ≡ 92 = cc in absurd (mb first)
    | Control hc fc ↦
        let both : b ∷ p ≡ 92 ∷ 117 ∷ 48 ∷ 48 ∷ hex_digit (c / 16) ∷ hex_digit (c % 16) ∷ q =
        sym (fb p) ∙ e ∙ fc q ∙ control_is c q in
        let first : b ≡ 92 = cc in absurd (mb first)
    | Plain nc mc fc ↦ let both : b ∷ p ≡ c ∷ q = sym (fb p) ∙ e ∙ fc q in (cc, cc)
  ]
]

-- no escaped byte begins like the end of a string
escaped_end : (b : ℕ) (p q : List ℕ) → escaped b ++ p ≡ 34 ∷ q → ⊥
escaped_end b p q e = elim (sort b) [
  | Sign hb fb ↦
      let both : 92 ∷ b ∷ p ≡ 34 ∷ q = sym (fb p) ∙ e in
      let differ : false ≡ true = ap (λ l. get_or l 0 0 == 34) both in absurd (cc)
  | Control hb fb ↦
      let both : 92 ∷ 117 ∷ 48 ∷ 48 ∷ hex_digit (b / 16) ∷ hex_digit (b % 16) ∷ p ≡ 34 ∷ q =
      sym (fb p ∙ control_is b p) ∙ e in
      let differ : false ≡ true = ap (λ l. get_or l 0 0 == 34) both in absurd (cc)
  | Plain nb mb fb ↦
      let both : b ∷ p ≡ 34 ∷ q = sym (fb p) ∙ e in
      let first : b ≡ 34 = cc in absurd (nb first)
]

escapes_cut : (s t u v : List ℕ) → flat_map escaped s ++ (34 ∷ u) ≡ flat_map escaped t ++ (34 ∷ v) → (s ≡ t) × (u ≡ v)
escapes_cut [] [] u v e = (refl, cc)
escapes_cut [] (c ∷ t) u v e =
    absurd (escaped_end c (flat_map escaped t ++ (34 ∷ v)) u
    (sym (append_assoc (escaped c) (flat_map escaped t) (34 ∷ v)) ∙ sym e))
escapes_cut (b ∷ s) [] u v e =
    absurd (escaped_end b (flat_map escaped s ++ (34 ∷ u)) v
    (sym (append_assoc (escaped b) (flat_map escaped s) (34 ∷ u)) ∙ e))
escapes_cut (b ∷ s) (c ∷ t) u v e =
    let cut = escaped_cut b c (flat_map escaped s ++ (34 ∷ u)) (flat_map escaped t ++ (34 ∷ v))
    (sym (append_assoc (escaped b) (flat_map escaped s) (34 ∷ u)) ∙ e
    ∙ append_assoc (escaped c) (flat_map escaped t) (34 ∷ v)) in
    let more = escapes_cut s t u v cut.1 in
    let first : b ≡ c = cut.0 in
    let others : s ≡ t = more.0 in
    let whole : (b ∷ s) ≡ (c ∷ t) = cc in (whole, more.1)

-- strings can be cut off, whatever follows them
pub string_cut : (s t u v : List ℕ) → string s ++ u ≡ string t ++ v → (s ≡ t) × (u ≡ v)
string_cut s t u v e =
    let both : 34 ∷ (flat_map escaped s ++ (34 ∷ u)) ≡ 34 ∷ (flat_map escaped t ++ (34 ∷ v)) =
    ap (λ l. 34 ∷ l) (sym (append_assoc (flat_map escaped s) (34 ∷ []) u)) ∙ e
    ∙ ap (λ l. 34 ∷ l) (append_assoc (flat_map escaped t) (34 ∷ []) v) in
    let rest : flat_map escaped s ++ (34 ∷ u) ≡ flat_map escaped t ++ (34 ∷ v) = cc in
    escapes_cut s t u v rest

-- a byte of a word is not escaped
word_escaped : (b : ℕ) → is_word b ≡ true → escaped b ≡ b ∷ []
word_escaped b h = elim (cases_Bool ((b == 34) || (b == 92))) [
  | inl sign ↦ elim (sign_of b sign) [
    | inl quote ↦ let never : is_word 34 ≡ true = ap is_word (sym quote) ∙ h in absurd (cc)
    | inr slash ↦ let never : is_word 92 ≡ true = ap is_word (sym slash) ∙ h in absurd (cc)
  ]
  | inr other ↦
      let high : nat_lt b 32 ≡ false = grind (arith, nat_tests) in rw (other, high) refl
]

pub word_escapes : (w : List ℕ) → list_all is_word w ≡ true → flat_map escaped w ≡ w
word_escapes [] h = refl
word_escapes (b ∷ w) h =
    ap (λ l. l ++ flat_map escaped w) (word_escaped b (and_left _ _ h))
    ∙ ap (λ l. b ∷ l) (word_escapes w (and_right _ _ h))
