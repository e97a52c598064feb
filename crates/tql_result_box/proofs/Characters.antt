-- Characters as shown.
use Rattle.std.proofs.Common.{◌≡◌, ℕ, ◌<◌, refl, sym, ◌∙◌, ap, true, false, arith, inl, inr}
use Rattle.std.proofs.lemmas.Bool.{cases_Bool, eqb-true}
use Rattle.std.proofs.lemmas.Bool.Decides.{nat_tests}
use Rattle.std.specs.Prelude.{◌==◌}
use Rattle.std.specs.Char.{encode_utf8, is_control}
use Rattle.tql_result_box.specs.Box.{shown_character, control_escape}

pub other : (a b : ℕ) → (a ≡ b → ⊥) → (a == b) ≡ false
other a b ne = elim (cases_Bool (a == b)) [
  | inl holds ↦ absurd (ne (eqb-true a b holds))
  | inr fails ↦ fails
]

pub control_small : (c : ℕ) → is_control c ≡ true → c < 160
control_small c h = grind (arith, nat_tests)

pub shown_control : (c : ℕ) → (c ≡ 10 → ⊥) → (c ≡ 13 → ⊥) → (c ≡ 9 → ⊥) → is_control c ≡ true
    → shown_character c ≡ control_escape c
shown_control c feed return tab h = rw (other c 10 feed, other c 13 return, other c 9 tab, h) refl

pub shown_plain : (c : ℕ) → is_control c ≡ false → shown_character c ≡ encode_utf8 c
shown_plain c h =
    let feed : c ≡ 10 → ⊥ = λ e. let never : is_control 10 ≡ false = ap is_control (sym e) ∙ h in absurd (cc) in
    let return : c ≡ 13 → ⊥ = λ e. let never : is_control 13 ≡ false = ap is_control (sym e) ∙ h in absurd (cc) in
    let tab : c ≡ 9 → ⊥ = λ e. let never : is_control 9 ≡ false = ap is_control (sym e) ∙ h in absurd (cc) in
    rw (other c 10 feed, other c 13 return, other c 9 tab, h) refl
