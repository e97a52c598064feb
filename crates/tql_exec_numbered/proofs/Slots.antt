-- Slots of a table, of which one is filled.
use Rattle.std.specs.Prelude.{◌≡◌, refl, ℕ, zero, suc, ◌+◌, ◌-◌, ◌<◌, Bool, true, false, List, [], ◌∷◌}
use Rattle.std.specs.Prelude.{Option, Some, None, slice_get, nat_eq, ◌||◌}
use Rattle.std.proofs.Common.{sym, ap, subst, ◌∙◌, arith, set}
use Rattle.std.proofs.lemmas.Bool.{eqb-false, eqb-true}
use Rattle.tql_spec.proofs.Members.{by_bool}
use Rattle.tql_exec_numbered.specs.Slots.{free_at, free_from, is_reached, reached_at}

-- ---- a list with one item replaced

got_same : {A : Type 0} (xs : List A) (p : ℕ) (x v : A) → slice_get xs p ≡ Some x → slice_get (set xs p v) p ≡ Some v
got_same [] p x v e = cc
got_same (y ∷ xs) zero x v e = refl
got_same (y ∷ xs) (suc p) x v e = got_same xs p x v e

got_other : {A : Type 0} (xs : List A) (p q : ℕ) (v : A) → (p ≡ q → ⊥)
    → slice_get (set xs p v) q ≡ slice_get xs q
got_other [] p q v apart = refl
got_other (y ∷ xs) zero zero v apart = absurd (apart refl)
got_other (y ∷ xs) zero (suc q) v apart = refl
got_other (y ∷ xs) (suc p) zero v apart = refl
got_other (y ∷ xs) (suc p) (suc q) v apart = got_other xs p q v (λ e. apart (ap suc e))

-- ---- tests

itself : (n : ℕ) → nat_eq n n ≡ true
itself n = by_bool (nat_eq n n) (λ e. e) (λ e. absurd (eqb-false n n e refl))

or_first : (a b : Bool) → a ≡ true → (a || b) ≡ true
or_first true b e = refl
or_first false b e = cc

or_rest : (a b : Bool) → b ≡ true → (a || b) ≡ true
or_rest true b e = refl
or_rest false b e = e

or_more : (a b c : Bool) → (b ≡ true → c ≡ true) → (a || b) ≡ true → (a || c) ≡ true
or_more true b c next e = refl
or_more false b c next e = next e

-- a slot that is empty is not one that is full
slots_apart : (slots : List ℕ) (p q n : ℕ) → slice_get slots p ≡ Some zero → slice_get slots q ≡ Some (suc n)
    → p ≡ q → ⊥
slots_apart slots p q n e k is = let h : slice_get slots p ≡ slice_get slots q = ap (slice_get slots) is in cc

-- ---- the first empty slot

module _ (slots : List ℕ) where
  empty_at : (o rest : Option ℕ) (at p : ℕ) → slice_get slots at ≡ o → free_at o at rest ≡ Some p
      → (rest ≡ Some p → slice_get slots p ≡ Some zero) → slice_get slots p ≡ Some zero
  empty_at None rest at p is h later = cc
  empty_at (Some zero) rest at p is h later =
      let same : at ≡ p = cc in subst (λ q. slice_get slots q ≡ Some zero) same is
  empty_at (Some (suc n)) rest at p is h later = later h

  pub free_is_empty : (more at p : ℕ) → free_from more slots at ≡ Some p → slice_get slots p ≡ Some zero
  free_is_empty zero at p e = cc
  free_is_empty (suc more) at p e =
      empty_at (slice_get slots at) (free_from more slots (at + 1)) at p refl e (free_is_empty more (at + 1) p)

  -- ---- an empty slot that is filled

  still_at : (o : Option ℕ) (p new at number : ℕ) (b after : Bool) → slice_get slots p ≡ Some zero
      → slice_get slots at ≡ o → reached_at o number b ≡ true → (b ≡ true → after ≡ true)
      → reached_at (slice_get (set slots p (suc new)) at) number after ≡ true
  still_at None p new at number b after empty is h later = cc
  still_at (Some zero) p new at number b after empty is h later = cc
  still_at (Some (suc n)) p new at number b after empty is h later =
      ap (λ o. reached_at o number after) (got_other slots p at (suc new) (slots_apart slots p at n empty is) ∙ is)
      ∙ or_more (nat_eq n number) b after later h

  pub still_reached : (p new : ℕ) → slice_get slots p ≡ Some zero → (more at number : ℕ)
      → is_reached more slots at number ≡ true → is_reached more (set slots p (suc new)) at number ≡ true
  still_reached p new empty zero at number e = cc
  still_reached p new empty (suc more) at number e =
      still_at (slice_get slots at) p new at number (is_reached more slots (at + 1) number)
      (is_reached more (set slots p (suc new)) (at + 1) number) empty refl e
      (still_reached p new empty more (at + 1) number)

  now_at : (o rest : Option ℕ) (p new at : ℕ) (after : Bool) → slice_get slots p ≡ Some zero → slice_get slots at ≡ o
      → free_at o at rest ≡ Some p → (rest ≡ Some p → after ≡ true)
      → reached_at (slice_get (set slots p (suc new)) at) new after ≡ true
  now_at None rest p new at after empty is h later = cc
  now_at (Some zero) rest p new at after empty is h later =
      let same : at ≡ p = cc in
      ap (λ q. reached_at (slice_get (set slots q (suc new)) at) new after) (sym same)
      ∙ ap (λ o. reached_at o new after) (got_same slots at zero (suc new) is)
      ∙ or_first (nat_eq new new) after (itself new)
  now_at (Some (suc n)) rest p new at after empty is h later =
      ap (λ o. reached_at o new after) (got_other slots p at (suc new) (slots_apart slots p at n empty is) ∙ is)
      ∙ or_rest (nat_eq n new) after (later h)

  pub now_reached : (more at p new : ℕ) → free_from more slots at ≡ Some p
      → is_reached more (set slots p (suc new)) at new ≡ true
  now_reached zero at p new e = cc
  now_reached (suc more) at p new e =
      now_at (slice_get slots at) (free_from more slots (at + 1)) p new at
      (is_reached more (set slots p (suc new)) (at + 1) new) (free_is_empty (suc more) at p e) refl e
      (now_reached more (at + 1) p new)

  -- ---- one slot after another

  -- one slot less
  pub one_less : (more : ℕ) → 0 < more → more ≡ suc (more - 1)
  one_less zero l = absurd (omega arith)
  one_less (suc more) l = omega arith

  reached_step : (more at number : ℕ) (o : Option ℕ) → 0 < more → slice_get slots at ≡ o
      → is_reached more slots at number ≡ reached_at o number (is_reached (more - 1) slots (at + 1) number)
  reached_step more at number o l is = ap (λ m. is_reached m slots at number) (one_less more l)
      ∙ ap (λ q. reached_at q number (is_reached (more - 1) slots (at + 1) number)) is

  -- a slot with the number of another row
  pub next_reached : (more at n number : ℕ) → 0 < more → slice_get slots at ≡ Some (suc n) → (n ≡ number → ⊥)
      → is_reached more slots at number ≡ is_reached (more - 1) slots (at + 1) number
  next_reached more at n number l is apart = reached_step more at number (Some (suc n)) l is
      ∙ ap (λ b. b || is_reached (more - 1) slots (at + 1) number)
      (by_bool (nat_eq n number) (λ k. absurd (apart (eqb-true n number k))) (λ k. k))

  -- no number is reached from an empty slot, nor past the end
  pub none_reached : (more at number : ℕ) → 0 < more → slice_get slots at ≡ Some zero
      → is_reached more slots at number ≡ false
  none_reached more at number l is = reached_step more at number (Some zero) l is

  pub end_reached : (more at number : ℕ) → 0 < more → slice_get slots at ≡ None
      → is_reached more slots at number ≡ false
  end_reached more at number l is = reached_step more at number None l is

  free_step : (more at : ℕ) (o : Option ℕ) → 0 < more → slice_get slots at ≡ o
      → free_from more slots at ≡ free_at o at (free_from (more - 1) slots (at + 1))
  free_step more at o l is = ap (λ m. free_from m slots at) (one_less more l)
      ∙ ap (λ q. free_at q at (free_from (more - 1) slots (at + 1))) is

  pub free_here : (more at : ℕ) → 0 < more → slice_get slots at ≡ Some zero → free_from more slots at ≡ Some at
  free_here more at l is = free_step more at (Some zero) l is

  pub free_later : (more at n : ℕ) → 0 < more → slice_get slots at ≡ Some (suc n)
      → free_from more slots at ≡ free_from (more - 1) slots (at + 1)
  free_later more at n l is = free_step more at (Some (suc n)) l is

  pub free_nowhere : (more at : ℕ) → 0 < more → slice_get slots at ≡ None → free_from more slots at ≡ None
  free_nowhere more at l is = free_step more at None l is
