-- An optional period, by its ends.
use Rattle.std.specs.Prelude.{◌≡◌, ◌↔◌, ℤ, ◌≤ℤ◌, ◌<ℤ◌, true, Option, Some, None, IsSome, IfSome, refl}
use Rattle.std.proofs.Common.{arith, subst}
use Rattle.std.proofs.lemmas.Int.{ints, clamps}
use Rattle.tql_spec.specs.Period.{Period, Holds, rises, before, inside, after, if_any}
use Rattle.tql_period.specs.declared.period.Period as code
use Rattle.tql_period.specs.Points.{points_of, points_of_piece, LiesIn, HoldsExactly}

-- the piece has the ends of x, and it exists exactly if x starts before it ends
pub record IsPiece (piece : Option code.Period) (x : Period) : Type 0 where
  pub rising : IsSome piece ↔ (x.start <ℤ x.end)
  pub ends : IfSome piece (λ y. points_of y ≡ x)

-- what the constructor returns for these ends
pub piece_of : (piece : Option code.Period) (s e : ℤ) (x : Period) → (IsSome piece ↔ (s <ℤ e))
    → IfSome piece (λ y. points_of y ≡ record { start = s; end = e }) → s ≡ x.start → e ≡ x.end → IsPiece piece x
piece_of piece s e x r k p q = record { rising = rw (← p, ← q) r; ends = rw (← p, ← q) k }

lies_in : (piece : Option code.Period) (x : Period) → IsPiece piece x → (p : ℤ) → LiesIn piece p ↔ Holds x p
lies_in (Some y) x h p = subst (λ z. Holds (points_of y) p ↔ Holds z p) h.ends (λ k. k, λ k. k)
lies_in None x h p = (
  λ k. absurd k,
  λ k. let e : IsSome {T = code.Period} None = h.rising.1 (omega (arith, ints, k.0, k.1)) in absurd
      (cc),
)

pub piece_is : (piece : Option code.Period) (x : Period) → IsPiece piece x → points_of_piece piece ≡ if_any x
piece_is (Some y) x h =
    let r : rises x ≡ true = let k : x.start <ℤ x.end = h.rising.0 refl in grind (arith, ints) in
    rw (h.ends, r) refl
piece_is None x h = grind (arith, ints)

through : {A B C : Type 0} → A ↔ B → B ↔ C → A ↔ C
through e f = (λ a. f.0 (e.0 a), λ c. e.1 (f.1 c))

pub before_is : (piece : Option code.Period) (x portion : Period) → IsPiece piece (before portion.start x)
    → HoldsExactly piece (λ p. Holds x p × (p <ℤ portion.start))
before_is piece x portion h p =
    through (lies_in piece _ h p) (λ k. grind (arith, ints, clamps), λ k. grind (arith, ints, clamps))

pub inside_is : (piece : Option code.Period) (x portion : Period) → IsPiece piece (inside portion x)
    → HoldsExactly piece (λ p. Holds x p × Holds portion p)
inside_is piece x portion h p =
    through (lies_in piece _ h p) (λ k. grind (arith, ints, clamps), λ k. grind (arith, ints, clamps))

pub after_is : (piece : Option code.Period) (x portion : Period) → IsPiece piece (after portion.end x)
    → HoldsExactly piece (λ p. Holds x p × (portion.end ≤ℤ p))
after_is piece x portion h p =
    through (lies_in piece _ h p) (λ k. grind (arith, ints, clamps), λ k. grind (arith, ints, clamps))
