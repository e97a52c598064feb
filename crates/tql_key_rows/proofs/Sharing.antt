-- Periods that may be empty, and whether they share a point.
use Rattle.std.proofs.Common.{◌≡◌, refl, sym, ap, ◌∙◌, Bool, true, false, arith}
use Rattle.std.specs.Prelude.{Option, Some, None, not, ◌||◌, ℤ}
use Rattle.std.proofs.lemmas.Int.{ints, clamps}
use Rattle.tql_spec.specs.Period.{Period, holds, rises, where_rising, share_a_point}
use Rattle.tql_spec.proofs.Members.{by_bool}
use Rattle.tql_key_rows.specs.Touched.{share}

-- an empty period shares no point
pub falling_first : (x y : Period) → rises x ≡ false → share_a_point x y ≡ false
falling_first x y e = grind (arith, ints, clamps)

pub falling_second : (x y : Period) → rises y ≡ false → share_a_point x y ≡ false
falling_second x y e = grind (arith, ints, clamps)

-- optional periods share a point exactly if the periods do
pub sharing : (x y : Period) → share (where_rising x) (where_rising y) ≡ share_a_point x y
sharing x y = by_bool (rises x) (λ e. by_bool (rises y)
    (λ f. ap (λ a. share a (where_rising y)) (is x e) ∙ ap (share (Some x)) (is y f))
    (λ f. ap (λ a. share a (where_rising y)) (is x e) ∙ ap (share (Some x)) (is_not y f)
    ∙ sym (falling_second x y f)))
    (λ e. ap (λ a. share a (where_rising y)) (is_not x e) ∙ sym (falling_first x y e))
  where
    is : (z : Period) → rises z ≡ true → where_rising z ≡ Some z
    is z e = rw e refl

    is_not : (z : Period) → rises z ≡ false → where_rising z ≡ None
    is_not z e = rw e refl

-- so they decide whether rows of one tuple clash in a key WITHOUT OVERLAPS
pub share_is : (x y : Period) (a b : Option Period) (r by_period : Bool) → a ≡ where_rising x → b ≡ where_rising y
    → r ≡ share a b → by_period ≡ true → r ≡ not by_period || share_a_point x y
share_is x y a b r by_period e f g h =
    g ∙ ap (λ o. share o b) e ∙ ap (share (where_rising x)) f ∙ sharing x y
    ∙ sym (ap (λ c. not c || share_a_point x y) h)

-- a period that is Some is the given one
pub risen : (x y : Period) → Some y ≡ where_rising x → y ≡ x
risen x y e = by_bool (rises x)
    (λ r. let h : where_rising x ≡ Some x = rw r refl in cc)
    (λ r. let h : where_rising x ≡ None = rw r refl in absurd (cc))

-- if it is None, the given period is empty
pub not_risen : (x : Period) → None ≡ where_rising x → rises x ≡ false
not_risen x e = by_bool (rises x)
    (λ r. let h : where_rising x ≡ Some x = rw r refl in absurd (cc))
    (λ r. r)

-- an empty period holds no point
pub falling_holds : (x : Period) (p : ℤ) → rises x ≡ false → holds x p ≡ false
falling_holds x p e = grind (arith, ints, e)
