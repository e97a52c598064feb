-- A text has at most as many characters as bytes.
use Rattle.std.proofs.Common.{◌≡◌, ◌∙◌, sym, ◌≤◌, ◌+◌, ℕ, suc, Bool, true, false, List, [], ◌∷◌, length, arith}
use Rattle.std.specs.Prelude.{nat_lt, nat_le, ◌&&◌, if◌then◌else◌}
use Rattle.std.proofs.lemmas.Bool.Decides.{nat_tests}
use Rattle.tql_spec.specs.Datum.{characters}

pub at_most : (bs : List ℕ) → characters bs ≤ length bs
at_most [] = omega arith
at_most (b ∷ bs) = by_byte (nat_le 128 b && nat_lt b 192) (characters bs) (length bs) (at_most bs)
  where
    by_byte : (later : Bool) (n m : ℕ) → n ≤ m → (if later then 0 else 1) + n ≤ suc m
    by_byte true n m h = omega (arith, h)
    by_byte false n m h = omega (arith, h)

-- no text of at most n bytes is longer than n characters
pub brief : (n : ℕ) (bs : List ℕ) → length bs ≤ n → nat_lt n (length bs) ≡ nat_lt n (characters bs)
brief n bs e =
    let h = at_most bs in
    let l : nat_lt n (length bs) ≡ false = grind (arith, nat_tests) in
    let r : nat_lt n (characters bs) ≡ false = grind (arith, nat_tests) in l ∙ sym r
