-- The texts that are in quotes as fields.
use Rattle.std.proofs.Common.{◌≡◌, ℕ, ◌<◌, List, [], ◌∷◌, true, refl, length, arith}
use Rattle.std.specs.List.{list_any}
use Rattle.tql_result_laws.specs.Csv.{is_sign, is_quoted}

-- an empty text
pub quoted_empty : (xs : List ℕ) → length xs ≡ 0 → is_quoted xs ≡ true
quoted_empty [] e = refl
quoted_empty (x ∷ xs) e = absurd (omega arith)

-- a non-empty text
pub quoted_some : (xs : List ℕ) → 0 < length xs → is_quoted xs ≡ list_any is_sign xs
quoted_some [] h = absurd (omega arith)
quoted_some (x ∷ xs) h = refl
