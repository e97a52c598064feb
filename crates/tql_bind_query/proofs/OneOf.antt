-- Exactly one of several, or else the first with a fault.
use Rattle.std.proofs.Common.{◌≡◌, refl, ℕ, List, [], ◌∷◌, Bool, true, false}
use Rattle.std.specs.Prelude.{not, Some, None, if◌then◌else◌}
use Rattle.tql_spec.specs.Binding.{column_of}
use Rattle.tql_spec.specs.Creation.{or_first}
use Rattle.tql_spec.specs.Names.{◌>>=◌, sound, unless, Thing, AColumn, APeriod, one_column}
use Rattle.tql_spec.specs.Refusal.{NameUnknownAmbiguousOrRepeated}
use Rattle.tql_bind_query.specs.Grouped.{sole_number}

-- the one column of GROUP BY
pub grouped_is : (ts : List Thing) → (one_column ts >>= λ t. sound (column_of t.expr)) ≡ or_first (sole_number ts)
grouped_is [] = refl
grouped_is (AColumn i c ∷ []) = refl
grouped_is (APeriod s e k ∷ []) = refl
grouped_is (AColumn i c ∷ t ∷ ts) = refl
grouped_is (APeriod s e k ∷ t ∷ ts) = refl

-- a number, if it exists
pub placed_is : (b : Bool) (i : ℕ)
    → unless (not b) NameUnknownAmbiguousOrRepeated (if b then i else 0) ≡ or_first (if b then Some i else None)
placed_is true i = refl
placed_is false i = refl
