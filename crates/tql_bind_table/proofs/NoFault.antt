-- The properties of a result without a fault.
use Rattle.std.specs.Prelude.{◌≡◌, refl, ℕ, Bool, true, false, not, ◌||◌, List, [], ◌∷◌, ◌++◌, Option, Some, None}
use Rattle.tql_spec.specs.Refusal.{Refusal, NameUnknownAmbiguousOrRepeated, fault_if, first}
use Rattle.tql_spec.specs.Creation.{or_first}

pub nothing_first : (fs : List Refusal) → first fs ≡ None → fs ≡ []
nothing_first [] e = refl
nothing_first (f ∷ fs) e = cc

pub front_none : (xs ys : List Refusal) → xs ++ ys ≡ [] → xs ≡ []
front_none [] ys e = refl
front_none (x ∷ xs) ys e = cc

pub behind_none : (xs ys : List Refusal) → xs ++ ys ≡ [] → ys ≡ []
behind_none [] ys e = e
behind_none (x ∷ xs) ys e = cc

pub never : (f : Refusal) (fs : List Refusal) → f ∷ fs ≡ [] → ⊥
never f fs e = cc

pub not_present : (b : Bool) (f : Refusal) → fault_if b f ≡ [] → b ≡ false
not_present true f e = absurd (never f [] e)
not_present false f e = refl

pub or_none : (a b : Bool) → a || b ≡ false → (a ≡ false) × (b ≡ false)
or_none true b e = cc
or_none false b e = (refl, e)

pub not_none : (b : Bool) → not b ≡ false → b ≡ true
not_none true e = refl
not_none false e = cc

pub found : (o : Option ℕ) → (or_first o).faults ≡ [] → o ≡ Some (or_first o).value
found None e = absurd (never NameUnknownAmbiguousOrRepeated [] e)
found (Some i) e = refl
