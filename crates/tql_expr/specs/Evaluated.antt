-- The result of an evaluation.
use Rattle.std.specs.Prelude.{◌≡◌, List, ◌++◌, Option, Some, None, Result, MatchResult, ⊤}
use Rattle.tql_value.specs.declared.refusal.Refusal.{Refusal}
use Rattle.tql_value.specs.declared.refusal.Refusal.TheVariants.{OutOfMemory, ValueOutOfRange}

-- the reason why there is no value: out of memory, or an evaluation out of range
abbrev pub Fails : {A : Type 0} → Option A → Refusal → Type 0
Fails o OutOfMemory = ⊤
Fails o ValueOutOfRange = o ≡ None
Fails o _ = ⊥

-- a result that represents the wanted value, or says why there is none
abbrev pub Evaluated : {A B : Type 0} → (A → B) → Option B → Result A Refusal → Type 0
Evaluated f o result = MatchResult result (λ x. o ≡ Some (f x)) (Fails o)

-- these elements, followed by the others if there are any
abbrev pub behind : {A : Type 0} → List A → Option (List A) → Option (List A)
behind xs None = None
behind xs (Some ys) = Some (xs ++ ys)
