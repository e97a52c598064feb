-- The bytes that are not scanned yet.
use Rattle.std.specs.Prelude.{◌≡◌, ℕ, List, [], ◌∷◌, Option, Some, None}

-- the first byte is removed and returned; None where there is none
abbrev pub TakesByte : (old : List ℕ) → Option ℕ → (new : List ℕ) → Type 0
TakesByte old None new = (old ≡ []) × (new ≡ [])
TakesByte old (Some b) new = old ≡ b ∷ new
