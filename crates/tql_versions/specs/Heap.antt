-- Versions as a heap by their ends: no version ends later than its eight children, at positions 8p + 1 to 8p + 8.
use Rattle.std.specs.Prelude.{◌≡◌, ◌≢◌, ℕ, ◌+◌, ◌*◌, ◌<◌, ◌≤◌, List, length, ℤ, ◌<ℤ◌, ◌≤ℤ◌, All}
use Rattle.tql_spec.specs.Calendar.{high}
use Rattle.tql_spec.specs.Definition.{Version}
use Rattle.tql_versions.specs.Places.{version_at}

-- a position is that of a child of another
abbrev pub IsChild : ℕ → ℕ → Type 0
IsChild p c = (p * 8 < c) × (c ≤ p * 8 + 8)

-- the end of the version at a position
abbrev pub end_at : List Version → ℕ → ℤ
end_at vs k = (version_at vs k).end

-- no child of a position ends before it
abbrev pub EndsFirst : List Version → ℕ → Type 0
EndsFirst vs p = (c : ℕ) → IsChild p c → c < length vs → end_at vs p ≤ℤ end_at vs c

-- no child of any position does
abbrev pub IsHeap : List Version → Type 0
IsHeap vs = (p : ℕ) → EndsFirst vs p

-- no child of any position does but perhaps of one, whose children end no earlier than its parent
pub record IsHeapBut (q : ℕ) (vs : List Version) : Type 0 where
  pub others : (p : ℕ) → p ≢ q → EndsFirst vs p
  pub above : (p c : ℕ) → IsChild p q → IsChild q c → c < length vs → end_at vs p ≤ℤ end_at vs c

-- the child of a position that ends first
pub record IsFirstChild (vs : List Version) (p c : ℕ) : Type 0 where
  pub child : IsChild p c
  pub within : c < length vs
  pub first : (d : ℕ) → IsChild p d → d < length vs → end_at vs c ≤ℤ end_at vs d

-- it ends before the version at the position
pub record IsSooner (vs : List Version) (p c : ℕ) : Type 0 where
  pub first : IsFirstChild vs p c
  pub sooner : end_at vs c <ℤ end_at vs p

-- each version has ended
abbrev pub HaveEnded : List Version → Type 0
HaveEnded vs = All (λ v. v.end <ℤ high) vs

-- ended versions in a heap
pub record AreInHeap (vs : List Version) : Type 0 where
  pub heap : IsHeap vs
  pub ended : HaveEnded vs
