-- Versions by their positions.
use Rattle.std.specs.Prelude.{◌≡◌, ◌≢◌, ℕ, List, length, slice_index_or}
use Rattle.tql_spec.specs.Definition.{Version}
use Rattle.tql_versions.specs.Changes.{nothing}

-- the version at a position
abbrev pub version_at : List Version → ℕ → Version
version_at vs k = slice_index_or vs k nothing

-- two versions have changed places
pub record AreExchanged (a b : ℕ) (old new : List Version) : Type 0 where
  pub even : length new ≡ length old
  pub first : version_at new a ≡ version_at old b
  pub second : version_at new b ≡ version_at old a
  pub others : (k : ℕ) → k ≢ a → k ≢ b → version_at new k ≡ version_at old k
