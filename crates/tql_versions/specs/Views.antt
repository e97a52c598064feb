-- What the types of the code represent.
use Rattle.std.specs.Prelude.{◌≡◌, ℕ, true, List, map, slice_index_or}
use Rattle.tql_spec.specs.Definition as definition
use Rattle.tql_versions.specs.declared.kept.Kept.{Kept}
use Rattle.tql_versions.specs.Changes.{is_current}

-- a stored version
abbrev pub version_of : Kept → definition.Version
version_of k = record { row = record { cells = k.row; start = k.start }; end = k.end }

abbrev pub versions_of : List Kept → List definition.Version
versions_of ks = map version_of ks

-- the version at a position is not closed
abbrev pub open_at : List Kept → ℕ → Type 0
open_at ks k = (d : Kept) → is_current (version_of (slice_index_or ks k d)) ≡ true
