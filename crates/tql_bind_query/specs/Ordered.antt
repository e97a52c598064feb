-- The output columns that keys of ORDER BY name by position.
use Rattle.std.specs.Prelude.{ℕ, ◌-◌, List, not, Option, Some, None, if◌then◌else◌}
use Rattle.tql_spec.specs.Binding.{has_position}
use Rattle.tql_spec.specs.Calendar.{number_of}
use Rattle.tql_spec.specs.Names.{Checked, unless}
use Rattle.tql_spec.specs.Refusal.{NameUnknownAmbiguousOrRepeated}

-- the index of a position among the columns of a given width
abbrev pub place_at : ℕ → ℕ → Option ℕ
place_at width n = if has_position n width then Some (n - 1) else None

-- the index of a position, given by its digits; a fault and the first index if there is none
abbrev pub position_place : ℕ → List ℕ → Checked ℕ
position_place width ds =
    let n = number_of ds in
    unless (not (has_position n width)) NameUnknownAmbiguousOrRepeated (if has_position n width then n - 1 else 0)
