-- Versions as known at a pin: when the commit of that moment was the last one.
use Rattle.std.specs.Prelude.{◌≡◌, ◌||◌, ℤ, ◌≤ℤ◌, int_le, int_lt, Option, Some, None, if◌then◌else◌}
use Rattle.tql_spec.specs.Calendar.{high}
use Rattle.tql_spec.specs.Definition.{Version}
use Rattle.tql_versions.specs.Changes.{nothing}
use Rattle.tql_versions.specs.Readings.{is_answer}
use Rattle.tql_versions.specs.declared.version.Version as answer
use Rattle.tql_value.specs.declared.when.When.{When}

-- an end as known when the commit of a moment was the last one: `high` if the version was ended later
abbrev pub end_told : ℤ → ℤ → ℤ
end_told p end = if int_lt p end then high else end

-- a version as it was then
abbrev pub capped : ℤ → Version → Version
capped p v = record { row = v.row; end = end_told p v.end }

-- the version shown at a pin: an empty one if the version had not begun; before any commit none had
abbrev pub shown_at : Option ℤ → Version → Version
shown_at None v = nothing
shown_at (Some p) v = if int_le v.row.start p then capped p v else nothing

-- a query on a store whose versions end by the highest moment that selects the versions which `when` selects at a pin
pub record AsksAt (p : ℤ) (when other : When) : Type 0 where
  pub tells : (v : Version) → v.end ≤ℤ high → is_answer when (shown_at (Some p) v) ≡ is_answer other v

-- an answer as it was at a pin
abbrev pub answer_capped : ℤ → answer.Version → answer.Version
answer_capped p s = record { id = s.id; kept = s.kept; ends_later = s.ends_later || int_lt p s.kept.now.end }
