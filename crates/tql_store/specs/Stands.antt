-- How the versions of a table relate to its copies.
use Rattle.std.specs.Prelude.{Bool, ◌&&◌, List, [], ◌∷◌, filter, ℤ, ◌≤ℤ◌, ◌<ℤ◌, int_le, int_lt, ◌⊎◌, Option, Some, None}
use Rattle.tql_versions.specs.Changes.{Under, Past}
use Rattle.tql_spec.specs.Bag.{SameBag, In}
use Rattle.tql_spec.specs.Calendar.{high}
use Rattle.tql_spec.specs.Definition.{Stamped, Version}
use Rattle.tql_spec.specs.History.{TableEntry, completed}

-- ---- horizons: versions that ended at or before the horizon may have been removed; without one, none have

-- a moment is not before the horizon
abbrev pub Within : Option ℤ → ℤ → Type 0
Within None m = Unit {0}
Within (Some h) m = h ≤ℤ m

-- ---- copies and rows

-- whether a row with these ends exists at a moment
abbrev pub stands_at : (Stamped → ℤ) → ℤ → Stamped → Bool
stands_at ends m r = int_le r.start m && int_lt m (ends r)

-- a moment is not between two others
abbrev pub Outside : ℤ → ℤ → ℤ → Type 0
Outside from until m = (m ≤ℤ from) ⊎ (until ≤ℤ m)

-- a copy that lasts until a moment consists of the rows that exist at its own; no row begins or ends in between
pub record Fits (rows : List Stamped) (ends : Stamped → ℤ) (e : TableEntry) (until : ℤ) : Type 0 where
  pub copy : SameBag e.rows (filter (stands_at ends e.moment) rows)
  pub starts : (r : Stamped) → In r rows → Outside e.moment until r.start
  pub stops : (r : Stamped) → In r rows → Outside e.moment until (ends r)

-- no row begins before a moment
abbrev pub Unborn : List Stamped → ℤ → Type 0
Unborn rows until = (r : Stamped) → In r rows → until ≤ℤ r.start

-- each copy, newest first, that lasts beyond the horizon fits the rows; before the oldest, no row begins
abbrev pub Told : Option ℤ → List Stamped → (Stamped → ℤ) → ℤ → List TableEntry → Type 0
Told horizon rows ends until [] = Past horizon until ⊎ Unborn rows until
Told horizon rows ends until (e ∷ older) =
    (e.moment <ℤ until) × ((Past horizon until ⊎ Fits rows ends e until) × Told horizon rows ends e.moment older)

-- each row begins before it ends
abbrev pub Proper : List Stamped → (Stamped → ℤ) → Type 0
Proper rows ends = (r : Stamped) → In r rows → (r.start <ℤ ends r) × (ends r ≤ℤ high)

-- versions represent the copies from a horizon on: they are rows, each with one end, that fit the copies
pub record StandsFor (horizon : Option ℤ) (versions : List Version) (entries : List TableEntry) : Type 0 where
  pub rows : List Stamped
  pub ends : Stamped → ℤ
  pub top : Under horizon high
  pub made : SameBag versions (completed ends rows)
  pub proper : Proper rows ends
  pub told : Told horizon rows ends high entries
