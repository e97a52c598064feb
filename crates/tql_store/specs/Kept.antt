-- Which copies of a table a horizon keeps, and from which moment its versions are kept.
use Rattle.std.specs.Prelude.{List, [], ◌∷◌, ℤ, int_le, Option, Some, None, if◌then◌else◌}
use Rattle.tql_spec.specs.History.{TableEntry}

-- the copies of a table that a horizon keeps: from the newest to the first that is not after the horizon
abbrev pub forgotten : ℤ → List TableEntry → List TableEntry
forgotten h [] = []
forgotten h (e ∷ older) = e ∷ (if int_le e.moment h then [] else forgotten h older)

-- the moment of the oldest copy
abbrev pub oldest : TableEntry → List TableEntry → ℤ
oldest e [] = e.moment
oldest e (f ∷ older) = oldest f older

-- the moment from which versions are kept: that of the oldest copy if the horizon has reached it, else unlimited
abbrev pub kept_of : ℤ → List TableEntry → Option ℤ
kept_of h [] = None
kept_of h (e ∷ older) = if int_le (oldest e older) h then Some (oldest e older) else None
