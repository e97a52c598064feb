-- Added rows that replace others and have the same values in all that keys and references read.
use Rattle.std.specs.Prelude.{ℕ, Bool, true, false, not, ◌&&◌, ◌||◌, List, [], ◌∷◌, Option, Some, None}
use Rattle.std.specs.Ordering.{int_eq, is_eq}
use Rattle.tql_spec.specs.Datum.{Row}
use Rattle.tql_spec.specs.Definition.{TableDef, Stamped, period_of, shown}
use Rattle.tql_spec.specs.Period.{Period}
use Rattle.tql_spec.specs.Query.{by_columns}
use Rattle.tql_key_rows.specs.Touched.{tuple}

-- whether two periods have the same ends
abbrev pub same_ends : Period → Period → Bool
same_ends x y = int_eq x.start y.start && int_eq x.end y.end

-- whether two rows have the same application period
abbrev pub same_period : TableDef → Row → Row → Bool
same_period d r s = same_ends (period_of d r) (period_of d s)

-- whether two rows have the same values in some columns and, by period, the same application period
abbrev pub are_alike : TableDef → List ℕ → Bool → Row → Row → Bool
are_alike d columns by_period r s =
    is_eq (by_columns (tuple columns r) (tuple columns s)) && (not by_period || same_period d r s)

-- whether an added row is alike the row that it replaces; not if there is none
abbrev pub is_kept : TableDef → List ℕ → Bool → Option Stamped → Row → Bool
is_kept d columns by_period None x = false
is_kept d columns by_period (Some r) x = are_alike d columns by_period (shown d r) x

-- whether there are as many rows as ids, and each row is alike the one that the id at its position names
abbrev pub are_kept : TableDef → List ℕ → Bool → (ℕ → Option Stamped) → List ℕ → List Row → Bool
are_kept d columns by_period named [] [] = true
are_kept d columns by_period named (id ∷ ids) (x ∷ rows) =
    is_kept d columns by_period (named id) x && are_kept d columns by_period named ids rows
are_kept d columns by_period named _ _ = false
