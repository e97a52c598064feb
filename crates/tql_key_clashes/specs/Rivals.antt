-- Rows that can clash, and tests of neighbours.
use Rattle.std.specs.Prelude.{Bool, true, not, ◌&&◌, ◌||◌, List, [], ◌∷◌}
use Rattle.tql_spec.specs.Datum.{Row}
use Rattle.tql_spec.specs.Definition.{TableDef, Key, period_of}
use Rattle.tql_spec.specs.Period.{rises}

-- whether a row can clash with another: in a key WITHOUT OVERLAPS, only if its period is not empty
abbrev pub can_clash : TableDef → Key → Row → Bool
can_clash d k r = not k.by_period || rises (period_of d r)

-- whether an element passes the test with the first of the elements after it, if any
abbrev pub with_first : {A : Type 0} → (A → A → Bool) → A → List A → Bool
with_first test x [] = true
with_first test x (y ∷ ys) = test x y

-- whether each element passes the test with the next one
abbrev pub all_neighbours : {A : Type 0} → (A → A → Bool) → List A → Bool
all_neighbours test [] = true
all_neighbours test (x ∷ xs) = with_first test x xs && all_neighbours test xs
