-- Choices: a condition that equates a column with one of several literals, as IN does.
use Rattle.std.specs.Prelude.{◌≡◌, ℕ, Bool, true, false, not, ◌&&◌, ◌||◌, List, [], ◌∷◌, Option, Some, None, is_some}
use Rattle.std.specs.Prelude.{map, option_map}
use Rattle.std.specs.List.{find, list_any}
use Rattle.tql_spec.specs.Datum.{Datum, is_null}
use Rattle.tql_spec.specs.Definition.{TableDef}
use Rattle.tql_spec.specs.Expression.{Cond, Or}
use Rattle.tql_catalog.specs.Sought.{sought_columns}
use Rattle.tql_plan_laws.specs.Constants.{first_said, value_of}
use Rattle.tql_plan_laws.specs.Equalities.{agree}

-- ---- a choice of values

-- whether a condition equates this column with a literal
abbrev pub is_equated : ℕ → Cond → Bool
is_equated i c = is_some (value_of i c)

-- whether a condition is a comparison of this column with a literal, or the OR of one and of a condition that is a
-- choice itself; IN, and OR without parentheses, nest to one side
abbrev pub is_choice : ℕ → Cond → Bool
is_choice i (Or c d) = (is_equated i c && is_choice i d) || (is_choice i c && is_equated i d)
is_choice i c = is_equated i c

-- whether a value equals a literal, if there is one; null equals nothing
abbrev pub agrees_if : Datum → Option Datum → Bool
agrees_if x None = false
agrees_if x (Some v) = agree x v

-- whether a value equals one of the literals of a choice
abbrev pub is_chosen : ℕ → Cond → Datum → Bool
is_chosen i (Or c d) x = is_chosen i c x || is_chosen i d x
is_chosen i c x = agrees_if x (value_of i c)

-- whether the columns are a single one, which passes a test
abbrev pub is_single_of : (ℕ → Bool) → List ℕ → Bool
is_single_of test [] = false
is_single_of test (i ∷ []) = test i
is_single_of test (i ∷ j ∷ is) = false

-- whether the columns are a single one, and a condition is a choice of its values
abbrev pub chooses : Cond → List ℕ → Bool
chooses c columns = is_single_of (λ i. is_choice i c) columns

-- the lists of one of these columns each
abbrev pub singles : List ℕ → List (List ℕ)
singles columns = map (λ i. i ∷ []) columns

-- for any test of a column, the first of these lists of columns that is a single one that passes it is the first of
-- these columns that does
abbrev pub FindsSame : List (List ℕ) → List ℕ → Type 0
FindsSame lists columns =
    (test : ℕ → Bool) → find (is_single_of test) (singles columns) ≡ find (is_single_of test) lists

-- a condition, and the first key or else reference of a table whose only column it chooses
abbrev pub choice_by : TableDef → Cond → Option (Cond × List ℕ)
choice_by d c = option_map (λ is. (c, is)) (find (chooses c) (sought_columns d))

-- the first conjunct that is such a condition
abbrev pub choice_in : TableDef → List Cond → Option (Cond × List ℕ)
choice_in d conds = first_said (choice_by d) conds

-- ---- the values

-- whether none of the values is null, and none equals a later one
abbrev pub are_distinct : List Datum → Bool
are_distinct [] = true
are_distinct (v ∷ vs) = not (is_null v) && (not (list_any (agree v) vs) && are_distinct vs)
