-- Screens: tests of stored columns that are asked before conjuncts, or in their place.
use Rattle.std.specs.Prelude.{◌≡◌, ℕ, ℤ, Bool, false, ◌&&◌, ◌||◌, IsTrue, List, [], ◌∷◌, ◌++◌, filter, map}
use Rattle.std.specs.Prelude.{length, All, Option, Some, None, is_some}
use Rattle.std.specs.List.{flat_map, list_all, list_any}
use Rattle.tql_spec.specs.Words.{◌>>=◌}
use Rattle.tql_spec.specs.Datum.{Datum, Row, Comparison, Equals, Differs, Below, AtMost, Above, AtLeast, compare}
use Rattle.tql_spec.specs.Truth.{is_true}
use Rattle.tql_spec.specs.Binding.{all_assignable}
use Rattle.tql_spec.specs.Definition.{System, TableDef, Version, cell, with_generated}
use Rattle.tql_spec.specs.Expression.{Expr, Cond, Compare, And}
use Rattle.tql_spec.specs.Query.{keep}
use Rattle.tql_catalog.specs.Rows.{stored_width}
use Rattle.tql_plan_laws.specs.Conjuncts.{AreSafe, meets}
use Rattle.tql_plan_laws.specs.Constants.{is_column, literal_of}
use Rattle.tql_plan_laws.specs.Equalities.{agree, column_of, or_else}
use Rattle.tql_plan_access.specs.Access.{IsRow, completed, safe_part}
use Rattle.tql_plan_access.specs.Choices.{is_choice}

-- ---- tests

-- a test of the value in a stored column: a comparison with a literal, or whether it equals one of several literals
pub data Test : Type 0 where
  Compares : ℕ → Comparison → Datum → Test
  IsAmong : ℕ → List Datum → Test

-- whether stored cells meet a test; null meets none
abbrev pub is_met : Test → Row → Bool
is_met (Compares i sign v) cells = is_true (compare sign (cell cells i) v)
is_met (IsAmong i vs) cells = list_any (agree (cell cells i)) vs

-- whether stored cells meet all tests
abbrev pub is_admitted : List Test → Row → Bool
is_admitted tests cells = list_all (λ t. is_met t cells) tests

-- the tests of a screen, and whether they take the place of the conjuncts
pub record Screening : Type 0 where
  pub tests : List Test
  pub whole : Bool

-- the screen that admits all rows, and takes the place of nothing
abbrev pub no_screen : Screening
no_screen = record { tests = []; whole = false }

-- ---- the conditions that are tested

-- the parts of a condition: of an AND the parts of its left side, and its right side. BETWEEN is such an AND
abbrev pub parts : Cond → List Cond
parts (And c d) = parts c ++ d ∷ []
parts c = c ∷ []

-- the parts of conjuncts, in order
abbrev pub parts_of : List Cond → List Cond
parts_of conds = flat_map parts conds

-- whether a condition compares this column with a literal, either way round
abbrev pub is_compared : ℕ → Cond → Bool
is_compared i (Compare sign x y) =
    (is_column i x && is_some (literal_of y)) || (is_some (literal_of x) && is_column i y)
is_compared i c = false

-- whether a condition compares a stored column of a table with a literal, or chooses one of several values for it
abbrev pub is_test : TableDef → Cond → Bool
is_test d c = list_any (λ i. is_compared i c || is_choice i c) (all_assignable d)

-- the parts of the conjuncts before the first that can be out of range that are such conditions
abbrev pub tested : TableDef → List Cond → List Cond
tested d conds = filter (is_test d) (parts_of (safe_part conds))

-- the tests stand for these conditions, one for each: they admit the stored cells of exactly those rows of the table
-- that meet the conditions, whichever moments are in the generated columns
pub record AreTestsOf (d : TableDef) (conds : List Cond) (tests : List Test) : Type 0 where
  pub each : (cells : Row) (start end : ℤ) → length cells ≡ stored_width d
      → is_admitted tests cells ≡ meets conds (with_generated d.system cells start end)
  pub count : length tests ≡ length conds

-- the screen of conjuncts: its tests, and that it is whole if all parts are tested
pub record IsScreenOf (d : TableDef) (conds : List Cond) (s : Screening) : Type 0 where
  pub tests : AreTestsOf d (tested d conds) s.tests
  pub whole : s.whole ≡ list_all (is_test d) (parts_of conds)

-- ---- the rows that are admitted

-- each row that meets the safe part of the conjuncts, with its generated cells, is admitted, whichever moments these
-- cells have
pub record ServesScreen (system : Option System) (period : Option (ℕ × ℕ)) (width : ℕ) (conds : List Cond)
    (tests : List Test) : Type 0 where
  pub all : (cells : Row) (start end : ℤ) → IsRow period width (with_generated system cells start end)
      → IsTrue (meets (safe_part conds) (with_generated system cells start end)) → IsTrue (is_admitted tests cells)

-- no conjunct can be out of range, and exactly the rows that meet them are admitted
pub record DecidesScreen (system : Option System) (period : Option (ℕ × ℕ)) (width : ℕ) (conds : List Cond)
    (tests : List Test) : Type 0 where
  pub safe : AreSafe conds
  pub all : (cells : Row) (start end : ℤ) → IsRow period width (with_generated system cells start end)
      → is_admitted tests cells ≡ meets conds (with_generated system cells start end)

-- a screen serves the conjuncts, and decides them if it is whole
pub record IsScreen (system : Option System) (period : Option (ℕ × ℕ)) (width : ℕ) (conds : List Cond)
    (s : Screening) : Type 0 where
  pub serves : ServesScreen system period width conds s.tests
  pub decides : IsTrue s.whole → DecidesScreen system period width conds s.tests

-- the versions that tests admit
abbrev pub admitted : List Test → List Version → List Version
admitted tests vs = filter (λ v. is_admitted tests v.row.cells) vs

-- the law: the versions that are admitted give the same result as all versions: the same rows pass the conjuncts, or a
-- conjunct is out of range for both
abbrev pub ScreenIsEnough : Type 0
ScreenIsEnough =
    (system : Option System) (period : Option (ℕ × ℕ)) (width : ℕ) (conds : List Cond) (tests : List Test)
    → ServesScreen system period width conds tests → (vs : List Version)
    → All (λ v. IsRow period width (completed system v)) vs
    → keep conds (map (completed system) (admitted tests vs)) ≡ keep conds (map (completed system) vs)

-- the law: where the tests decide the conjuncts, no version is out of range, and those that are admitted pass
abbrev pub WholeScreenDecides : Type 0
WholeScreenDecides =
    (system : Option System) (period : Option (ℕ × ℕ)) (width : ℕ) (conds : List Cond) (tests : List Test)
    → DecidesScreen system period width conds tests → (vs : List Version)
    → All (λ v. IsRow period width (completed system v)) vs
    → keep conds (map (completed system) vs) ≡ Some (map (completed system) (admitted tests vs))

-- ---- one comparison

-- the sign with its sides exchanged
abbrev pub turned : Comparison → Comparison
turned Equals = Equals
turned Differs = Differs
turned Below = Above
turned AtMost = AtLeast
turned Above = Below
turned AtLeast = AtMost

-- the comparison of a column with a literal
abbrev pub compared_with : Comparison → Expr → Expr → Option Test
compared_with sign x y = column_of x >>= λ i. literal_of y >>= λ v. Some (Compares i sign v)

-- the comparison of a condition that compares a column with a literal
abbrev pub comparison_in : Cond → Option Test
comparison_in (Compare sign x y) = or_else (compared_with sign x y) (compared_with (turned sign) y x)
comparison_in c = None
