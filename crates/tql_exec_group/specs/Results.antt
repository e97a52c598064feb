-- The results of nodes on a group.
use Rattle.std.specs.Prelude.{◌≡◌, ℕ, ◌+◌, ◌<◌, ◌≤◌, true, not, List, length, Option, slice_index_or}
use Rattle.tql_spec.specs.Binding.{is_loose}
use Rattle.tql_spec.specs.Creation.{has_expr, has_number}
use Rattle.tql_spec.specs.Datum.{Datum, Null, Row}
use Rattle.tql_spec.specs.Expression.{eval, judge}
use Rattle.tql_spec.specs.Truth.{Truth}
use Rattle.tql_expr.specs.Meaning.{trees}
use Rattle.tql_expr.specs.Trees.{cond_of, expr_of, term_in}
use Rattle.tql_expr.specs.declared.terms.Terms.{Terms}
use Rattle.tql_exec_group.specs.Places.{key_at}
use Rattle.tql_exec_group.specs.Steps.{truth_in, value_in}
use Rattle.tql_exec_group.specs.declared.on_group.Found.{Found}

-- the cells of the grouping columns are those of the row
abbrev pub IsKeyOf : List ℕ → Row → Row → Type 0
IsKeyOf columns key row =
    (i : ℕ) → has_number i columns ≡ true → key_at columns key i ≡ slice_index_or row i Null

-- the results at a position are those on the group, if only grouping columns are named outside aggregates
pub record IsResult (t : Terms) (columns : List ℕ) (rows : List Row) (row : Row) (value : ℕ → Option Datum)
    (truth : ℕ → Option Truth) (at : ℕ) : Type 0 where
  pub is_value : not (is_loose columns (expr_of (term_in (trees t) at))) ≡ true
      → value at ≡ eval rows row (expr_of (term_in (trees t) at))
  pub is_truth : not (has_expr (is_loose columns) (cond_of (term_in (trees t) at))) ≡ true
      → truth at ≡ judge rows row (cond_of (term_in (trees t) at))

-- so are the results from a position on
abbrev pub AreResults : Terms → List ℕ → List Row → Row → ℕ → List Found → Type 0
AreResults t columns rows row from found =
    (at : ℕ) → from ≤ at → at < from + length found
    → IsResult t columns rows row (value_in from found) (truth_in from found) at
