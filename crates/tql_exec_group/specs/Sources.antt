-- The items that stand in a group as they are: grouping columns, and COUNT(*).
use Rattle.std.specs.Prelude.{◌≡◌, ℕ, List, length, pos, take, Option, Some, slice_index_or}
use Rattle.std.specs.List.{AllZip}
use Rattle.tql_spec.specs.Datum.{Datum, Null, Row, exact}
use Rattle.tql_spec.specs.Expression as bound
use Rattle.tql_expr.specs.Meaning.{expr}
use Rattle.tql_expr.specs.declared.terms.ExprId.{ExprId}
use Rattle.tql_expr.specs.declared.terms.Terms.{Terms}
use Rattle.tql_exec_group.specs.Places.{place_from}
use Rattle.tql_exec_group.specs.declared.direct.Source.{Source}
use Rattle.tql_exec_group.specs.declared.direct.Source.TheVariants.{Key, Count}

-- the value at a source: a cell of the group's key, or the number of its rows; none if it is out of range
abbrev pub source_value : Row → ℕ → Source → Option Datum
source_value key count (Key place) = Some (slice_index_or key place Null)
source_value key count Count = exact (pos count)

-- the item is the grouping column that the key has at this index, or COUNT(*)
abbrev pub IsSource : Terms → List ℕ → Source → ExprId → Type 0
IsSource t columns (Key place) x =
    (column : ℕ) × (expr t x ≡ bound.Column column) × (place_from 0 columns column ≡ Some place)
IsSource t columns Count x = expr t x ≡ bound.CountRows

-- these are the sources of the first items
abbrev pub AreSources : Terms → List ℕ → List Source → List ExprId → Type 0
AreSources t columns sources items = AllZip (IsSource t columns) sources (take (length sources) items)
