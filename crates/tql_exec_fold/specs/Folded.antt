-- Aggregates over the rows that an accumulator has taken.
use Rattle.std.specs.Prelude.{◌≡◌, true, false, List, [], ◌∷◌, ◌++◌, ◌+◌, length, pos, Option, Some, None, ⊤}
use Rattle.std.specs.Prelude.{if◌then◌else◌, not}
use Rattle.std.specs.List.{AllZip}
use Rattle.tql_spec.specs.Datum.{Datum, Row, Int, is_null}
use Rattle.tql_spec.specs.Expression.{aggregate, best, eval, Function, Count, Sum, Min, Max}
use Rattle.tql_value.specs.Views.{datum_of_value}
use Rattle.tql_expr.specs.Meaning.{expr, aggregate as tree_of}
use Rattle.tql_expr.specs.Trees.{plain_function}
use Rattle.tql_expr.specs.declared.terms.Aggregate.{Aggregate}
use Rattle.tql_expr.specs.declared.terms.Aggregate.TheVariants.{Rows, Over}
use Rattle.tql_expr.specs.declared.terms.Terms.{Terms}
use Rattle.tql_exec_fold.specs.Folds.{is_better, of_present, sum_behind, sum_of}
use Rattle.tql_exec_fold.specs.declared.fold.Accumulator.{Accumulator}

-- this value if it is not null, and these
abbrev pub after : Datum → List Datum → List Datum
after v vs = if not (is_null v) then v ∷ vs else vs

-- the result of a function over the values so far and these, which are not null
abbrev pub rest_of : Function → Accumulator → List Datum → Option Datum
rest_of Count a vs = Some (Int (pos (a.values + length vs)))
rest_of Sum a vs = sum_behind (sum_of a.values a.sum) vs
rest_of Min a vs = Some (best (is_better false) (after (datum_of_value a.best) vs))
rest_of Max a vs = Some (best (is_better true) (after (datum_of_value a.best) vs))

-- whichever rows follow, the values so far and theirs give the aggregate over all rows
abbrev pub Represents : Terms → Aggregate → Accumulator → List Row → Type 0
Represents t Rows a rows = ⊤
Represents t (Over f x) a rows = (more : List Row) → of_present (rest_of (plain_function f) a) (expr t x) more
    ≡ of_present (aggregate (plain_function f)) (expr t x) (rows ++ more)

-- whichever rows follow, the aggregate over all rows is out of range
abbrev pub IsOut : Terms → Aggregate → List Row → Type 0
IsOut t which rows = (more : List Row) (row : Row) → eval (rows ++ more) row (tree_of t which) ≡ None

-- the accumulator has taken these rows: the aggregate over them is out of range, or they are counted and represented
pub record HasFolded (t : Terms) (which : Aggregate) (a : Accumulator) (rows : List Row) : Type 0 where
  pub out : a.is_out ≡ true → IsOut t which rows
  pub counted : a.is_out ≡ false → a.rows ≡ length rows
  pub folds : a.is_out ≡ false → Represents t which a rows

-- it takes one more row
abbrev pub Takes : Terms → Aggregate → Accumulator → Accumulator → Row → Type 0
Takes t which old new row = (rows : List Row) → HasFolded t which old rows → HasFolded t which new (rows ++ row ∷ [])

-- the accumulators of these aggregates have taken these rows
abbrev pub HaveFolded : Terms → List Aggregate → List Accumulator → List Row → Type 0
HaveFolded t aggregates folds rows = AllZip (λ which a. HasFolded t which a rows) aggregates folds
