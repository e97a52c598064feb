-- Conjuncts without calculations: they filter rows, and no evaluation is out of range.
use Rattle.std.specs.Prelude.{◌≡◌, Bool, false, ◌&&◌, IsTrue, List, [], ◌++◌, filter, Option, Some, None}
use Rattle.std.specs.List.{list_all}
use Rattle.tql_spec.specs.Datum.{Row}
use Rattle.tql_spec.specs.Truth.{Truth, is_true}
use Rattle.tql_spec.specs.Expression.{Cond, judge, is_safe}
use Rattle.tql_spec.specs.Query.{keep}

-- the conjuncts have a truth value on every row
abbrev pub AreSafe : List Cond → Type 0
AreSafe conds = IsTrue (list_all is_safe conds)

-- whether there is a truth value, and it is true
abbrev pub is_sure : Option Truth → Bool
is_sure None = false
is_sure (Some t) = is_true t

-- whether a row meets all conjuncts
abbrev pub meets : List Cond → Row → Bool
meets conds row = list_all (λ c. is_sure (judge [] row c)) conds

-- the law: safe conjuncts keep the rows that meet them all
abbrev pub SafeConjunctsFilter : Type 0
SafeConjunctsFilter =
    (conds : List Cond) (rows : List Row) → AreSafe conds → keep conds rows ≡ Some (filter (meets conds) rows)

-- the law: a row meets the conjuncts of two lists if and only if it meets those of each
abbrev pub ConjunctsSplit : Type 0
ConjunctsSplit = (cs ds : List Cond) (row : Row) → meets (cs ++ ds) row ≡ (meets cs row && meets ds row)
