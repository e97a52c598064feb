-- The result of a change does not depend on the order in which rows are stored or given.
use Rattle.std.specs.Prelude.{◌≡◌, ℕ, Bool, true, false, not, List, ◌++◌, ℤ, Option, Some, None}
use Rattle.std.specs.List.{filter}
use Rattle.tql_spec.specs.Words.{map_all}
use Rattle.tql_spec.specs.Bag.{SameBag}
use Rattle.tql_spec.specs.Datum.{Row}
use Rattle.tql_spec.specs.Period.{Period}
use Rattle.tql_spec.specs.Refusal.{first}
use Rattle.tql_spec.specs.Expression.{Cond}
use Rattle.tql_spec.specs.Definition.{TableDef, Stamped, shown}
use Rattle.tql_spec.specs.Change.{Outcome, Fate, Untouched, Replaced, after_fates, new_rows, Work, fate, insert, modify}

-- ---- the order of rows

-- two outcomes that differ only in the order of rows, and report the same fault
pub record SameOutcome (o p : Outcome) : Type 0 where
  pub rows : SameBag o.rows p.rows
  pub count : o.count ≡ p.count
  pub fault : first o.faults ≡ first p.faults

-- the law: a change has the same outcome whatever the order in which the rows are stored
abbrev pub ChangesKeepNoOrder : Type 0
ChangesKeepNoOrder =
    (d : TableDef) (m : ℤ) (rows others : List Stamped) (portion : Option Period) (work : Work) (conds : List Cond)
    → SameBag rows others → SameOutcome (modify d m rows portion work conds) (modify d m others portion work conds)

-- ---- the rows by parts

-- whether a row with this fate is removed
abbrev pub goes : Option Fate → Bool
goes None = false
goes (Some Untouched) = false
goes (Some (Replaced new)) = true

-- the law: if no fate is out of range, the rows after a change are the untouched rows and the new ones
abbrev pub ChangesByParts : Type 0
ChangesByParts =
    (d : TableDef) (m : ℤ) (rows : List Stamped) (portion : Option Period) (work : Work) (conds : List Cond)
    (fates : List Fate)
    → map_all (λ r. fate d m portion work conds (shown d r)) rows ≡ Some fates
    → SameBag (after_fates rows fates)
    (filter (λ r. not (goes (fate d m portion work conds (shown d r)))) rows ++ new_rows fates)

-- ---- new rows

-- the law: inserting the same rows in another order leaves the same bag of rows, and reports the same count and the
-- same fault
abbrev pub InsertsKeepNoOrder : Type 0
InsertsKeepNoOrder =
    (d : TableDef) (m : ℤ) (rows : List Stamped) (columns : List ℕ) (tuples others : List Row) → SameBag tuples others
    → SameOutcome (insert d m rows columns (Some tuples)) (insert d m rows columns (Some others))
