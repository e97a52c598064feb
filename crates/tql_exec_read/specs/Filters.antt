-- What is asked of the versions of a scan before their rows are handed on.
use Rattle.std.specs.Prelude.{◌≡◌, ℕ, All, List, map, Option}
use Rattle.tql_spec.specs.Datum.{Row}
use Rattle.tql_spec.specs.Definition.{System, Version}
use Rattle.tql_spec.specs.Expression.{Cond}
use Rattle.tql_spec.specs.Query.{keep}
use Rattle.tql_expr.specs.Generated.{generated}
use Rattle.tql_expr.specs.Meaning.{cond, HasCond}
use Rattle.tql_plan_access.specs.Access.{IsRow}
use Rattle.tql_plan_screen.specs.Screens.{admitted}
use Rattle.tql_exec_read.specs.Found.{completed}
use Rattle.tql_exec_read.specs.declared.pushing.Filter.{Filter}

-- its conjuncts exist
abbrev pub HasConjuncts : Filter → Type 0
HasConjuncts f = All (HasCond f.terms.now) f.conjuncts.now

-- the rows of versions that pass its conjuncts
abbrev pub passed : Filter → List Version → Option (List Row)
passed f vs = keep (map (cond f.terms.now) f.conjuncts.now) (map (completed (generated f.system)) vs)

-- the rows of those versions that its screen admits that pass its conjuncts
abbrev pub asked : Filter → List Version → Option (List Row)
asked f vs = passed f (admitted f.screen.now.tests vs)

-- a filter gives the rows that pass these conditions, for versions whose rows are of this kind
abbrev pub IsFilterFor : Option System → Option (ℕ × ℕ) → ℕ → List Cond → Filter → Type 0
IsFilterFor system period width conds f = (vs : List Version) → All (λ v. IsRow period width (completed system v)) vs
    → asked f vs ≡ keep conds (map (completed system) vs)
