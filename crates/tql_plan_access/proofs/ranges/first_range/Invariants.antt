use Rattle.std.proofs.Common.{◌≡◌, drop, map}
use Rattle.std.specs.List.{find}
use Rattle.tql_expr.specs.Meaning.{cond}
use Rattle.tql_plan_access.specs.Choices.{is_single_of, singles}
use Rattle.tql_plan_access.specs.Ranges.{is_ranged}
use Rattle.tql_plan_access.proofs.ranges.first_range.Given as goal

-- the first limited column of the remaining columns is the first of all columns
abbrev pub invariant-loop-column : goal.invariant-loop-column
invariant-loop-column l =
    find (is_single_of (is_ranged l.is_current (map (cond l.terms) l.conjuncts)))
    (singles (drop l.column-index l.column-items))
    ≡ find (is_single_of (is_ranged l.is_current (map (cond l.terms) l.conjuncts))) (singles l.singles.columns.items)
