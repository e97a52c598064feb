use Rattle.std.proofs.Common.{◌≡◌, drop}
use Rattle.std.specs.List.{find}
use Rattle.tql_expr.specs.Meaning.{cond}
use Rattle.tql_plan_access.specs.Choices.{chooses, singles}
use Rattle.tql_plan_access.proofs.choices.choice_of.Given as goal

-- the first chosen column of the remaining columns is the first of all columns
abbrev pub invariant-loop-column : goal.invariant-loop-column
invariant-loop-column l =
    find (chooses (cond l.terms l.c)) (singles (drop l.column-index l.column-items))
    ≡ find (chooses (cond l.terms l.c)) (singles l.singles.columns.items)
