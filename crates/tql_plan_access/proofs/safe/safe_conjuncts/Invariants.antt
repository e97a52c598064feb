use Rattle.std.proofs.Common.{◌≡◌, ◌++◌, drop, map, take}
use Rattle.tql_expr.specs.Meaning.{cond}
use Rattle.tql_plan_access.specs.Access.{safe_part}
use Rattle.tql_plan_access.proofs.safe.safe_conjuncts.Given as goal

-- the conjuncts before the index, followed by the safe part of the rest, are the safe part of all
abbrev pub invariant-loop-place : goal.invariant-loop-place
invariant-loop-place l =
    map (cond l.terms) (take l.place l.conjuncts) ++ safe_part (map (cond l.terms) (drop l.place l.conjuncts))
    ≡ safe_part (map (cond l.terms) l.conjuncts)
