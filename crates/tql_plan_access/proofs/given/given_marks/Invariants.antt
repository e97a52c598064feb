use Rattle.std.proofs.Common.{◌≡◌, map}
use Rattle.tql_expr.specs.Meaning.{cond}
use Rattle.tql_plan_access.specs.Access.{given_marks}
use Rattle.tql_plan_access.proofs.given.given_marks.Given as goal

abbrev pub invariant-loop-column : goal.invariant-loop-column
invariant-loop-column l = l.marks.items ≡ given_marks (map (cond l.terms) l.conjuncts) l.column
