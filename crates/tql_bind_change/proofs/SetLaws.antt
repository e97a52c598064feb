-- The assignments of SET among growing terms.
use Rattle.std.proofs.Common.{ap}
use Rattle.tql_spec.specs.Change as change
use Rattle.tql_spec.specs.Expression.{Expr}
use Rattle.tql_bound.specs.Works.{assignment_of}
use Rattle.tql_bind_expr.proofs.Arena.{expr_there, expr_kept}
use Rattle.tql_bind_change.specs.Cells.{HasAssigned}
use Rattle.tql_bind_change.proofs.Growing.{IsKept}

-- assignments stay in the arena
pub assignment_is_kept : IsKept assignment_of HasAssigned
assignment_is_kept = record {
  same = λ s a h. ap (λ (e : Expr). let x : change.Assignment = record {
    column = a.column;
    value = e;
  } in x) (expr_kept s a.value h);
  there = λ s a h. expr_there s a.value h;
}
