use Rattle.std.proofs.Common.{◌≡◌, ◌++◌, drop, map}
use Rattle.tql_bind_change.proofs.tuples.values.Given as goal

-- the expressions so far and those of the remaining cells
abbrev pub invariant-loop-cell : goal.invariant-loop-cell
invariant-loop-cell l =
    l.values.items ++ map (λ cell. cell.expr) (drop l.cell-index l.cells) ≡ map (λ cell. cell.expr) l.cells
