use Rattle.std.proofs.Common.{◌≡◌, drop}
use Rattle.std.specs.Prelude.{◌||◌, ℤ}
use Rattle.tql_keys.specs.Parents.{any_holds, row_holds, any_left}
use Rattle.tql_keys.proofs.references.add_left.Given as goal

-- the periods collected so far, with those of the remaining found rows, hold what is to be collected
abbrev pub invariant-loop-row : goal.invariant-loop-row
invariant-loop-row l = (x : ℤ)
    → any_holds l.periods.items x
    || any_left l.definition l.change.removed.now (row_holds l.definition x) (drop l.row-index l.found)
    ≡ any_holds l.fn.periods.items x || any_left l.definition l.change.removed.now (row_holds l.definition x) l.found
