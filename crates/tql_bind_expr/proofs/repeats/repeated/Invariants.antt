use Rattle.std.proofs.Common.{◌≡◌, length, map}
use Rattle.tql_spec.specs.Creation.{repeats}
use Rattle.tql_bind_expr.proofs.repeats.repeated.Given as goal

-- a name is repeated in the remaining items exactly if one is repeated in all
abbrev pub invariant-loop-left : goal.invariant-loop-left
invariant-loop-left g l =
    repeats (map g.T.HasName.named l.fn.items) ≡ repeats (map g.T.HasName.named l.left)

abbrev pub decreases-loop-left : goal.decreases-loop-left
decreases-loop-left g l = length l.left
