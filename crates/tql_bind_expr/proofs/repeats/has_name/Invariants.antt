use Rattle.std.proofs.Common.{◌≡◌, drop, map}
use Rattle.tql_spec.specs.Creation.{has_name}
use Rattle.tql_bind_expr.proofs.repeats.has_name.Given as goal

-- the result depends on the remaining items
abbrev pub invariant-loop-item : goal.invariant-loop-item
invariant-loop-item g l =
    has_name l.name (map g.T.HasName.named (drop l.item-index l.items)) ≡ has_name l.name
    (map g.T.HasName.named l.items)
