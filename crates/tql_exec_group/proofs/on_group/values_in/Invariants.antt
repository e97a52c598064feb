use Rattle.std.proofs.Common.{◌≡◌, drop, map}
use Rattle.tql_spec.specs.Words.{map_all}
use Rattle.tql_expr.specs.Evaluated.{behind}
use Rattle.tql_expr.specs.declared.terms.ExprId.{ExprId}
use Rattle.tql_value.specs.Views.{row_of}
use Rattle.tql_exec_group.specs.Steps.{value_in}
use Rattle.tql_exec_group.proofs.on_group.values_in.Given as goal

-- invariant: the values so far, followed by those of the remaining items, are the values of all
abbrev pub invariant-loop-item : goal.invariant-loop-item
invariant-loop-item l =
    let value = value_in l.results.from l.results.found.now in
    behind (row_of l.values.items) (map_all value (map (λ (x : ExprId). x.place) (drop l.item-index l.items)))
    ≡ map_all value (map (λ (x : ExprId). x.place) l.items)
