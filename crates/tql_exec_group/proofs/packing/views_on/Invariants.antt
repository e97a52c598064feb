use Rattle.std.proofs.Common.{◌≡◌, drop, map}
use Rattle.tql_spec.specs.Expression.{eval}
use Rattle.tql_spec.specs.Words.{map_all}
use Rattle.tql_expr.specs.Evaluated.{behind}
use Rattle.tql_expr.specs.Meaning.{expr}
use Rattle.tql_exec_numbered.specs.Numbered.{seen}
use Rattle.tql_exec_group.proofs.packing.views_on.Given as goal

-- the values so far, followed by those of the remaining items, are the values of all
abbrev pub invariant-loop-item : goal.invariant-loop-item
invariant-loop-item g l =
    let value = eval (g.C.Columns.group l.scope) (g.C.Columns.values l.scope) in
    behind (seen l.views.items) (map_all value (map (expr l.terms) (drop l.item-index l.items))) ≡ map_all value
    (map (expr l.terms) l.items)
