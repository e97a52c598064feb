use Rattle.std.proofs.Common.{◌≡◌, drop, length, map, take}
use Rattle.tql_spec.specs.Expression.{eval}
use Rattle.tql_spec.specs.Words.{map_all}
use Rattle.tql_expr.specs.Evaluated.{behind}
use Rattle.tql_expr.specs.Meaning.{expr}
use Rattle.tql_exec_numbered.specs.Numbered.{seen}
use Rattle.tql_exec_group.proofs.distinct.put_few.Given as goal

-- the values so far, followed by those of the remaining items, are the values of all
abbrev pub invariant-loop-place : goal.invariant-loop-place
invariant-loop-place g l =
    let value = eval (g.C.Columns.group l.scope) (g.C.Columns.values l.scope) in
    (behind (seen (take l.place l.views)) (map_all value (map (expr l.terms) (drop l.place l.items))) ≡ map_all value
    (map (expr l.terms) l.items))
    × (length l.views ≡ 4)
