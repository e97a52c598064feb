use Rattle.std.specs.Prelude.{◌≡◌, ◌+◌, ◌*◌, ◌^◌, ◌≤◌, [], ◌++◌, length}
use Rattle.std.proofs.Common.{arith, sym, subst, ◌∙◌}
use Rattle.tql_tree_index.specs.declared.tree.Branch.{Branch}
use Rattle.tql_index.proofs.Inversions.{order_right}
use Rattle.tql_tree_index.proofs.Tops.{named_top}
use Rattle.tql_tree_index.proofs.Turns.{last_order, no_entries, one_run}
use Rattle.tql_tree_index.proofs.edit.refill.Goals as goal

pub move_first-requires-clause-in_order : goal.move_first-requires-clause-in_order
move_first-requires-clause-in_order g c =
    let t = c.args.top.now in
    order_right t.left.entries (t.run ++ t.right.entries) c.requires.in_order

pub join-requires : goal.join-requires
join-requires g c =
    let t = c.args.top.now in
    let d = c.deref_mut.result.now in
    let p = named_top _ _ _ c.deref_mut.ensures.value c.in-Some.ensures.some in
    let l = subst (λ (b : Branch g.row.A.Denot). length b.left.entries + 32 ≤ 32 * 2 ^ b.left.height)
    (c.deref.ensures ∙ sym c.deref_mut.ensures.value) c.know.ensures.deep in
    let r = subst (λ (b : Branch g.row.A.Denot). length b.right.entries + 32 ≤ 32 * 2 ^ b.right.height)
    (c.deref-2.ensures ∙ sym c.deref_mut.ensures.value) c.know-2.ensures.deep in
    let none_left : d.left.entries ≡ [] = no_entries d.left.entries d.left.height l
    (omega (arith, p.branch.height_is, c.height.ensures.height, c.if-height-ne1.false)) in
    let none_right : d.right.entries ≡ [] = no_entries d.right.entries d.right.height r
    (omega (arith, p.branch.height_is, c.height.ensures.height, c.if-height-ne1.false)) in
    last_order t.left.entries d.run t.run t.right.entries
    (one_run d.left.entries d.run d.right.entries t.left.entries none_left none_right p.entries) c.requires.in_order
