use Rattle.std.specs.Prelude.{◌≡◌, ◌<◌, ◌≤◌, ◌++◌, length}
use Rattle.std.proofs.Common.{arith, ap, sym, subst, rules, length-append, ◌∙◌}
use Rattle.tql_index.specs.Tree.{Contents, IsInOrder}
use Rattle.tql_tree_index.specs.Nodes.{entries_below}
use Rattle.tql_tree_index.specs.declared.tree.Branch.{Branch}
use Rattle.tql_tree_index.proofs.Tops.{named_top}
use Rattle.tql_tree_index.proofs.Turns.{first_order, least_left, moved_order}
use Rattle.tql_tree_index.proofs.edit.+move_first.Goals as goal

pub join-requires : goal.join-requires
join-requires g t c =
    let p = named_top _ _ _ c.deref_mut.ensures.value c.in-Some.ensures.some in
    let d = c.deref_mut.result.now in
    let none =
    ap (λ (b : Branch g.row.A.Denot). b.left.entries) (c.deref_mut.ensures.value ∙ sym c.deref.ensures)
    ∙ ap (λ (l : Contents). l.entries) c.if-is_empty.ensures.none in
    first_order c.args.run.now d.left.entries d.run d.right.entries c.args.tree.now.entries none p.entries
    c.requires.in_order

pub move_first-requires : goal.move_first-requires
move_first-requires g t c =
    let p = named_top _ _ _ c.deref_mut-2.ensures.value c.in-Some.ensures.some in
    let d = c.deref_mut-2.result.now in
    let i : IsInOrder (c.args.run.now ++ d.left.entries) =
    least_left c.args.run.now d.left.entries d.run d.right.entries c.args.tree.now.entries p.entries
    c.requires.in_order in
    let h : d.left.height ≤ 199 = omega (arith, p.branch.height_is, c.requires.room) in
    let l = d.left.entries in
    let r = d.right.entries in
    let s : length l < length c.args.tree.now.entries = omega (
      arith,
      ap length p.entries,
      length-append l (d.run ++ r),
      length-append d.run r,
      p.branch.some,
    ) in
    λ κs o. (
      first_of (
        omega (arith, s, c.decreases),
        first_of (search (rules, s, c.decreases), grind (arith, s, c.decreases)),
      ),
      (first_of (search (rules, o), search rules), (i, h)),
    )

pub settle-requires-2-clause-in_order : goal.settle-requires-2-clause-in_order
settle-requires-2-clause-in_order g t c =
    let p = named_top _ _ _ c.deref_mut-2.ensures.value c.in-Some.ensures.some in
    let d = c.deref_mut-2.result.now in
    subst (λ (b : Branch g.row.A.Denot). IsInOrder (entries_below b)) (sym c.deref_mut-3.ensures.value)
    (moved_order c.args.run.now c.move_first.new.run d.left.entries c.move_first.new.tree.entries
    (d.run ++ d.right.entries) c.args.tree.now.entries c.move_first.ensures.entries p.entries c.requires.in_order)

pub returns-clause-none : goal.returns-clause-none
returns-clause-none g t c =
    let none : c.deref_mut-2.result.now.left ≡ c.deref.result.now.left =
    ap (λ (b : Branch g.row.A.Denot). b.left) (c.deref_mut-2.ensures.value ∙ sym c.deref.ensures) in
    λ e. absurd (omega (
      arith,
      ap (λ (l : Contents). l.height) (sym none ∙ c.move_first.ensures.none e),
      c.if-is_empty.ensures.some,
    ))
