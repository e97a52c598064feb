use Rattle.std.specs.Prelude.{◌<◌, ◌≤◌, ◌++◌, length}
use Rattle.std.proofs.Common.{arith, ap, rules, length-append, ◌∙◌}
use Rattle.tql_index.specs.Line.{place_of}
use Rattle.tql_index.specs.Tree.{greatest_end, IsInOrder}
use Rattle.tql_tree_index.specs.declared.tree.Branch.{Branch}
use Rattle.tql_index.proofs.Greatest.{first_more}
use Rattle.tql_tree_index.proofs.Tops.{named_top}
use Rattle.tql_tree_index.proofs.Turns.{least_left}
use Rattle.tql_tree_index.proofs.edit.+insert_least.Goals as goal

pub insert_least-requires : goal.insert_least-requires
insert_least-requires g t c =
    let p = named_top _ _ _ c.deref_mut.ensures.value c.in-Some.ensures.some in
    let d = c.deref_mut.result.now in
    let i : IsInOrder (c.args.least.value.run ++ d.left.entries) =
    least_left c.args.least.value.run d.left.entries d.run d.right.entries c.args.tree.now.entries p.entries
    c.requires.in_order in
    let h : d.left.height ≤ 199 = omega (arith, p.branch.height_is, c.requires.room) in
    let l = d.left.entries in
    let r = d.right.entries in
    let s : length l < length c.args.tree.now.entries = omega (
      arith,
      ap length p.entries,
      length-append l (d.run ++ r),
      length-append d.run r,
      p.branch.some,
    ) in
    λ κs o. (
      first_of (
        omega (arith, s, c.decreases),
        first_of (search (rules, s, c.decreases), grind (arith, s, c.decreases)),
      ),
      (first_of (search (rules, o), search rules), (c.requires.some, (i, h))),
    )

pub settle_more-requires-clause-greatest : goal.settle_more-requires-clause-greatest
settle_more-requires-clause-greatest g t c =
    let p = named_top _ _ _ c.deref_mut.ensures.value c.in-Some.ensures.some in
    let d = c.deref_mut.result.now in
    first_more c.args.least.value.run d.left.entries c.insert_least.new.tree.entries (d.run ++ d.right.entries)
    (place_of d.greatest) (place_of c.end-last.result) c.insert_least.ensures.entries p.branch.greatest_is
    (c.end-last.ensures ∙ ap (λ (b : Branch g.row.A.Denot). greatest_end b.run) c.deref.ensures)
