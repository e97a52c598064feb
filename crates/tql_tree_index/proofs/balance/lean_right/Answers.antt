use Rattle.tql_tree_index.proofs.Turns.{inner_right, double_outer, double_inner}
use Rattle.tql_tree_index.proofs.balance.lean_right.Goals as goal

pub link-requires-clause-in_order : goal.link-requires-clause-in_order
link-requires-clause-in_order g c =
    let p = c.in-Some.ensures.some in
    let a = c.in-Some.field-0 in
    inner_right a.left.entries a.top.value.run a.right.entries c.args.top.value.run c.args.right.entries
    c.args.left.entries p.entries c.requires.in_order

pub link-requires-2-clause-in_order : goal.link-requires-2-clause-in_order
link-requires-2-clause-in_order g c =
    let p = c.in-Some.ensures.some in
    let q = c.in-Some-unlink.ensures.some in
    let a = c.in-Some.field-0 in
    let b = c.in-Some-unlink.field-0 in
    double_outer a.left.entries a.top.value.run b.left.entries b.top.value.run b.right.entries c.args.top.value.run
    c.args.right.entries c.args.left.entries a.right.entries p.entries q.entries c.requires.in_order

pub link-requires-3-clause-in_order : goal.link-requires-3-clause-in_order
link-requires-3-clause-in_order g c =
    let p = c.in-Some.ensures.some in
    let q = c.in-Some-unlink.ensures.some in
    let a = c.in-Some.field-0 in
    let b = c.in-Some-unlink.field-0 in
    double_inner a.left.entries a.top.value.run b.left.entries b.top.value.run b.right.entries c.args.top.value.run
    c.args.right.entries c.args.left.entries a.right.entries p.entries q.entries c.requires.in_order
