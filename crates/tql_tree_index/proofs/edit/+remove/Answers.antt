use Rattle.std.specs.Prelude.{◌++◌}
use Rattle.std.specs.declared.cmp.Ordering.TheVariants.{Less, Equal, Greater}
use Rattle.std.proofs.Common.{sym, subst, ◌∙◌}
use Rattle.tql_index.specs.Line.{place_of}
use Rattle.tql_index.specs.Slots.{entry_of}
use Rattle.tql_index.specs.Tree.{IsSide, IsInOrder}
use Rattle.tql_tree_index.specs.declared.tree.Branch.{Branch}
use Rattle.tql_index.proofs.Greatest.{greatest_before}
use Rattle.tql_tree_index.proofs.Sides.{less_left_order, less_within_order, less_right_order}
use Rattle.tql_tree_index.proofs.Sides.{less_left, less_within, less_right, removes_as}
use Rattle.tql_tree_index.proofs.Tops.{named_top}
use Rattle.tql_tree_index.proofs.edit.+remove.Goals as goal

pub settle_less-requires-clause-in_order : goal.settle_less-requires-clause-in_order
settle_less-requires-clause-in_order g t c =
    let e = entry_of c.args.slot in
    let d = c.deref_mut.result.now in
    let p = named_top _ _ _ c.deref_mut.ensures.value c.in-Some.ensures.some in
    let k = c.remove-found.new.tree.entries in
    let o = subst (λ (b : Branch g.row.A.Denot). IsInOrder b.left.entries) c.deref-in-Less.ensures
    c.know.ensures.in_order in
    less_left_order c.remove-found.result e d.left.entries d.run d.right.entries k c.remove-found.ensures.entries o
    p.branch.in_order

pub settle_less-requires-clause-greatest : goal.settle_less-requires-clause-greatest
settle_less-requires-clause-greatest g t c =
    let e = entry_of c.args.slot in
    let d = c.deref_mut.result.now in
    let p = named_top _ _ _ c.deref_mut.ensures.value c.in-Some.ensures.some in
    let k = c.remove-found.new.tree.entries in
    let side =
    subst (λ (b : Branch g.row.A.Denot). IsSide Less e b.run) (c.deref.ensures ∙ sym c.deref_mut.ensures.value)
    c.in-Less.ensures in
    let less = less_left c.remove-found.result e d.left.entries d.run d.right.entries k side p.branch.some
    p.branch.in_order c.remove-found.ensures.entries in
    greatest_before c.remove-found.result e (d.left.entries ++ (d.run ++ d.right.entries))
    (k ++ (d.run ++ d.right.entries))
    (place_of d.greatest) (place_of c.end.result) less p.branch.greatest_is c.end.ensures

pub returns-in-Less-clause-entries : goal.returns-in-Less-clause-entries
returns-in-Less-clause-entries g t c =
    let e = entry_of c.args.slot in
    let d = c.deref_mut.result.now in
    let p = named_top _ _ _ c.deref_mut.ensures.value c.in-Some.ensures.some in
    let k = c.remove-found.new.tree.entries in
    let side =
    subst (λ (b : Branch g.row.A.Denot). IsSide Less e b.run) (c.deref.ensures ∙ sym c.deref_mut.ensures.value)
    c.in-Less.ensures in
    let less = less_left c.remove-found.result e d.left.entries d.run d.right.entries k side p.branch.some
    p.branch.in_order c.remove-found.ensures.entries in
    removes_as c.remove-found.result e c.args.tree.now.entries c.settle_less.result.entries
    (d.left.entries ++ (d.run ++ d.right.entries)) (k ++ (d.run ++ d.right.entries)) p.entries
    c.settle_less.ensures.entries less

pub settle_run-requires-clause-in_order : goal.settle_run-requires-clause-in_order
settle_run-requires-clause-in_order g t c =
    let e = entry_of c.args.slot in
    let d = c.deref_mut-in-Equal.result.now in
    let p = named_top _ _ _ c.deref_mut-in-Equal.ensures.value c.in-Some.ensures.some in
    let k = c.remove-found-in-Equal.new.self in
    let o = subst (λ (b : Branch g.row.A.Denot). IsInOrder b.run) c.deref-in-Equal.ensures
    c.know-in-Equal.ensures.in_order in
    less_within_order c.remove-found-in-Equal.result e d.left.entries d.run d.right.entries k
    c.remove-found-in-Equal.ensures o p.branch.in_order

pub settle_run-requires-clause-greatest : goal.settle_run-requires-clause-greatest
settle_run-requires-clause-greatest g t c =
    let e = entry_of c.args.slot in
    let d = c.deref_mut-in-Equal.result.now in
    let p = named_top _ _ _ c.deref_mut-in-Equal.ensures.value c.in-Some.ensures.some in
    let k = c.remove-found-in-Equal.new.self in
    let side =
    subst (λ (b : Branch g.row.A.Denot). IsSide Equal e b.run)
    (c.deref.ensures ∙ sym c.deref_mut-in-Equal.ensures.value) c.in-Equal.ensures in
    let less = less_within c.remove-found-in-Equal.result e d.left.entries d.run d.right.entries k side
    p.branch.in_order c.remove-found-in-Equal.ensures in
    greatest_before c.remove-found-in-Equal.result e (d.left.entries ++ (d.run ++ d.right.entries))
    (d.left.entries ++ (k ++ d.right.entries))
    (place_of d.greatest) (place_of c.end-in-Equal.result) less p.branch.greatest_is c.end-in-Equal.ensures

pub returns-in-Equal-clause-entries : goal.returns-in-Equal-clause-entries
returns-in-Equal-clause-entries g t c =
    let e = entry_of c.args.slot in
    let d = c.deref_mut-in-Equal.result.now in
    let p = named_top _ _ _ c.deref_mut-in-Equal.ensures.value c.in-Some.ensures.some in
    let k = c.remove-found-in-Equal.new.self in
    let side =
    subst (λ (b : Branch g.row.A.Denot). IsSide Equal e b.run)
    (c.deref.ensures ∙ sym c.deref_mut-in-Equal.ensures.value) c.in-Equal.ensures in
    let less = less_within c.remove-found-in-Equal.result e d.left.entries d.run d.right.entries k side
    p.branch.in_order c.remove-found-in-Equal.ensures in
    removes_as c.remove-found-in-Equal.result e c.args.tree.now.entries c.settle_run.result.entries
    (d.left.entries ++ (d.run ++ d.right.entries)) (d.left.entries ++ (k ++ d.right.entries)) p.entries
    c.settle_run.ensures.entries less

pub settle_less-requires-in-Greater-clause-in_order : goal.settle_less-requires-in-Greater-clause-in_order
settle_less-requires-in-Greater-clause-in_order g t c =
    let e = entry_of c.args.slot in
    let d = c.deref_mut-in-Greater.result.now in
    let p = named_top _ _ _ c.deref_mut-in-Greater.ensures.value c.in-Some.ensures.some in
    let k = c.remove-found-in-Greater.new.tree.entries in
    let o = subst (λ (b : Branch g.row.A.Denot). IsInOrder b.right.entries) c.deref-in-Greater.ensures
    c.know-in-Greater.ensures.in_order in
    less_right_order c.remove-found-in-Greater.result e d.left.entries d.run d.right.entries k
    c.remove-found-in-Greater.ensures.entries o p.branch.in_order

pub settle_less-requires-in-Greater-clause-greatest : goal.settle_less-requires-in-Greater-clause-greatest
settle_less-requires-in-Greater-clause-greatest g t c =
    let e = entry_of c.args.slot in
    let d = c.deref_mut-in-Greater.result.now in
    let p = named_top _ _ _ c.deref_mut-in-Greater.ensures.value c.in-Some.ensures.some in
    let k = c.remove-found-in-Greater.new.tree.entries in
    let side =
    subst (λ (b : Branch g.row.A.Denot). IsSide Greater e b.run)
    (c.deref.ensures ∙ sym c.deref_mut-in-Greater.ensures.value) c.in-Greater.ensures in
    let less = less_right c.remove-found-in-Greater.result e d.left.entries d.run d.right.entries k side
    p.branch.some p.branch.in_order c.remove-found-in-Greater.ensures.entries in
    greatest_before c.remove-found-in-Greater.result e (d.left.entries ++ (d.run ++ d.right.entries))
    (d.left.entries ++ (d.run ++ k))
    (place_of d.greatest) (place_of c.end-in-Greater.result) less p.branch.greatest_is c.end-in-Greater.ensures

pub returns-in-Greater-clause-entries : goal.returns-in-Greater-clause-entries
returns-in-Greater-clause-entries g t c =
    let e = entry_of c.args.slot in
    let d = c.deref_mut-in-Greater.result.now in
    let p = named_top _ _ _ c.deref_mut-in-Greater.ensures.value c.in-Some.ensures.some in
    let k = c.remove-found-in-Greater.new.tree.entries in
    let side =
    subst (λ (b : Branch g.row.A.Denot). IsSide Greater e b.run)
    (c.deref.ensures ∙ sym c.deref_mut-in-Greater.ensures.value) c.in-Greater.ensures in
    let less = less_right c.remove-found-in-Greater.result e d.left.entries d.run d.right.entries k side
    p.branch.some p.branch.in_order c.remove-found-in-Greater.ensures.entries in
    removes_as c.remove-found-in-Greater.result e c.args.tree.now.entries c.settle_less-in-Greater.result.entries
    (d.left.entries ++ (d.run ++ d.right.entries)) (d.left.entries ++ (d.run ++ k)) p.entries
    c.settle_less-in-Greater.ensures.entries less
