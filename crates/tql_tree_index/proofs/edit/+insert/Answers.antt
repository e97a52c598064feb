use Rattle.std.specs.Prelude.{◌≡◌, ◌++◌}
use Rattle.std.specs.declared.cmp.Ordering.TheVariants.{Less, Greater}
use Rattle.std.proofs.Common.{ap, sym, subst, ◌∙◌}
use Rattle.tql_index.specs.Line.{place_of}
use Rattle.tql_index.specs.Slots.{entry_of}
use Rattle.tql_index.specs.Tree.{HasRoom, IsInOrder}
use Rattle.tql_tree_index.specs.Nodes.{entries_below}
use Rattle.tql_index.specs.declared.line.Place as line
use Rattle.tql_tree_index.specs.declared.tree.Branch.{Branch}
use Rattle.tql_tree_index.proofs.Adding.{IsAdded, order_with_left, order_with_right, with_left, with_right, added_as}
use Rattle.tql_tree_index.proofs.Adding.{greatest_with, on_err}
use Rattle.tql_tree_index.proofs.Tops.{named_top}
use Rattle.tql_tree_index.proofs.edit.+insert.Goals as goal

pub settle_more-requires-clause-in_order : goal.settle_more-requires-clause-in_order
settle_more-requires-clause-in_order g t c =
    let e = entry_of c.args.slot in
    let d = c.deref_mut.result.now in
    let p = named_top _ _ _ c.deref_mut.ensures.value c.in-Some.ensures.some in
    let k = c.insert-answer.new.tree.entries in
    let a : IsAdded c.insert-answer.result e d.left.entries k =
    record { added = c.insert-answer.ensures.added; unchanged = c.insert-answer.ensures.unchanged } in
    let room =
    subst (λ (b : Branch g.row.A.Denot). HasRoom Less e b.left.entries b.run b.right.entries)
    (c.deref.ensures ∙ sym c.deref_mut.ensures.value) c.in-Less.ensures in
    let o =
    subst (λ (b : Branch g.row.A.Denot). IsInOrder b.left.entries) c.deref-in-Less.ensures c.know.ensures.in_order in
    order_with_left c.insert-answer.result e d.left.entries d.run d.right.entries k room a o p.branch.in_order

pub settle_more-requires-clause-greatest : goal.settle_more-requires-clause-greatest
settle_more-requires-clause-greatest g t c =
    let e = entry_of c.args.slot in
    let d = c.deref_mut.result.now in
    let p = named_top _ _ _ c.deref_mut.ensures.value c.in-Some.ensures.some in
    let k = c.insert-answer.new.tree.entries in
    let a : IsAdded c.insert-answer.result e d.left.entries k =
    record { added = c.insert-answer.ensures.added; unchanged = c.insert-answer.ensures.unchanged } in
    greatest_with c.insert-answer.result c.is_ok.result e
    (d.left.entries ++ (d.run ++ d.right.entries)) (k ++ (d.run ++ d.right.entries)) (place_of d.greatest)
    (place_of c.end.result) c.is_ok.ensures.value
    (with_left c.insert-answer.result e d.left.entries d.run d.right.entries k a) p.branch.greatest_is
    c.end.ensures

pub returns-in-Less-clause-added : goal.returns-in-Less-clause-added
returns-in-Less-clause-added g t c =
    let e = entry_of c.args.slot in
    let d = c.deref_mut.result.now in
    let p = named_top _ _ _ c.deref_mut.ensures.value c.in-Some.ensures.some in
    let k = c.insert-answer.new.tree.entries in
    let a : IsAdded c.insert-answer.result e d.left.entries k =
    record { added = c.insert-answer.ensures.added; unchanged = c.insert-answer.ensures.unchanged } in
    let whole = added_as c.insert-answer.result e c.args.tree.now.entries c.settle_more.result.entries
    (d.left.entries ++ (d.run ++ d.right.entries)) (k ++ (d.run ++ d.right.entries)) p.entries
    c.settle_more.ensures.entries
    (with_left c.insert-answer.result e d.left.entries d.run d.right.entries k a) in
    whole.added

pub settle_more-requires-in-Greater-clause-in_order : goal.settle_more-requires-in-Greater-clause-in_order
settle_more-requires-in-Greater-clause-in_order g t c =
    let e = entry_of c.args.slot in
    let d = c.deref_mut-in-Greater.result.now in
    let p = named_top _ _ _ c.deref_mut-in-Greater.ensures.value c.in-Some.ensures.some in
    let k = c.insert-answer-in-Greater.new.tree.entries in
    let a : IsAdded c.insert-answer-in-Greater.result e d.right.entries k =
    record {
      added = c.insert-answer-in-Greater.ensures.added;
      unchanged =
          c.insert-answer-in-Greater.ensures.unchanged;
    } in
    let room =
    subst (λ (b : Branch g.row.A.Denot). HasRoom Greater e b.left.entries b.run b.right.entries)
    (c.deref.ensures ∙ sym c.deref_mut-in-Greater.ensures.value) c.in-Greater.ensures in
    let o =
    subst (λ (b : Branch g.row.A.Denot). IsInOrder b.right.entries) c.deref-in-Greater.ensures
    c.know-in-Greater.ensures.in_order in
    order_with_right c.insert-answer-in-Greater.result e d.left.entries d.run d.right.entries k room a o
    p.branch.in_order

pub settle_more-requires-in-Greater-clause-greatest : goal.settle_more-requires-in-Greater-clause-greatest
settle_more-requires-in-Greater-clause-greatest g t c =
    let e = entry_of c.args.slot in
    let d = c.deref_mut-in-Greater.result.now in
    let p = named_top _ _ _ c.deref_mut-in-Greater.ensures.value c.in-Some.ensures.some in
    let k = c.insert-answer-in-Greater.new.tree.entries in
    let a : IsAdded c.insert-answer-in-Greater.result e d.right.entries k =
    record {
      added = c.insert-answer-in-Greater.ensures.added;
      unchanged =
          c.insert-answer-in-Greater.ensures.unchanged;
    } in
    greatest_with c.insert-answer-in-Greater.result c.is_ok-in-Greater.result e
    (d.left.entries ++ (d.run ++ d.right.entries)) (d.left.entries ++ (d.run ++ k)) (place_of d.greatest)
    (place_of c.end-in-Greater.result) c.is_ok-in-Greater.ensures.value
    (with_right c.insert-answer-in-Greater.result e d.left.entries d.run d.right.entries k a) p.branch.greatest_is
    c.end-in-Greater.ensures

pub returns-in-Greater-clause-added : goal.returns-in-Greater-clause-added
returns-in-Greater-clause-added g t c =
    let e = entry_of c.args.slot in
    let d = c.deref_mut-in-Greater.result.now in
    let p = named_top _ _ _ c.deref_mut-in-Greater.ensures.value c.in-Some.ensures.some in
    let k = c.insert-answer-in-Greater.new.tree.entries in
    let a : IsAdded c.insert-answer-in-Greater.result e d.right.entries k =
    record {
      added = c.insert-answer-in-Greater.ensures.added;
      unchanged =
          c.insert-answer-in-Greater.ensures.unchanged;
    } in
    let whole = added_as c.insert-answer-in-Greater.result e c.args.tree.now.entries
    c.settle_more-in-Greater.result.entries
    (d.left.entries ++ (d.run ++ d.right.entries)) (d.left.entries ++ (d.run ++ k)) p.entries
    c.settle_more-in-Greater.ensures.entries
    (with_right c.insert-answer-in-Greater.result e d.left.entries d.run d.right.entries k a) in
    whole.added

pub settle_more-requires-in-Equal-clause-greatest : goal.settle_more-requires-in-Equal-clause-greatest
settle_more-requires-in-Equal-clause-greatest g t c =
    let e = entry_of c.args.slot in
    let d = c.deref_mut-in-Equal.result.now in
    let n = c.put-answer.new.top in
    let p = named_top _ _ _ c.deref_mut-in-Equal.ensures.value c.in-Some.ensures.some in
    let a : IsAdded c.put-answer.result e (entries_below d) (entries_below n) = record {
      added = c.put-answer.ensures.added;
      unchanged = on_err c.put-answer.result (λ (q : n ≡ d). ap (λ (b : Branch g.row.A.Denot). entries_below b) q)
          c.put-answer.ensures.unchanged;
    } in
    greatest_with c.put-answer.result c.is_ok-in-Equal.result e (entries_below d) (entries_below n)
    (place_of n.greatest) (place_of c.end-in-Equal.result) c.is_ok-in-Equal.ensures.value a
    (ap (λ (z : line.Place). place_of z) c.put-answer.ensures.greatest ∙ p.branch.greatest_is) c.end-in-Equal.ensures
