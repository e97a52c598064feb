use Rattle.std.specs.Prelude.{◌++◌, List}
use Rattle.std.proofs.Common.{sym, subst}
use Rattle.tql_index.specs.Entry.{Entry}
use Rattle.tql_index.specs.Slots.{entry_of}
use Rattle.tql_index.specs.Tree.{IsInOrder}
use Rattle.tql_tree_index.proofs.Adding.{some_with, order_within, halved_rest, halved_order}
use Rattle.tql_tree_index.proofs.edit.put.Goals as goal

pub returns-then-len-lt-FULL-clause-some : goal.returns-then-len-lt-FULL-clause-some
returns-then-len-lt-FULL-clause-some g c =
    some_with c.put-answer.result (entry_of c.args.slot) c.args.top.now.run c.put-answer.new.self
    (record { added = c.put-answer.ensures.added; unchanged = c.put-answer.ensures.unchanged }) c.requires.some

pub returns-then-len-lt-FULL-clause-in_order : goal.returns-then-len-lt-FULL-clause-in_order
returns-then-len-lt-FULL-clause-in_order g c =
    let t = c.args.top.now in
    order_within c.put-answer.result (entry_of c.args.slot) t.left.entries t.run t.right.entries c.put-answer.new.self
    c.requires.place (record { added = c.put-answer.ensures.added; unchanged = c.put-answer.ensures.unchanged })
    c.know.ensures.in_order c.requires.in_order

pub insert_least-requires-clause-in_order : goal.insert_least-requires-clause-in_order
insert_least-requires-clause-in_order g c =
    let t = c.args.top.now in
    halved_rest (entry_of c.args.slot) t.left.entries t.run t.right.entries c.put_halved.new.self
    c.put_halved.new.upper c.requires.place c.in_ok-put_halved.ensures.added c.in_ok-put_halved.ensures.in_order
    c.requires.in_order

pub returns-clause-in_order : goal.returns-clause-in_order
returns-clause-in_order g c =
    let t = c.args.top.now in
    subst (λ (z : List Entry). IsInOrder (t.left.entries ++ (c.put_halved.new.self ++ z)))
    (sym c.insert_least.ensures.entries)
    (halved_order (entry_of c.args.slot) t.left.entries t.run t.right.entries c.put_halved.new.self
    c.put_halved.new.upper c.requires.place c.in_ok-put_halved.ensures.added c.in_ok-put_halved.ensures.in_order
    c.requires.in_order)
