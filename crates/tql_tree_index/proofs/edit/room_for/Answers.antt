use Rattle.std.proofs.Common.{ap}
use Rattle.tql_index.specs.Slots.{entry_of}
use Rattle.tql_index.specs.Tree.{Contents}
use Rattle.tql_tree_index.proofs.Sides.{room_left, room_right, room_first, room_last, room_any}
use Rattle.tql_tree_index.proofs.edit.room_for.Goals as goal

pub returns-in-Less : goal.returns-in-Less
returns-in-Less g c =
    let t = c.args.top.now in
    let e = entry_of c.args.slot in
    room_first e t.left.entries t.run t.right.entries (ap (λ (t : Contents). t.entries) c.if-is_empty.ensures.none)
    (room_left e t.left.entries t.run t.right.entries c.in-Less.ensures c.requires.some c.requires.in_order)

pub returns-in-Greater : goal.returns-in-Greater
returns-in-Greater g c =
    let t = c.args.top.now in
    let e = entry_of c.args.slot in
    room_last e t.left.entries t.run t.right.entries (ap (λ (t : Contents). t.entries) c.if-is_empty-2.ensures.none)
    (room_right e t.left.entries t.run t.right.entries c.in-Greater.ensures c.requires.some c.requires.in_order)

pub returns-in_default : goal.returns-in_default
returns-in_default g c =
    let t = c.args.top.now in
    room_any c.side.result (entry_of c.args.slot) t.left.entries t.run t.right.entries c.side.ensures c.requires.some
    c.requires.in_order

pub returns-in_default-2 : goal.returns-in_default-2
returns-in_default-2 g c =
    let t = c.args.top.now in
    room_any c.side.result (entry_of c.args.slot) t.left.entries t.run t.right.entries c.side.ensures c.requires.some
    c.requires.in_order

pub returns-in_default-3 : goal.returns-in_default-3
returns-in_default-3 g c =
    let t = c.args.top.now in
    room_any c.side.result (entry_of c.args.slot) t.left.entries t.run t.right.entries c.side.ensures c.requires.some
    c.requires.in_order

pub returns-in_default-4 : goal.returns-in_default-4
returns-in_default-4 g c =
    let t = c.args.top.now in
    room_any c.side.result (entry_of c.args.slot) t.left.entries t.run t.right.entries c.side.ensures c.requires.some
    c.requires.in_order

pub returns-in_default-5 : goal.returns-in_default-5
returns-in_default-5 g c =
    let t = c.args.top.now in
    room_any c.side.result (entry_of c.args.slot) t.left.entries t.run t.right.entries c.side.ensures c.requires.some
    c.requires.in_order
