use Rattle.std.proofs.Common.{map}
use Rattle.tql_spec.specs.Syntax.{TheseItems}
use Rattle.tql_syntax_tree.specs.Statements.{item_of}
use Rattle.tql_bind_expr.specs.Scopes.{scope_of}
use Rattle.tql_bind_query.specs.Shown.{shown}
use Rattle.tql_bind_query.proofs.ShownLaws.{items_begun, items_next, items_item, items_done}
use Rattle.tql_bind_query.proofs.outputs.these.Goals as goal

pub loop-item-init : goal.loop-item-init
loop-item-init c =
    let scope = scope_of c.args.scope.now in
    let first = item_of c.args.first.now in
    let more = map item_of c.args.more.now in
    items_next scope (shown scope (TheseItems first more)) c.args.terms.now c.args.faults.now c.args.terms.now
    c.push_item.new.terms c.none-outputs.result c.push_item.new.outputs first more
    c.args.faults.now c.push_item.new.faults
    (items_begun scope first more c.args.terms.now c.args.faults.now c.none-outputs.result
    c.none-outputs.ensures.items c.none-outputs.ensures.headings c.none-outputs.ensures.kinds)
    c.push_item.ensures.stays c.in_ok-push_item.ensures.pushes

pub loop-item-preserved : goal.loop-item-preserved
loop-item-preserved c =
    let scope = scope_of c.args.scope.now in
    items_item item_of scope (shown scope (TheseItems (item_of c.args.first.now) (map item_of c.args.more.now)))
    c.args.terms.now c.args.faults.now c.loop-item.terms c.push_item-in-loop-item.new.terms
    c.args.more.now c.loop-item.item-index c.item-item.result c.loop-item.outputs
    c.push_item-in-loop-item.new.outputs c.loop-item.faults c.push_item-in-loop-item.new.faults
    c.loop-item-test.true c.item-item.is c.loop-item.invariant c.push_item-in-loop-item.ensures.stays
    c.in_ok-push_item-2.ensures.pushes

pub returns-clause-bound : goal.returns-clause-bound
returns-clause-bound c =
    let scope = scope_of c.args.scope.now in
    items_done item_of scope (shown scope (TheseItems (item_of c.args.first.now) (map item_of c.args.more.now)))
    c.args.terms.now c.args.faults.now c.loop-item.terms
    c.args.more.now c.loop-item.item-index c.loop-item.outputs c.loop-item.faults c.loop-item-test.false
    c.loop-item.invariant
