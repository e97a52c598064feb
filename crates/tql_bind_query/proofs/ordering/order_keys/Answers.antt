use Rattle.std.proofs.Common.{rules, ◌<◌, ◌≤◌, length, map}
use Rattle.std.specs.Prelude.{string_bytes}
use Rattle.tql_spec.specs.Binding.{order_key}
use Rattle.tql_bound.specs.Queries as bound
use Rattle.tql_syntax_tree.specs.Statements.{order_of}
use Rattle.tql_bind_expr.proofs.Gathering.{each_done}
use Rattle.tql_bind_query.proofs.Sequences.{copied_item}
use Rattle.tql_bind_query.proofs.ordering.order_keys.Goals as goal

pub loop-index-preserved : goal.loop-index-preserved
loop-index-preserved c =
    let within : c.loop-index.index < length c.args.keys.now = search rules in
    copied_item (order_key (map string_bytes c.args.headings.now)) order_of bound.order_of _ c.args.faults.now
    c.loop-index.faults c.order_key.new.faults c.args.keys.now c.loop-index.index _
    c.loop-index.bound.items c.push.new.self.items c.in_ok-key.key within c.in_ok-push.ensures.items
    c.loop-index.invariant c.in_ok-key.ensures

pub returns : goal.returns
returns c =
    let past : length c.args.keys.now ≤ c.loop-index.index = search rules in
    each_done (order_key (map string_bytes c.args.headings.now)) order_of bound.order_of _ c.args.faults.now
    c.loop-index.faults c.args.keys.now c.loop-index.index c.loop-index.bound.items past c.loop-index.invariant
