use Rattle.std.proofs.Common.{rules, ◌<◌, ◌≤◌, length}
use Rattle.tql_spec.specs.Binding.{group_column}
use Rattle.tql_syntax_tree.specs.Expressions.{named_of}
use Rattle.tql_bind_expr.specs.Scopes.{scope_of}
use Rattle.tql_bind_query.proofs.Sequences.{plain_item, plain_done}
use Rattle.tql_bind_query.proofs.grouping.group_columns.Goals as goal

pub loop-index-preserved : goal.loop-index-preserved
loop-index-preserved c =
    let within : c.loop-index.index < length c.args.written.now = search rules in
    plain_item (group_column (scope_of c.args.scope.now)) named_of _ c.args.faults.now c.loop-index.faults
    c.group_column.new.faults c.args.written.now c.loop-index.index _
    c.loop-index.numbers.items c.push.new.self.items c.in_ok-number.number within c.in_ok-push.ensures.items
    c.loop-index.invariant c.in_ok-number.ensures

pub returns : goal.returns
returns c =
    let past : length c.args.written.now ≤ c.loop-index.index = search rules in
    plain_done (group_column (scope_of c.args.scope.now)) named_of _ c.args.faults.now c.loop-index.faults
    c.args.written.now c.loop-index.index c.loop-index.numbers.items past c.loop-index.invariant
