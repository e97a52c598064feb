use Rattle.std.proofs.Common.{[], ◌∷◌, ◌++◌, List, ap, ◌∙◌, map}
use Rattle.tql_spec.specs.Binding.{tuple}
use Rattle.tql_bound.specs.Changes as bound
use Rattle.tql_syntax_tree.specs.Statements.{tuple_of}
use Rattle.tql_value.specs.Views.{plain_kind}
use Rattle.tql_bind_change.specs.Cells.{HasValues}
use Rattle.tql_bind_change.proofs.Growing.{grows_begun, grows_item, grows_done}
use Rattle.tql_bind_change.proofs.TupleLaws.{tuple_is_kept}
use Rattle.tql_bind_change.proofs.tuples.tuples.Goals as goal

pub loop-written-init : goal.loop-written-init
loop-written-init c =
    let first = c.in_ok-tuple.field-0 in
    let t = c.tuple.new.terms in
    let pushed = c.in_ok-push.ensures.items ∙ ap (λ (ys : List _). ys ++ first ∷ []) c.new-tuples.ensures.items in
    grows_begun bound.tuple_of HasValues tuple_is_kept (tuple (map plain_kind c.args.kinds.now)) c.args.terms.now
    c.args.faults.now t c.push.new.self.items first (tuple_of c.args.first.now) (map tuple_of c.args.more.now)
    c.tuple.new.faults
    c.in_ok-tuple.ensures.stays pushed c.in_ok-tuple.ensures.bound c.in_ok-tuple.ensures.held

pub loop-written-preserved : goal.loop-written-preserved
loop-written-preserved c =
    grows_item bound.tuple_of HasValues tuple_is_kept (tuple (map plain_kind c.args.kinds.now)) tuple_of
    (tuple_of c.args.first.now ∷ map tuple_of c.args.more.now) c.args.terms.now c.args.faults.now
    c.loop-written.terms c.tuple-in-loop-written.new.terms
    c.args.more.now c.loop-written.written-index c.written-item.result c.loop-written.tuples.items
    c.push-in-loop-written.new.self.items c.in_ok-tuple-2.field-0
    c.loop-written.faults c.tuple-in-loop-written.new.faults c.loop-written-test.true c.written-item.is
    c.in_ok-push-2.ensures.items c.loop-written.invariant
    c.in_ok-tuple-2.ensures.stays c.in_ok-tuple-2.ensures.bound c.in_ok-tuple-2.ensures.held

pub returns-clause-bound : goal.returns-clause-bound
returns-clause-bound c =
    grows_done bound.tuple_of HasValues (tuple (map plain_kind c.args.kinds.now)) tuple_of
    (tuple_of c.args.first.now ∷ map tuple_of c.args.more.now) c.args.terms.now c.args.faults.now
    c.loop-written.terms c.args.more.now c.loop-written.written-index
    c.loop-written.tuples.items c.loop-written.faults c.loop-written-test.false c.loop-written.invariant
