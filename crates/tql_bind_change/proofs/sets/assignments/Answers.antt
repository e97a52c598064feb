use Rattle.std.proofs.Common.{[], ◌∷◌, ◌++◌, List, ap, ◌∙◌, map}
use Rattle.tql_spec.specs.Binding.{assignment}
use Rattle.tql_bound.specs.Works as bound
use Rattle.tql_bound.specs.declared.change.Assignment.{Assignment}
use Rattle.tql_syntax_tree.specs.Statements.{assignment_of}
use Rattle.tql_bind_change.specs.Cells.{HasAssigned}
use Rattle.tql_bind_change.proofs.Growing.{grows_begun, grows_item, grows_done}
use Rattle.tql_bind_change.proofs.SetLaws.{assignment_is_kept}
use Rattle.tql_bind_change.proofs.sets.assignments.Goals as goal

pub loop-set-init : goal.loop-set-init
loop-set-init c =
    let first = c.in_ok-assignment.field-0 in
    let pushed = c.in_ok-push.ensures.items
    ∙ ap (λ (ys : List Assignment). ys ++ first ∷ []) c.new-sets.ensures.items in
    grows_begun bound.assignment_of HasAssigned assignment_is_kept (assignment c.args.definition.now)
    c.args.terms.now c.args.faults.now c.assignment.new.terms c.push.new.self.items first
    (assignment_of c.args.first.now) (map assignment_of c.args.more.now) c.assignment.new.faults
    c.in_ok-assignment.ensures.stays pushed c.in_ok-assignment.ensures.bound c.in_ok-assignment.ensures.held

pub loop-set-preserved : goal.loop-set-preserved
loop-set-preserved c =
    grows_item bound.assignment_of HasAssigned assignment_is_kept (assignment c.args.definition.now) assignment_of
    (assignment_of c.args.first.now ∷ map assignment_of c.args.more.now) c.args.terms.now c.args.faults.now
    c.loop-set.terms c.assignment-in-loop-set.new.terms c.args.more.now c.loop-set.set-index c.set-item.result
    c.loop-set.sets.items c.push-in-loop-set.new.self.items c.in_ok-assignment-2.field-0
    c.loop-set.faults c.assignment-in-loop-set.new.faults c.loop-set-test.true c.set-item.is
    c.in_ok-push-2.ensures.items c.loop-set.invariant
    c.in_ok-assignment-2.ensures.stays c.in_ok-assignment-2.ensures.bound c.in_ok-assignment-2.ensures.held

pub returns-clause-bound : goal.returns-clause-bound
returns-clause-bound c =
    grows_done bound.assignment_of HasAssigned (assignment c.args.definition.now) assignment_of
    (assignment_of c.args.first.now ∷ map assignment_of c.args.more.now) c.args.terms.now c.args.faults.now
    c.loop-set.terms c.args.more.now c.loop-set.set-index c.loop-set.sets.items c.loop-set.faults
    c.loop-set-test.false c.loop-set.invariant
