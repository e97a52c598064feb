use Rattle.std.proofs.Common.{◌∷◌, [], ◌++◌, List, All, map, ap, subst, sym}
use Rattle.tql_syntax_tree.specs.Expressions.{expr_of, boxed_expr_of}
use Rattle.tql_expr.specs.Meaning.{HasCond}
use Rattle.tql_expr.specs.declared.terms.CondId.{CondId}
use Rattle.tql_bind_expr.specs.Bounds.{typed_of}
use Rattle.tql_bind_expr.specs.Scopes.{scope_of}
use Rattle.tql_bind_cond.proofs.Lists.{equals, conds_begun, conds_item, equality_at, held_before, held_last}
use Rattle.tql_bind_cond.proofs.Lists.{one_of_done}
use Rattle.tql_bind_cond.proofs.membership.one_of.Goals as goal

pub loop-next-init : goal.loop-next-init
loop-next-init c =
    conds_begun (equals (scope_of c.args.scope.now) (typed_of c.args.terms.now c.args.operand))
    (expr_of c.args.first.now) (map boxed_expr_of c.args.more.now)
    c.args.terms.now c.compared.new.terms c.args.faults.now c.compared.new.faults _ c.in_ok-last.last
    (ap (λ (ys : List CondId). ys ++ c.in_ok-last.last ∷ []) c.new-before.ensures.items)
    c.in_ok-last.ensures.stays c.in_ok-last.ensures.bound c.in_ok-last.ensures.held

pub loop-next-preserved : goal.loop-next-preserved
loop-next-preserved c =
    let s = scope_of c.args.scope.now in
    let t = c.args.terms.now in
    let here = equality_at s t c.loop-next.terms c.compared-in-loop-next.new.terms c.args.operand c.deref.result.now
    c.next-item.result.value _ _ c.in_ok-equality.equality
    c.loop-next.invariant.stays c.requires c.deref.ensures c.in_ok-equality.ensures.bound in
    conds_item (equals s (typed_of t c.args.operand)) boxed_expr_of
    (expr_of c.args.first.now ∷ map boxed_expr_of c.args.more.now) t c.loop-next.terms
    c.compared-in-loop-next.new.terms
    c.args.faults.now c.loop-next.faults c.compared-in-loop-next.new.faults c.args.more.now c.loop-next.next-index
    c.next-item.result
    (c.loop-next.before.items ++ c.loop-next.last ∷ []) _ c.in_ok-equality.equality c.loop-next-test.true c.next-item.is
    (ap (λ (ys : List CondId). ys ++ c.in_ok-equality.equality ∷ []) c.in_ok-push.ensures.items)
    c.loop-next.invariant c.in_ok-equality.ensures.stays here c.in_ok-equality.ensures.held

pub push_one_of-requires-clause-last : goal.push_one_of-requires-clause-last
push_one_of-requires-clause-last c =
    held_last c.loop-next.terms c.loop-next.before.items c.loop-next.last c.loop-next.invariant.held

pub push_one_of-requires-clause-conds : goal.push_one_of-requires-clause-conds
push_one_of-requires-clause-conds c =
    subst (All (HasCond c.loop-next.terms)) (sym c.deref-2.ensures.value)
    (held_before c.loop-next.terms c.loop-next.before.items c.loop-next.last c.loop-next.invariant.held)

pub returns-clause-bound : goal.returns-clause-bound
returns-clause-bound c =
    one_of_done (scope_of c.args.scope.now) (typed_of c.args.terms.now c.args.operand) (expr_of c.args.first.now)
    boxed_expr_of c.args.terms.now c.loop-next.terms c.push_one_of.new.self
    c.args.faults.now c.loop-next.faults c.args.more.now c.loop-next.next-index c.loop-next.before.items
    c.deref-2.result.now c.loop-next.last c.push_one_of.result
    c.loop-next-test.false c.deref-2.ensures.value c.loop-next.invariant c.push_one_of.ensures
