use Rattle.std.proofs.Common.{List, [], ◌∷◌, ◌++◌, map, ap, ◌∙◌}
use Rattle.tql_spec.specs.Names as names
use Rattle.tql_syntax_tree.specs.Conditions.{factor_of}
use Rattle.tql_syntax_tree.specs.declared.condition.TestIn.TheViews.{out-ConjIn}
use Rattle.tql_expr.specs.declared.terms.CondId.{CondId}
use Rattle.tql_bind_expr.specs.Scopes.{scope_of}
use Rattle.tql_bind_cond.proofs.ConjunctLaws.{members_done}
use Rattle.tql_bind_cond.proofs.Lists.{conds_begun, conds_item}
use Rattle.tql_bind_cond.proofs.conjuncts.members.Goals as goal

pub loop-part-init : goal.loop-part-init
loop-part-init c =
    conds_begun (names.factor (scope_of c.args.scope.now)) (factor_of (out-ConjIn _ c.args.conj.now).first)
    (map factor_of c.deref-part-items.result.now)
    c.args.terms.now c.factor.new.terms c.args.faults.now c.factor.new.faults _ c.in_ok-first.first
    (c.in_ok-push.ensures.items ∙ ap (λ (ys : List CondId). ys ++ c.in_ok-first.first ∷ []) c.new-all.ensures.items)
    c.in_ok-first.ensures.stays c.in_ok-first.ensures.bound c.in_ok-first.ensures.held

pub loop-part-preserved : goal.loop-part-preserved
loop-part-preserved c =
    conds_item (names.factor (scope_of c.args.scope.now)) factor_of
    (factor_of (out-ConjIn _ c.args.conj.now).first ∷ map factor_of c.deref-part-items.result.now)
    c.args.terms.now c.loop-part.terms c.factor-in-loop-part.new.terms
    c.args.faults.now c.loop-part.faults c.factor-in-loop-part.new.faults c.deref-part-items.result.now
    c.loop-part.part-index c.part-item.result
    c.loop-part.all.items _ c.in_ok-next.next c.loop-part-test.true c.part-item.is c.in_ok-push-2.ensures.items
    c.loop-part.invariant c.in_ok-next.ensures.stays c.in_ok-next.ensures.bound c.in_ok-next.ensures.held

pub returns-clause-bound : goal.returns-clause-bound
returns-clause-bound c =
    members_done (scope_of c.args.scope.now) c.args.conj.now c.args.terms.now c.loop-part.terms c.args.faults.now
    c.loop-part.faults c.deref-part-items.result.now c.loop-part.part-index c.loop-part.all.items
    c.deref-part-items.ensures.value c.loop-part-test.false c.loop-part.invariant

pub returns-clause-held : goal.returns-clause-held
returns-clause-held c = c.loop-part.invariant.held
