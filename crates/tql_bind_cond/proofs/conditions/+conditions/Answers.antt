use Rattle.std.proofs.Common.{◌∷◌, List, All, ap, subst, sym, map}
use Rattle.std.proofs.lemmas.List.Elements.{All-head, All-tail}
use Rattle.tql_spec.specs.Names as names
use Rattle.tql_syntax_tree.specs.Conditions.{conj_of, factor_of}
use Rattle.tql_syntax_tree.specs.declared.condition.TestIn.TheViews.{out-CondIn, out-ConjIn}
use Rattle.tql_expr.specs.Meaning.{HasCond}
use Rattle.tql_expr.specs.declared.terms.CondId.{CondId}
use Rattle.tql_bind_expr.specs.Scopes.{scope_of}
use Rattle.tql_bind_cond.proofs.Lists.{conds_begun, conds_item, conj_done, condition_done}
use Rattle.tql_bind_cond.proofs.conditions.+conditions.Goals as goal

pub condition-loop-part-init : goal.condition-loop-part-init
condition-loop-part-init t c =
    conds_begun (names.conj (scope_of c.args.scope.now)) (conj_of (out-CondIn _ c.args.condition.now).first)
    (map conj_of c.deref-part-items.result.now)
    c.args.terms.now c.conj.new.terms c.args.faults.now c.conj.new.faults _ c.in_ok-first.first
    (ap (λ (ys : List CondId). c.in_ok-first.first ∷ ys) c.new-rest.ensures.items)
    c.in_ok-first.ensures.stays c.in_ok-first.ensures.bound c.in_ok-first.ensures.held

pub condition-loop-part-preserved : goal.condition-loop-part-preserved
condition-loop-part-preserved t c =
    conds_item (names.conj (scope_of c.args.scope.now)) conj_of
    (conj_of (out-CondIn _ c.args.condition.now).first ∷ map conj_of c.deref-part-items.result.now)
    c.args.terms.now c.loop-part.terms c.conj-in-loop-part.new.terms
    c.args.faults.now c.loop-part.faults c.conj-in-loop-part.new.faults c.deref-part-items.result.now
    c.loop-part.part-index c.part-item.result
    (c.in_ok-first.first ∷ c.loop-part.rest.items) _ c.in_ok-next.next c.loop-part-test.true c.part-item.is
    (ap (λ (ys : List CondId). c.in_ok-first.first ∷ ys) c.in_ok-push.ensures.items)
    c.loop-part.invariant c.in_ok-next.ensures.stays c.in_ok-next.ensures.bound c.in_ok-next.ensures.held

pub condition-push_any-requires-clause-first : goal.condition-push_any-requires-clause-first
condition-push_any-requires-clause-first t c =
    All-head (HasCond c.loop-part.terms) c.in_ok-first.first c.loop-part.rest.items c.loop-part.invariant.held

pub condition-push_any-requires-clause-rest : goal.condition-push_any-requires-clause-rest
condition-push_any-requires-clause-rest t c =
    subst (All (HasCond c.loop-part.terms)) (sym c.deref.ensures.value)
    (All-tail (HasCond c.loop-part.terms) c.in_ok-first.first c.loop-part.rest.items c.loop-part.invariant.held)

pub condition-returns-clause-bound : goal.condition-returns-clause-bound
condition-returns-clause-bound t c =
    condition_done (scope_of c.args.scope.now) c.args.condition.now c.args.terms.now c.loop-part.terms
    c.push_any.new.self c.args.faults.now c.loop-part.faults c.deref-part-items.result.now c.loop-part.part-index
    c.in_ok-first.first c.loop-part.rest.items c.deref.result.now c.push_any.result
    c.deref-part-items.ensures.value c.loop-part-test.false c.deref.ensures.value c.loop-part.invariant
    c.push_any.ensures

pub conj-loop-part-init : goal.conj-loop-part-init
conj-loop-part-init t c =
    conds_begun (names.factor (scope_of c.args.scope.now)) (factor_of (out-ConjIn _ c.args.conj.now).first)
    (map factor_of c.deref-part-items.result.now)
    c.args.terms.now c.factor.new.terms c.args.faults.now c.factor.new.faults _ c.in_ok-first.first
    (ap (λ (ys : List CondId). c.in_ok-first.first ∷ ys) c.new-rest.ensures.items)
    c.in_ok-first.ensures.stays c.in_ok-first.ensures.bound c.in_ok-first.ensures.held

pub conj-loop-part-preserved : goal.conj-loop-part-preserved
conj-loop-part-preserved t c =
    conds_item (names.factor (scope_of c.args.scope.now)) factor_of
    (factor_of (out-ConjIn _ c.args.conj.now).first ∷ map factor_of c.deref-part-items.result.now)
    c.args.terms.now c.loop-part.terms c.factor-in-loop-part.new.terms
    c.args.faults.now c.loop-part.faults c.factor-in-loop-part.new.faults c.deref-part-items.result.now
    c.loop-part.part-index c.part-item.result
    (c.in_ok-first.first ∷ c.loop-part.rest.items) _ c.in_ok-next.next c.loop-part-test.true c.part-item.is
    (ap (λ (ys : List CondId). c.in_ok-first.first ∷ ys) c.in_ok-push.ensures.items)
    c.loop-part.invariant c.in_ok-next.ensures.stays c.in_ok-next.ensures.bound c.in_ok-next.ensures.held

pub conj-push_all-requires-clause-first : goal.conj-push_all-requires-clause-first
conj-push_all-requires-clause-first t c =
    All-head (HasCond c.loop-part.terms) c.in_ok-first.first c.loop-part.rest.items c.loop-part.invariant.held

pub conj-push_all-requires-clause-rest : goal.conj-push_all-requires-clause-rest
conj-push_all-requires-clause-rest t c =
    subst (All (HasCond c.loop-part.terms)) (sym c.deref.ensures.value)
    (All-tail (HasCond c.loop-part.terms) c.in_ok-first.first c.loop-part.rest.items c.loop-part.invariant.held)

pub conj-returns-clause-bound : goal.conj-returns-clause-bound
conj-returns-clause-bound t c =
    conj_done (scope_of c.args.scope.now) c.args.conj.now c.args.terms.now c.loop-part.terms c.push_all.new.self
    c.args.faults.now c.loop-part.faults c.deref-part-items.result.now c.loop-part.part-index
    c.in_ok-first.first c.loop-part.rest.items c.deref.result.now c.push_all.result
    c.deref-part-items.ensures.value c.loop-part-test.false c.deref.ensures.value c.loop-part.invariant
    c.push_all.ensures
