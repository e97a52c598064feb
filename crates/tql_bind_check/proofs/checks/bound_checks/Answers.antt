use Rattle.std.proofs.Common.{◌∷◌, List, map, sym, subst}
use Rattle.tql_spec.specs.Creation.{has_number}
use Rattle.tql_syntax_tree.specs.Statements.{element_of}
use Rattle.tql_syntax_tree.specs.declared.statement.Element.{Element}
use Rattle.tql_bind_expr.specs.Scopes.{scope_of}
use Rattle.tql_bind_check.specs.Checking.{check_by, checks_in, elements_in}
use Rattle.tql_bind_check.proofs.CheckSteps.{ChecksLead, checks_begun, checks_next, checks_item, checks_done}
use Rattle.tql_bind_check.proofs.checks.bound_checks.Goals as goal

pub loop-element-init : goal.loop-element-init
loop-element-init c =
    let f = check_by (λ i. has_number i c.args.generated.now) (scope_of c.args.scope.now) in
    let tree = c.args.create.now in
    let all = checks_in (elements_in tree) in
    let old = c.args.faults.now in
    let t = c.new-terms.result in
    let none = c.new-conditions.result.items in
    checks_next f all old t c.element_check.new.terms none c.add_check.new.checks.items (element_of tree.first)
    (map element_of c.deref-element-items.result.now) old c.element_check.new.faults c.in_ok-found.found
    (subst (λ (es : List Element). ChecksLead f all old t none (checks_in (element_of tree.first ∷ map element_of es))
    old) (sym c.deref-element-items.ensures.value) (checks_begun f all old t none c.new-conditions.ensures.items))
    c.in_ok-found.ensures.stays c.in_ok-found.ensures.bound c.in_ok-found.ensures.held c.in_ok-add_check.ensures

pub loop-element-preserved : goal.loop-element-preserved
loop-element-preserved c =
    checks_item (check_by (λ i. has_number i c.args.generated.now) (scope_of c.args.scope.now))
    (checks_in (elements_in c.args.create.now)) c.args.faults.now c.loop-element.terms
    c.element_check-in-loop-element.new.terms c.loop-element.conditions.items
    c.add_check-in-loop-element.new.checks.items c.deref-element-items.result.now c.loop-element.element-index
    c.element-item.result c.loop-element.faults c.element_check-in-loop-element.new.faults c.in_ok-found-2.found
    c.loop-element-test.true c.element-item.is c.loop-element.invariant c.in_ok-found-2.ensures.stays
    c.in_ok-found-2.ensures.bound c.in_ok-found-2.ensures.held c.in_ok-add_check-2.ensures

pub returns : goal.returns
returns c =
    checks_done (check_by (λ i. has_number i c.args.generated.now) (scope_of c.args.scope.now))
    (checks_in (elements_in c.args.create.now)) c.args.faults.now c.loop-element.terms c.loop-element.conditions.items
    c.deref-element-items.result.now c.loop-element.element-index c.loop-element.faults c.loop-element-test.false
    c.loop-element.invariant
