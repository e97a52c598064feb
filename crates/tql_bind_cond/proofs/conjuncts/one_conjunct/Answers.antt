use Rattle.std.proofs.Common.{List, [], ◌∷◌, ◌++◌, ap, ◌∙◌}
use Rattle.tql_spec.specs.Names.{condition}
use Rattle.tql_syntax_tree.specs.Conditions.{cond_of}
use Rattle.tql_expr.specs.declared.terms.CondId.{CondId}
use Rattle.tql_bind_expr.specs.Scopes.{scope_of}
use Rattle.tql_bind_cond.proofs.ConjunctLaws.{one_is, one_held}
use Rattle.tql_bind_cond.proofs.conjuncts.one_conjunct.Goals as goal

pub returns-clause-bound : goal.returns-clause-bound
returns-clause-bound c =
    one_is (condition (scope_of c.args.scope.now) (cond_of c.args.whole.now)) c.condition.new.terms _ _
    c.in_ok-bound.bound c.push.new.self.items
    (c.in_ok-push.ensures.items
    ∙ ap (λ (ys : List CondId). ys ++ c.in_ok-bound.bound ∷ []) c.new-all.ensures.items) c.in_ok-bound.ensures.bound

pub returns-clause-held : goal.returns-clause-held
returns-clause-held c =
    one_held c.condition.new.terms c.in_ok-bound.bound c.push.new.self.items
    (c.in_ok-push.ensures.items
    ∙ ap (λ (ys : List CondId). ys ++ c.in_ok-bound.bound ∷ []) c.new-all.ensures.items) c.in_ok-bound.ensures.held
