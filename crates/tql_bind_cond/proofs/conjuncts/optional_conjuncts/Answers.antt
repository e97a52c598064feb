use Rattle.std.proofs.Common.{ap}
use Rattle.tql_syntax_tree.specs.Statements.{filter_of}
use Rattle.tql_bind_expr.specs.Scopes.{scope_of}
use Rattle.tql_bind_cond.proofs.ConjunctLaws.{none_is}
use Rattle.tql_bind_cond.proofs.conjuncts.optional_conjuncts.Goals as goal

pub returns-in-None-clause-bound : goal.returns-in-None-clause-bound
returns-in-None-clause-bound c =
    none_is (scope_of c.args.scope.now) (filter_of c.args.clause.now) c.args.terms.now c.args.faults.now
    c.new.result.items (ap (λ o. filter_of o) c.in-None.is) c.new.ensures.items
