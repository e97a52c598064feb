use Rattle.std.proofs.Common.{sym, subst, map}
use Rattle.std.specs.Prelude.{Option, option_map}
use Rattle.tql_expr.specs.Meaning.{cond}
use Rattle.tql_period.specs.Points.{points_of}
use Rattle.tql_period.specs.declared.period.Period as code
use Rattle.tql_store_index.specs.Basis.{is_looked_at}
use Rattle.tql_plan_access.specs.Access.{ServesChange}
use Rattle.tql_plan_access.proofs.Serving.{ok_then, serves_portion}
use Rattle.tql_plan_access.proofs.choosing.change_access.Goals as goal

pub returns-in-Some-clause-serves : goal.returns-in-Some-clause-serves
returns-in-Some-clause-serves c =
    let d = c.args.definition.now in
    let conds = map (cond c.args.terms.now) c.args.conjuncts.now in
    let laws = c.constants_are_met.ensures in
    ok_then c.portion_access.result (λ a s.
    subst (λ (q : Option code.Period). ServesChange d (option_map points_of q) conds (is_looked_at a))
    (sym c.in-Some.is)
    (serves_portion laws.values laws.points laws.stretches d c.portion_access.ensures.right conds
    (points_of c.in-Some.portion) a s))
    c.portion_access.ensures.sought
