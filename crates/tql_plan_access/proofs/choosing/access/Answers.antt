use Rattle.std.proofs.Common.{map}
use Rattle.tql_expr.specs.Meaning.{cond}
use Rattle.tql_plan_access.specs.Access.{sought_in}
use Rattle.tql_plan_access.proofs.Serving.{ok_both, ok_then, serves_table, sought_for}
use Rattle.tql_plan_access.proofs.choosing.access.Goals as goal

pub returns-clause-sought : goal.returns-clause-sought
returns-clause-sought c =
    ok_then c.keyed.result (λ a s.
    sought_for c.args.definition.now (map (cond c.args.terms.now) c.args.conjuncts.now) c.args.is_current
    (map (cond c.args.terms.now) c.safe_conjuncts-decisive.result.now) c.safe_conjuncts-decisive.ensures.part
    (sought_in c.current_manner-said.result) c.current_manner-said.ensures a s)
    c.keyed.ensures.sought

pub returns-clause-serves : goal.returns-clause-serves
returns-clause-serves c =
    let laws = c.constants_are_met.ensures in
    let d = c.args.definition.now in
    let conds = map (cond c.args.terms.now) c.args.conjuncts.now in
    ok_both c.keyed.result (λ a s right.
    serves_table laws.values laws.points laws.stretches d right conds c.args.is_current a
    (sought_for d conds c.args.is_current
    (map (cond c.args.terms.now) c.safe_conjuncts-decisive.result.now) c.safe_conjuncts-decisive.ensures.part
    (sought_in c.current_manner-said.result) c.current_manner-said.ensures a s))
    c.keyed.ensures.sought c.keyed.ensures.right
