use Rattle.std.proofs.Common.{◌∙◌, ◌++◌, sym, map}
use Rattle.std.proofs.lemmas.List.{append-nil, drop_all, take_all}
use Rattle.tql_expr.specs.Meaning.{cond}
use Rattle.tql_plan_access.specs.Access.{safe_part}
use Rattle.tql_plan_access.proofs.SafePart.{no_more, one_more}
use Rattle.tql_plan_access.proofs.safe.safe_conjuncts.Goals as goal

pub loop-place-preserved : goal.loop-place-preserved
loop-place-preserved c =
    one_more (cond c.args.terms.now) c.args.conjuncts.now c.loop-place.place _ c.loop-place-test.true
    (sym c.is_safe.ensures ∙ c.if-not-is_safe.false)
    ∙ c.loop-place.invariant

pub returns-then-not-is_safe-clause-part : goal.returns-then-not-is_safe-clause-part
returns-then-not-is_safe-clause-part c =
    sym (no_more (cond c.args.terms.now) c.args.conjuncts.now c.loop-place.place _ c.loop-place-test.true
    (sym c.is_safe.ensures ∙ c.if-not-is_safe.true))
    ∙ c.loop-place.invariant

pub returns-clause-part : goal.returns-clause-part
returns-clause-part c =
    let t = c.args.terms.now in
    let ids = c.args.conjuncts.now in
    let i = c.loop-place.place in
    let past = c.loop-place-test.false in
    sym ((λ k. map (cond t) (take_all i ids past k) ++ safe_part (map (cond t) (drop_all i ids past k)))
    ∙ append-nil (map (cond t) ids))
    ∙ c.loop-place.invariant
