-- One more position.
use Rattle.std.proofs.Common.{◌<◌, ◌+◌, All, arith, length, subst}
use Rattle.std.proofs.lemmas.List.{take_all}
use Rattle.tql_expr.specs.Meaning.{size}
use Rattle.tql_expr.specs.declared.terms.ExprId.{ExprId}
use Rattle.tql_exec_group.specs.Steps.{LiesIn}
use Rattle.tql_exec_group.proofs.Collected.{one_more_lies, positive}
use Rattle.tql_exec_group.proofs.steps.with_exprs.Goals as goal

pub loop-expr-preserved : goal.loop-expr-preserved
loop-expr-preserved c =
    let i = c.loop-expr.expr-index in
    let inside : i < length c.args.exprs.now = c.loop-expr-test.true in
    let all = c.loop-expr.all in
    let more = c.widened-all in
    record {
      holds = one_more_lies (λ (x : ExprId). x.place) all.from all.last more.result.from more.result.last i
          c.args.exprs.now _
          inside more.ensures.from more.ensures.last c.loop-expr.invariant.holds more.ensures.holds;
      from = omega (arith, more.ensures.from, c.loop-expr.invariant.from);
      last = omega (arith, more.ensures.last, c.loop-expr.invariant.last);
      within = λ h. more.ensures.within (size c.args.terms.now) (c.requires i _ inside) (c.loop-expr.invariant.within
          h);
      some = λ h l. positive _ _ (c.requires i (record { place = 0 }) inside);
    }

pub returns-clause-holds : goal.returns-clause-holds
returns-clause-holds c =
    subst (All (λ (x : ExprId). LiesIn c.loop-expr.all.from (c.loop-expr.all.last + 1) x.place))
    (take_all c.loop-expr.expr-index c.args.exprs.now c.loop-expr-test.false) c.loop-expr.invariant.holds
