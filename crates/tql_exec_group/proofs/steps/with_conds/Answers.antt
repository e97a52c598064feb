-- One more position.
use Rattle.std.proofs.Common.{◌<◌, ◌+◌, All, length, subst}
use Rattle.std.proofs.lemmas.List.{take_all}
use Rattle.tql_expr.specs.Meaning.{size}
use Rattle.tql_expr.specs.declared.terms.CondId.{CondId}
use Rattle.tql_exec_group.specs.Steps.{LiesIn}
use Rattle.tql_exec_group.proofs.Collected.{one_more_lies, positive}
use Rattle.tql_exec_group.proofs.steps.with_conds.Goals as goal

pub loop-cond-preserved : goal.loop-cond-preserved
loop-cond-preserved c =
    let i = c.loop-cond.cond-index in
    let inside : i < length c.args.conds.now = c.loop-cond-test.true in
    let all = c.loop-cond.all in
    let more = c.widened-all in
    record {
      holds = one_more_lies (λ (x : CondId). x.place) all.from all.last more.result.from more.result.last i
          c.args.conds.now _
          inside more.ensures.from more.ensures.last c.loop-cond.invariant.holds more.ensures.holds;
      within = λ h. more.ensures.within (size c.args.terms.now) (c.requires i _ inside) (c.loop-cond.invariant.within
          h);
      some = λ h l. positive _ _ (c.requires i (record { place = 0 }) inside);
    }

pub returns-clause-holds : goal.returns-clause-holds
returns-clause-holds c =
    subst (All (λ (x : CondId). LiesIn c.loop-cond.all.from (c.loop-cond.all.last + 1) x.place))
    (take_all c.loop-cond.cond-index c.args.conds.now c.loop-cond-test.false) c.loop-cond.invariant.holds
