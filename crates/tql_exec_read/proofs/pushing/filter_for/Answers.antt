-- A whole screen takes the place of the conjuncts.
use Rattle.std.proofs.Common.{◌∙◌, map, sym}
use Rattle.tql_expr.specs.Generated.{generated}
use Rattle.tql_expr.specs.Meaning.{cond}
use Rattle.tql_exec_read.proofs.Screened.{asked_alone}
use Rattle.tql_exec_read.proofs.pushing.filter_for.Goals as goal

pub returns-then-is_whole-clause-same : goal.returns-then-is_whole-clause-same
returns-then-is_whole-clause-same c vs rows =
    let source = c.args.source.now in
    asked_alone (generated source.system) source.period source.width
    (map (cond c.args.plan.now.query.now.terms) c.args.plan.now.query.now.filter.items) c.args.plan.now.screen
    c.requires vs rows c.screens_are_enough.ensures.whole (sym c.is_whole.ensures ∙ c.if-is_whole.true)
