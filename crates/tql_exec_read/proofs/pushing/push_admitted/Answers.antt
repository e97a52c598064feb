-- One version after another.
use Rattle.std.proofs.Common.{map}
use Rattle.tql_versions.specs.Readings.{version_shown as version_of}
use Rattle.tql_exec_pairs.proofs.Handed.{part_more, part_fails}
use Rattle.tql_exec_read.specs.Filters.{asked}
use Rattle.tql_exec_read.proofs.Screened.{asked_parts}
use Rattle.tql_exec_read.proofs.pushing.push_admitted.Goals as goal

pub loop-version-preserved : goal.loop-version-preserved
loop-version-preserved g c =
    let f = c.args.filter.now in
    part_more (g.S.Sink.knows c.args.sink.now) (λ vs. asked f (map version_of vs)) (asked_parts f) c.args.versions.now
    c.loop-version.version-index c.version-item.result c.args.state.now c.loop-version.state
    c.push_if_admitted.new.state c.loop-version-test.true c.version-item.is c.loop-version.invariant
    c.in_ok-push_if_admitted.ensures

pub returns-in_err-push_if_admitted : goal.returns-in_err-push_if_admitted
returns-in_err-push_if_admitted g c =
    let f = c.args.filter.now in
    part_fails (g.S.Sink.knows c.args.sink.now) (λ vs. asked f (map version_of vs)) (asked_parts f) c.args.versions.now
    (g.S.Sink.gives c.args.sink.now) c.loop-version.version-index c.version-item.result c.args.state.now
    c.push_if_admitted.new.state c.in_err-push_if_admitted.field-0.0 c.from_residual.result c.loop-version-test.true
    c.version-item.is c.from_residual.ensures c.in_err-push_if_admitted.ensures
