use Rattle.std.proofs.Common.{refl, ◌∙◌, ap, ◌<◌, length, arith, Some}
use Rattle.tql_engine_state.specs.Stands.{StandsFor}
use Rattle.tql_engine.proofs.Bytes.{runs_bytes}
use Rattle.tql_engine.proofs.RunHolds.{bytes_hold}
use Rattle.tql_engine.proofs.PointRuns.{bytes_agree}
use Rattle.tql_engine.proofs.ReaderRuns.{bytes_stable}
use Rattle.tql_engine.proofs.Unseen.{bytes_unseen}
use Rattle.tql_engine.proofs.runner.run_bytes.Goals as goal

pub returns-clause-written : goal.returns-clause-written
returns-clause-written g c s st =
    let short : length c.args.script.now < 281_474_976_710_655 = omega (arith, c.if-script-ge-TOO_MANY_BYTES.false) in
    runs_bytes s (StandsFor c.run-end.new.engine) c.args.script.now c.args.output.now.items c.into_bytes.result.items
    _ _ _
    (record { had = c.new-source.ensures.left; before = refl; now = refl; short = short }) refl
    (c.new-sink.ensures.written ∙ ap (λ v. Some v.items) c.replace.ensures.value) c.into_bytes.ensures
    c.run-end.result (c.run-end.ensures.ran s st)

pub returns-clause-points : goal.returns-clause-points
returns-clause-points g c s st =
    bytes_agree s (StandsFor c.run-end.new.engine) c.args.script.now c.args.output.now.items c.into_bytes.result.items
    c.run-end.result (returns-clause-written g c s st)

pub returns-clause-unseen : goal.returns-clause-unseen
returns-clause-unseen g c s st ordered =
    bytes_unseen c.pruned_history.ensures.runs s (StandsFor c.run-end.new.engine) c.args.script.now
    c.args.output.now.items c.into_bytes.result.items c.run-end.result ordered (returns-clause-written g c s st)

pub returns-clause-readers : goal.returns-clause-readers
returns-clause-readers g c s st =
    bytes_stable c.readers_agree.ensures.runs s (StandsFor c.run-end.new.engine) c.args.script.now
    c.args.output.now.items c.into_bytes.result.items c.run-end.result (returns-clause-written g c s st)

pub returns-clause-holds : goal.returns-clause-holds
returns-clause-holds g c s h =
    bytes_hold c.run-end.new.engine s c.args.script.now c.args.output.now.items c.into_bytes.result.items
    c.run-end.result h.holds (returns-clause-written g c s h.stands)
