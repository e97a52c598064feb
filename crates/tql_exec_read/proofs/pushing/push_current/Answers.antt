-- A screen without tests admits all.
use Rattle.std.proofs.Common.{◌∙◌, List, subst, sym}
use Rattle.std.specs.Prelude.{Option}
use Rattle.tql_spec.specs.Datum.{Row}
use Rattle.tql_versions.specs.Readings.{open_ones}
use Rattle.tql_versions.specs.Views.{versions_of}
use Rattle.tql_exec_pairs.specs.Pushed.{Pushes}
use Rattle.tql_exec_read.proofs.Screened.{unasked}
use Rattle.tql_exec_read.proofs.pushing.push_current.Goals as goal

pub returns-then-is_empty : goal.returns-then-is_empty
returns-then-is_empty g c =
    subst (λ (o : Option (List Row)). Pushes (g.S.Sink.knows c.args.sink.now) (g.S.Sink.gives c.args.sink.now) o
    c.args.state.now c.push_open.new.state c.push_open.result)
    (sym (unasked c.args.filter.now (sym c.is_empty.ensures ∙ c.if-is_empty.true)
    (open_ones (versions_of c.args.versions.now))))
    c.push_open.ensures
