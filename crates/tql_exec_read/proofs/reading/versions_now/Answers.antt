use Rattle.std.proofs.Common.{ap}
use Rattle.std.proofs.lemmas.Option.{IfSome_then}
use Rattle.tql_versions.specs.Views.{versions_of}
use Rattle.tql_value.specs.When.{when_of}
use Rattle.tql_plan.specs.Nodes.{source_of}
use Rattle.tql_exec_read.proofs.Open.{open_now}
use Rattle.tql_exec_read.proofs.reading.versions_now.Goals as goal

pub returns-in-Now : goal.returns-in-Now
returns-in-Now g c = IfSome_then c.current.result c.current.ensures (λ vs rows.
    open_now c.args.snapshot.now (source_of c.args.source.now) (versions_of vs.now) c.requires
    (ap when_of c.in-Now.is) rows)
