use Rattle.std.proofs.Common.{arith}
use Rattle.tql_bound.specs.Works.{work_of}
use Rattle.tql_dml.specs.Alters.{portion_in, conds_in}
use Rattle.tql_dml.specs.Parts.{parts_in}
use Rattle.tql_dml.proofs.Fates.{one_more_version}
use Rattle.tql_dml.proofs.modification.changes.Goals as goal

pub loop-version-preserved : goal.loop-version-preserved
loop-version-preserved c =
    let x = c.args.modification.now in
    one_more_version c.args.definition.now (portion_in x) (work_of x.terms x.work) (conds_in x) c.args.found.now
    c.loop-version.version-index c.version-item.result
    (parts_in c.loop-version.changed) (parts_in c.add_version.new.changed) _ (omega arith) c.version-item.is
    c.in_ok-add_version.ensures c.loop-version.invariant
