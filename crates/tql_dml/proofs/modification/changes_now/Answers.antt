use Rattle.std.proofs.Common.{rules, ◌<◌, length}
use Rattle.tql_bound.specs.Works.{work_of}
use Rattle.tql_dml.specs.Alters.{portion_in, conds_in}
use Rattle.tql_dml.specs.Parts.{parts_in}
use Rattle.tql_dml.proofs.Current.{one_more_open}
use Rattle.tql_dml.proofs.modification.changes_now.Goals as goal

pub loop-id-preserved : goal.loop-id-preserved
loop-id-preserved c =
    let x = c.args.modification.now in
    let within : c.loop-id.id < length c.args.current.now = search rules in
    one_more_open c.args.definition.now (portion_in x) (work_of x.terms x.work) (conds_in x) c.args.current.now
    c.loop-id.id c.index-current-id.result (parts_in c.loop-id.changed) (parts_in c.add_if_open.new.changed) _
    within c.index-current-id.is c.in_ok-add_if_open.ensures c.loop-id.invariant
