use Rattle.std.specs.Prelude.{option_map}
use Rattle.std.proofs.Common.{map}
use Rattle.tql_store_index.specs.Basis.{sought_of}
use Rattle.tql_versions.specs.Readings.{answer_of}
use Rattle.tql_store_rows.proofs.Choosing.{all_step}
use Rattle.tql_store_rows.proofs.finding.push_all.Goals as goal

pub loop-k-preserved : goal.loop-k-preserved
loop-k-preserved c =
    all_step c.args.when (option_map sought_of c.args.sought) c.args.base c.loop-k.k c.args.versions.now
    c.index-versions-k.result (map answer_of c.loop-k.found.items) (map answer_of c.push_chosen.new.found.items) _
    c.loop-k-test.true c.index-versions-k.is c.in_ok-push_chosen.ensures c.loop-k.invariant
