use Rattle.std.proofs.Common.{◌≡◌, true, rules, subst}
use Rattle.std.specs.Prelude.{ℤ}
use Rattle.std.proofs.Math.Facts.{to_z-of_z}
use Rattle.tql_store_rows.proofs.Heaping.{first_stays}
use Rattle.tql_store_rows.proofs.Leaving.{left_at_end}
use Rattle.tql_versions.specs.Changes.{stays}
use Rattle.tql_versions.specs.Views.{version_of, versions_of}
use Rattle.tql_store_rows.proofs.pruning.prune_closed.Goals as goal

pub returns-else-not-stays-clause-versions : goal.returns-else-not-stays-clause-versions
returns-else-not-stays-clause-versions g c =
    left_at_end c.args.horizon _ (versions_of c.loop-closed.closed.items) (versions_of c.args.closed.now.items)
    (to_z-of_z c.ranges.horizon) c.loop-closed.invariant.heap
    (first_stays c.args.horizon c.loop-closed.closed.items c.index.result.now c.index.ensures
    (subst (λ (x : ℤ). stays x (version_of c.index.result.now) ≡ true) (to_z-of_z c.ranges.horizon) (search rules)))
    c.loop-closed.invariant.bag
