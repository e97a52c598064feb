use Rattle.std.proofs.Common.{subst}
use Rattle.std.specs.Prelude.{IfOk}
use Rattle.std.proofs.Math.Facts.{to_z-of_z}
use Rattle.tql_spec.specs.Definition.{period_between}
use Rattle.tql_spec.specs.Period.{holds}
use Rattle.tql_value.specs.declared.when.When.TheVariants.{Now}
use Rattle.tql_store.specs.Views.{IsFound}
use Rattle.tql_store.proofs.store.Store.holding.Goals as goal

pub returns : goal.returns
returns g c = subst (λ p. IfOk c.search.result (λ found. IsFound c.args.self.now c.args.table Now
    (λ row. holds (period_between row c.args.columns.0 c.args.columns.1) p) found.items))
    (to_z-of_z c.ranges.point) c.search.ensures
