use Rattle.std.proofs.Common.{◌∙◌, sym, subst}
use Rattle.tql_catalog.specs.declared.catalog.Table.{Table}
use Rattle.tql_engine_state.proofs.Standing.{some_is}
use Rattle.tql_engine_read.specs.Tuples.{AddsTuples}
use Rattle.tql_engine_read.proofs.held.Held.tuples_delta.Goals as goal

pub returns : goal.returns
returns g c p there =
    let q : Table = c.table_at.result.now in
    subst (λ (t : Table). AddsTuples t c.args.insertion.now c.insert_tuples.result)
    (some_is q p (sym c.table_at.ensures ∙ there))
    (record { alters = c.insert_tuples.ensures.alters; fits = c.insert_tuples.ensures.fits })
