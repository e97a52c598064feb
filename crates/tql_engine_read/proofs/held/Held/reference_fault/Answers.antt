use Rattle.std.proofs.Common.{sym, subst}
use Rattle.std.specs.Prelude.{IsTrue}
use Rattle.tql_catalog.specs.declared.catalog.Table.{Table}
use Rattle.tql_store.specs.StoreModel.{has_table}
use Rattle.tql_engine_state.specs.Stands.{EngineModel, StandsFor}
use Rattle.tql_engine_state.proofs.Standing.{there_law}
use Rattle.tql_engine_read.proofs.held.Held.reference_fault.Goals as goal

pub failed_reference-requires-clause-there : goal.failed_reference-requires-clause-there
failed_reference-requires-clause-there g c t p e =
    there_law _ c.self.invariant.state t p c.self.invariant.stands e

pub row-requires : goal.row-requires
row-requires g c =
    let p : Table = c.table_at-child.result.now in
    let stands = subst (λ h. StandsFor h c.self.invariant.state) c.self.view_is c.self.invariant.stands in
    subst (λ (h : EngineModel). IsTrue (has_table h.store p.id)) (sym c.self.view_is)
    (there_law c.args.self.now c.self.invariant.state _ p stands c.table_at-child.ensures)
