use Rattle.std.proofs.Common.{sym, subst}
use Rattle.std.specs.Prelude.{IsTrue}
use Rattle.tql_catalog.specs.declared.catalog.Table.{Table}
use Rattle.tql_store.specs.StoreModel.{has_table}
use Rattle.tql_engine_state.specs.Stands.{EngineModel, StandsFor}
use Rattle.tql_engine_state.proofs.Standing.{there_law}
use Rattle.tql_engine_read.proofs.held.Held.change_told.Goals as goal

pub current-current-requires : goal.current-current-requires
current-current-requires g c =
    let p : Table = c.table_at-table.result.now in
    let stands = subst (λ h. StandsFor h c.self.invariant.state) c.self.view_is c.self.invariant.stands in
    subst (λ (h : EngineModel). IsTrue (has_table h.store p.id)) (sym c.self.view_is)
    (there_law c.args.self.now c.self.invariant.state c.args.modification.now.table p stands
    c.table_at-table.ensures)
