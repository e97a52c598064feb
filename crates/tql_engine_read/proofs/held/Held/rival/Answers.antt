use Rattle.std.proofs.Common.{sym, subst}
use Rattle.std.specs.Prelude.{IsTrue}
use Rattle.tql_store.specs.StoreModel.{has_table}
use Rattle.tql_engine_state.specs.Stands.{EngineModel}
use Rattle.tql_engine_read.proofs.held.Held.rival.Goals as goal

pub row-requires : goal.row-requires
row-requires g c =
    subst (λ (h : EngineModel). IsTrue (has_table h.store c.args.table.now.id)) (sym c.self.view_is) c.requires.there
