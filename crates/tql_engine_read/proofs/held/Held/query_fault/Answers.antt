use Rattle.std.proofs.Common.{subst, sym}
use Rattle.tql_bound.specs.Queries.{bound_query_of}
use Rattle.tql_store.specs.StoreModel.{StoreModel}
use Rattle.tql_engine_state.specs.Showing.{CanAnswer}
use Rattle.tql_engine_state.specs.Stands.{EngineModel, StandsFor}
use Rattle.tql_engine_state.proofs.ReadersShow.{can_now}
use Rattle.tql_engine_read.proofs.held.Held.query_fault.Goals as goal

pub answered-requires-clause-can : goal.answered-requires-clause-can
answered-requires-clause-can g c =
    let q = bound_query_of c.args.insertion.now.query in
    let st = subst (λ (h : EngineModel). StandsFor h c.self.invariant.state) c.self.view_is c.self.invariant.stands in
    subst (λ (r : StoreModel). CanAnswer c.args.self.now.tables r q) (sym c.now-shown.ensures)
    (subst (λ (h : EngineModel). CanAnswer c.args.self.now.tables h.store q) (sym c.self.view_is)
    (can_now c.args.self.now c.self.invariant.state q st c.self.invariant.typed c.requires.placed c.requires.asked))
