use Rattle.std.proofs.Common.{subst, sym}
use Rattle.tql_spec.specs.Machine.{AnswerQuery, bag_of}
use Rattle.tql_spec.specs.Query.{answer}
use Rattle.tql_bound.specs.Queries.{bound_query_of}
use Rattle.tql_store.specs.StoreModel.{StoreModel}
use Rattle.tql_engine_state.specs.Showing.{CanAnswer, Shows}
use Rattle.tql_engine_state.specs.Stands.{EngineModel, StandsFor}
use Rattle.tql_engine_state.proofs.Asked.{shows_now}
use Rattle.tql_engine_state.proofs.Doing.{asked_does, asked_errs, query_asked}
use Rattle.tql_engine_state.proofs.ReadersShow.{can_now}
use Rattle.tql_engine_read.proofs.held.Held.answer_query.Goals as goal

pub answered-requires-clause-can : goal.answered-requires-clause-can
answered-requires-clause-can g c =
    let q = bound_query_of c.args.query.now in
    let st = subst (λ (h : EngineModel). StandsFor h c.self.invariant.state) c.self.view_is c.self.invariant.stands in
    subst (λ (r : StoreModel). CanAnswer c.args.self.now.tables r q) (sym c.now-shown.ensures)
    (subst (λ (h : EngineModel). CanAnswer c.args.self.now.tables h.store q) (sym c.self.view_is)
    (can_now c.args.self.now c.self.invariant.state q st c.self.invariant.typed c.requires.placed c.requires.within))

pub returns-in-Ok : goal.returns-in-Ok
returns-in-Ok g c s st =
    let q = bound_query_of c.args.query.now in
    let shows = subst (λ (r : StoreModel). Shows c.args.self.now.tables r s) (sym c.now-shown.ensures)
    (subst (λ (h : EngineModel). Shows c.args.self.now.tables h.store s) (sym c.self.view_is)
    (shows_now c.args.self.now s st)) in
    asked_does c.args.self.now s (AnswerQuery q) q (answer (bag_of s) q) st
    (query_asked c.args.self.now s q st c.requires.within) _ _ (c.in-Ok.ensures.rows s shows) c.in-Ok.ensures.headings

pub returns-in-Err : goal.returns-in-Err
returns-in-Err g c s st =
    let q = bound_query_of c.args.query.now in
    let shows = subst (λ (r : StoreModel). Shows c.args.self.now.tables r s) (sym c.now-shown.ensures)
    (subst (λ (h : EngineModel). Shows c.args.self.now.tables h.store s) (sym c.self.view_is)
    (shows_now c.args.self.now s st)) in
    asked_errs c.args.self.now s (AnswerQuery q) q (answer (bag_of s) q) st
    (query_asked c.args.self.now s q st c.requires.within) c.in-Err.refusal (c.in-Err.ensures.rows s shows)
