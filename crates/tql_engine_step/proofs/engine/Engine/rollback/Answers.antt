use Rattle.std.proofs.Common.{◌∙◌, ap, sym, subst}
use Rattle.tql_spec.specs.Machine.{State, Rollback}
use Rattle.std.specs.Prelude.{is_some}
use Rattle.tql_engine_state.specs.Stands.{EngineModel, StandsFor}
use Rattle.tql_engine_state.proofs.Doing.{rollback_refused, rollback_does}
use Rattle.tql_engine_state.proofs.Typed.{sound_after}
use Rattle.tql_engine_step.proofs.HoldPoints.{rollback_holds}
use Rattle.tql_engine_step.proofs.engine.Engine.rollback.Goals as goal

pub invariant_of-self : goal.invariant_of-self
invariant_of-self g c =
    let s : State = c.self.invariant.state in
    let st = c.self.invariant.stands in
    let is_open = sym c.has_transaction.ensures ∙ c.if-not-has_transaction.false in
    sound_after _ _ c.self.invariant Rollback _ tt (λ t e. absurd (cc))
    (rollback_does _ s c.rollback.new.self st is_open c.rollback.ensures.copies (c.rollback.ensures.working)
    (c.rollback.ensures.tables) (c.rollback.ensures.horizon))

pub returns-clause-answered : goal.returns-clause-answered
returns-clause-answered g c s st =
    let back = subst (λ h. StandsFor h s) (sym c.self.view_is) st in
    let is_open = sym c.has_transaction.ensures ∙ c.if-not-has_transaction.false in
    rollback_does _ s c.rollback.new.self back is_open c.rollback.ensures.copies (c.rollback.ensures.working)
    (c.rollback.ensures.tables) (c.rollback.ensures.horizon)

pub returns-then-not-has_transaction-clause-answered : goal.returns-then-not-has_transaction-clause-answered
returns-then-not-has_transaction-clause-answered g c s st =
    rollback_refused _ s st (ap (λ (h : EngineModel). is_some h.store.working) (sym c.self.view_is)
    ∙ sym c.has_transaction.ensures ∙ c.if-not-has_transaction.true)

pub returns-clause-holds : goal.returns-clause-holds
returns-clause-holds g c s h =
    record { stands = (returns-clause-answered g c s h.stands).stands; holds = rollback_holds s h.holds }

pub returns-then-not-has_transaction-clause-holds : goal.returns-then-not-has_transaction-clause-holds
returns-then-not-has_transaction-clause-holds g c s h = record {
  stands = (returns-then-not-has_transaction-clause-answered g c s h.stands).stands;
  holds = rollback_holds s h.holds;
}
