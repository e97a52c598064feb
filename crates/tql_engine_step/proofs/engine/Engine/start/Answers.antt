use Rattle.std.proofs.Common.{◌∙◌, ap, sym, subst, Some}
use Rattle.std.specs.Prelude.{IsNone, ◌<ℤ◌}
use Rattle.tql_spec.specs.Calendar.{high}
use Rattle.tql_spec.specs.Machine.{State, Start}
use Rattle.tql_engine_state.specs.Stands.{EngineModel, StandsFor}
use Rattle.tql_engine_state.proofs.MomentFits.{clock_reads, clock_under}
use Rattle.tql_engine_state.proofs.Doing.{start_does}
use Rattle.tql_engine_state.proofs.Typed.{sound_after}
use Rattle.tql_engine_step.proofs.engine.Engine.start.Goals as goal

pub begin-requires-clause-closed : goal.begin-requires-clause-closed
begin-requires-clause-closed g c =
    subst (λ (h : EngineModel). IsNone h.store.working) (sym c.self.view_is) c.requires.closed

pub begin-requires-clause-later : goal.begin-requires-clause-later
begin-requires-clause-later g c = clock_under _ c.self.invariant.state c.self.invariant.stands

pub begin-requires-clause-below : goal.begin-requires-clause-below
begin-requires-clause-below g c =
    subst (λ m. m <ℤ high) (sym (clock_reads _ c.self.invariant.state c.self.invariant.stands))
    (subst (λ (h : EngineModel). h.next <ℤ high) (sym c.self.view_is) c.requires.below)

pub invariant_of-self : goal.invariant_of-self
invariant_of-self g c =
    let s : State = c.self.invariant.state in
    let st = c.self.invariant.stands in
    let closed = subst (λ (h : EngineModel). IsNone h.store.working) (sym c.self.view_is) c.requires.closed in
    let below = subst (λ (h : EngineModel). h.next <ℤ high) (sym c.self.view_is) c.requires.below in
    sound_after _ _ c.self.invariant Start _ tt (λ t e. absurd (cc))
    (start_does _ s _ st closed below c.begin.ensures.copies
    (c.begin.ensures.working ∙ ap Some (clock_reads _ s st)) (c.begin.ensures.tables) (c.begin.ensures.horizon))

pub returns : goal.returns
returns g c s st =
    let back = subst (λ h. StandsFor h s) (sym c.self.view_is) st in
    let closed = subst (λ (h : EngineModel). IsNone h.store.working) (sym c.self.view_is) c.requires.closed in
    let below = subst (λ (h : EngineModel). h.next <ℤ high) (sym c.self.view_is) c.requires.below in
    start_does _ s _ back closed below c.begin.ensures.copies
    (c.begin.ensures.working ∙ ap Some (clock_reads _ s back)) (c.begin.ensures.tables) (c.begin.ensures.horizon)
