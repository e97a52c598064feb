use Rattle.std.proofs.Common.{rules, sym, subst}
use Rattle.std.specs.Prelude.{IsNone}
use Rattle.std.proofs.Math.Facts.{to_z-of_z}
use Rattle.tql_spec.specs.Machine.{State, SetClock}
use Rattle.tql_engine_state.specs.Stands.{EngineModel, StandsFor}
use Rattle.tql_engine_state.proofs.Doing.{clock_refused, clock_set}
use Rattle.tql_engine_state.proofs.Typed.{sound_after}
use Rattle.tql_engine_step.proofs.engine.Engine.at.Goals as goal

pub returns-then-is_not_later-clause-answered : goal.returns-then-is_not_later-clause-answered
returns-then-is_not_later-clause-answered g c s st = clock_refused _ s _ st c.requires.closed (search rules)

pub returns-clause-answered : goal.returns-clause-answered
returns-clause-answered g c s st =
    let inside = subst (λ h. StandsFor h s) (sym c.self.view_is) st in
    let closed = subst (λ (h : EngineModel). IsNone h.store.working) (sym c.self.view_is) c.requires.closed in
    rw (to_z-of_z c.ranges.moment)
    (clock_set _ s _ inside closed (search rules) c.requires.moment.0 c.requires.moment.1)

pub invariant_of-self : goal.invariant_of-self
invariant_of-self g c =
    let s : State = c.self.invariant.state in
    let closed = subst (λ (h : EngineModel). IsNone h.store.working) (sym c.self.view_is) c.requires.closed in
    rw (to_z-of_z c.ranges.moment)
    (sound_after _ _ c.self.invariant (SetClock c.args.moment) _ tt (λ t e. absurd (cc))
    (clock_set _ s _ c.self.invariant.stands closed (search rules) c.requires.moment.0 c.requires.moment.1))
