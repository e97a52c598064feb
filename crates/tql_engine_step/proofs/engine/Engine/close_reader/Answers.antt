use Rattle.std.proofs.Common.{sym, subst, List, None}
use Rattle.tql_spec.specs.Machine.{State, Done, ClosedReader, CloseReader, step}
use Rattle.tql_engine_state.specs.Allowed.{IsWithin}
use Rattle.tql_engine_state.specs.Effects.{Does}
use Rattle.tql_engine_state.specs.Readers.{KeptReader}
use Rattle.tql_engine_state.specs.Stands.{EngineModel, StandsFor}
use Rattle.tql_engine_state.proofs.Doing.{close_does}
use Rattle.tql_engine_state.proofs.Typed.{sound_after}
use Rattle.tql_engine_step.proofs.engine.Engine.close_reader.Goals as goal

pub returns : goal.returns
returns g c s st =
    let inside = subst (λ (h : EngineModel). StandsFor h s) (sym c.self.view_is) st in
    let within = subst (λ (h : EngineModel). IsWithin h (CloseReader c.args.name.now)) (sym c.self.view_is)
    c.requires.within in
    subst (λ (rs : List KeptReader). Does (record {
      tables = c.self.inside.tables;
      store = c.self.inside.store;
      next = c.self.inside.next;
      readers = rs;
    }) (Done ClosedReader None) (step s (CloseReader c.args.name.now))) (sym c.take_away.ensures)
    (close_does _ s c.args.name.now inside within)

pub invariant_of-self : goal.invariant_of-self
invariant_of-self g c =
    let s : State = c.self.invariant.state in
    let within = subst (λ (h : EngineModel). IsWithin h (CloseReader c.args.name.now)) (sym c.self.view_is)
    c.requires.within in
    sound_after _ _ c.self.invariant (CloseReader c.args.name.now) (Done ClosedReader None) tt (λ t e. absurd (cc))
    (subst (λ (rs : List KeptReader). Does (record {
      tables = c.self.inside.tables;
      store = c.self.inside.store;
      next = c.self.inside.next;
      readers = rs;
    }) (Done ClosedReader None) (step s (CloseReader c.args.name.now))) (sym c.take_away.ensures)
    (close_does _ s c.args.name.now c.self.invariant.stands within))
