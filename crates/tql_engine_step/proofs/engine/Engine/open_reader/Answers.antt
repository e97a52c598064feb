use Rattle.std.proofs.Common.{◌≡◌, ◌∙◌, sym, ap, subst, List, [], ◌∷◌, ◌++◌, map, Option, None}
use Rattle.std.proofs.lemmas.List.{map-append}
use Rattle.std.specs.Prelude.{ℤ, string_bytes}
use Rattle.tql_spec.specs.Machine.{State, Done, OpenedReader, OpenReader, step}
use Rattle.tql_bound.specs.declared.reader.Reader.{Reader}
use Rattle.tql_engine_state.specs.Allowed.{IsWithin}
use Rattle.tql_engine_state.specs.Effects.{Does}
use Rattle.tql_engine_state.specs.Readers.{KeptReader, reader_of}
use Rattle.tql_engine_state.specs.Stands.{EngineModel, StandsFor}
use Rattle.tql_engine_state.proofs.Doing.{open_does}
use Rattle.tql_engine_state.proofs.Typed.{sound_after}
use Rattle.tql_engine_step.proofs.engine.Engine.open_reader.Goals as goal

-- one more reader after the others
kept_more : (rs new : List Reader) (r : Reader) → new ≡ rs ++ r ∷ [] → (pin : Option ℤ) → r.pin ≡ pin
    → map reader_of new ≡ map reader_of rs ++ record { name = string_bytes r.name; pin = pin } ∷ []
kept_more rs new r e pin p =
    ap (map reader_of) e ∙ map-append reader_of rs (r ∷ [])
    ∙ ap {B = List KeptReader} (λ o. map reader_of rs ++ record { name = string_bytes r.name; pin = o } ∷ []) p

pub returns : goal.returns
returns g c s st =
    let n = string_bytes c.args.name in
    let inside = subst (λ (h : EngineModel). StandsFor h s) (sym c.self.view_is) st in
    let within = subst (λ (h : EngineModel). IsWithin h (OpenReader n)) (sym c.self.view_is) c.requires.within in
    subst (λ (rs : List KeptReader). Does (record {
      tables = c.self.inside.tables;
      store = c.self.inside.store;
      next = c.self.inside.next;
      readers = rs;
    }) (Done OpenedReader None) (step s (OpenReader n)))
    (sym (kept_more c.self.inside.readers.items c.push.new.self.items _ c.in_ok-push.ensures.items _ c.pin-pin.ensures))
    (open_does _ s n inside within)

pub invariant_of-self-2 : goal.invariant_of-self-2
invariant_of-self-2 g c =
    let s : State = c.self.invariant.state in
    let n = string_bytes c.args.name in
    let within = subst (λ (h : EngineModel). IsWithin h (OpenReader n)) (sym c.self.view_is) c.requires.within in
    sound_after _ _ c.self.invariant (OpenReader n) (Done OpenedReader None) tt (λ t e. absurd (cc))
    (subst (λ (rs : List KeptReader). Does (record {
      tables = c.self.inside.tables;
      store = c.self.inside.store;
      next = c.self.inside.next;
      readers = rs;
    }) (Done OpenedReader None) (step s (OpenReader n)))
    (sym (kept_more c.self.inside.readers.items c.push.new.self.items _ c.in_ok-push.ensures.items _ c.pin-pin.ensures))
    (open_does _ s n c.self.invariant.stands within))
