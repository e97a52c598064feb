use Rattle.std.proofs.Common.{◌∙◌, sym, subst}
use Rattle.std.specs.Prelude.{ℤ, IsNone, ◌≤ℤ◌}
use Rattle.std.proofs.Math.Facts.{to_z-of_z}
use Rattle.tql_spec.specs.Machine.{State, Prune}
use Rattle.tql_store.specs.Represents.{PrunesCopies}
use Rattle.tql_engine_state.specs.Allowed.{PassesNone}
use Rattle.tql_engine_state.specs.Stands.{EngineModel, StandsFor}
use Rattle.tql_engine_state.proofs.Doing.{prune_does}
use Rattle.tql_engine_state.proofs.Pruning.{prune_law}
use Rattle.tql_engine_state.proofs.Typed.{sound_after}
use Rattle.tql_engine_step.proofs.engine.Engine.prune.Goals as goal

pub prune-requires-clause-closed : goal.prune-requires-clause-closed
prune-requires-clause-closed g c =
    subst (λ (h : EngineModel). IsNone h.store.working) (sym c.self.view_is) c.requires.closed

pub prune-requires-clause-later : goal.prune-requires-clause-later
prune-requires-clause-later g c =
    rw (to_z-of_z c.ranges.moment)
    (subst (λ (h : EngineModel). h.store.horizon ≤ℤ c.args.moment) (sym c.self.view_is) c.requires.later)

pub returns : goal.returns
returns g c s st =
    let inside = subst (λ (h : EngineModel). StandsFor h s) (sym c.self.view_is) st in
    let closed = subst (λ (h : EngineModel). IsNone h.store.working) (sym c.self.view_is) c.requires.closed in
    let later = subst (λ (h : EngineModel). h.store.horizon ≤ℤ c.args.moment) (sym c.self.view_is) c.requires.later in
    let copies = subst (λ (m : ℤ). PrunesCopies m c.self.inside.store c.prune.new.self) (to_z-of_z c.ranges.moment)
    c.prune.ensures.copies in
    let passes = subst (λ (h : EngineModel). PassesNone h c.args.moment) (sym c.self.view_is) c.requires.passes in
    prune_does _ s c.args.moment c.prune.new.self inside closed later passes
    (prune_law _ s c.args.moment c.prune.new.self inside later passes copies c.prune.ensures.working
    c.prune.ensures.tables
    (c.prune.ensures.horizon ∙ to_z-of_z c.ranges.moment))

pub invariant_of-self : goal.invariant_of-self
invariant_of-self g c =
    let s : State = c.self.invariant.state in
    let st = c.self.invariant.stands in
    let closed = subst (λ (h : EngineModel). IsNone h.store.working) (sym c.self.view_is) c.requires.closed in
    let later = subst (λ (h : EngineModel). h.store.horizon ≤ℤ c.args.moment) (sym c.self.view_is) c.requires.later in
    let copies = subst (λ (m : ℤ). PrunesCopies m c.self.inside.store c.prune.new.self) (to_z-of_z c.ranges.moment)
    c.prune.ensures.copies in
    let passes = subst (λ (h : EngineModel). PassesNone h c.args.moment) (sym c.self.view_is) c.requires.passes in
    sound_after _ _ c.self.invariant (Prune c.args.moment) _ tt (λ t e. absurd (cc))
    (prune_does _ s c.args.moment c.prune.new.self st closed later passes
    (prune_law _ s c.args.moment c.prune.new.self st later passes copies c.prune.ensures.working c.prune.ensures.tables
    (c.prune.ensures.horizon ∙ to_z-of_z c.ranges.moment)))
