use Rattle.std.proofs.Common.{◌≡◌, ◌<◌, ℕ, false, length, sym, subst, Bool}
use Rattle.std.specs.Prelude.{IsNone}
use Rattle.tql_spec.specs.Binding.{is_referenced}
use Rattle.tql_spec.specs.Definition.{table_at}
use Rattle.tql_spec.specs.Machine.{State, DropTable}
use Rattle.tql_spec.specs.Refusal.{TableIsReferenced, fault_if, first}
use Rattle.std.specs.Prelude.{Err}
use Rattle.tql_catalog.specs.declared.catalog.Table.{Table}
use Rattle.tql_catalog.specs.Tables.{definitions_of, Refuses}
use Rattle.tql_engine_state.specs.Dropping.{IsDropped}
use Rattle.tql_engine_state.specs.Allowed.{IsUnread}
use Rattle.tql_engine_state.specs.Stands.{EngineModel, StandsFor}
use Rattle.tql_engine_state.proofs.Holding.{name_there}
use Rattle.tql_engine_state.proofs.Standing.{place_law, there_law}
use Rattle.tql_engine_state.proofs.DropKeeps.{drop_law}
use Rattle.tql_engine_state.proofs.Doing.{drop_does}
use Rattle.tql_engine_state.proofs.Typed.{sound_after}
use Rattle.tql_engine_step.proofs.engine.Engine.drop_table.Goals as goal

the_place : (i t : ℕ) → DropTable i ≡ DropTable t → i ≡ t
the_place i t e = cc

pub drop_at-requires : goal.drop_at-requires
drop_at-requires g c =
    subst (λ (h : EngineModel). c.args.place < length h.tables) (sym c.self.view_is)
    (place_law c.args.self.now.tables c.args.place c.requires.there)

pub unreachable-requires : goal.unreachable-requires
unreachable-requires g c =
    let defs = definitions_of c.self.inside.tables in
    let k : IsDropped defs c.args.place =
    subst (λ (h : EngineModel). IsDropped (definitions_of h.tables) c.args.place) (sym c.self.view_is)
    c.requires.dropped in
    let free : is_referenced (table_at defs c.args.place).name defs ≡ false =
    subst (λ n. is_referenced n defs ≡ false) (name_there defs c.args.place k.name k.there) k.free in
    subst (λ (b : Bool). Refuses {A = Table} (first (fault_if b TableIsReferenced)) (Err c.in_default.field-0)) free
    c.in_default.ensures.told

pub drop_table-requires-clause-closed : goal.drop_table-requires-clause-closed
drop_table-requires-clause-closed g c =
    subst (λ (h : EngineModel). IsNone h.store.working) (sym c.self.view_is) c.requires.closed

pub drop_table-requires-clause-present : goal.drop_table-requires-clause-present
drop_table-requires-clause-present g c =
    there_law _ c.self.invariant.state c.args.place c.in-Ok.table c.self.invariant.stands c.in-Ok.ensures.taken

pub invariant_of-self : goal.invariant_of-self
invariant_of-self g c =
    let s : State = c.self.invariant.state in
    let closed = subst (λ (h : EngineModel). IsNone h.store.working) (sym c.self.view_is) c.requires.closed in
    let unread = subst IsUnread (sym c.self.view_is) c.requires.unread in
    sound_after _ _ c.self.invariant (DropTable c.args.place) _ tt
    (λ t e. subst (IsDropped (definitions_of c.self.inside.tables)) (the_place c.args.place t e)
    (subst (λ (h : EngineModel). IsDropped (definitions_of h.tables) c.args.place) (sym c.self.view_is)
    c.requires.dropped))
    (drop_does _ _ s c.args.place c.self.invariant.stands closed unread
    (drop_law _ s c.args.place c.in-Ok.table _ _ c.self.invariant.stands closed unread c.in-Ok.ensures.taken
    c.in-Ok.ensures.others
    c.drop_table.ensures.places c.drop_table.ensures.count c.drop_table.ensures.working c.drop_table.ensures.horizon
    c.drop_table.ensures.copies))

pub returns : goal.returns
returns g c s st =
    let inside = subst (λ (h : EngineModel). StandsFor h s) (sym c.self.view_is) st in
    let closed = subst (λ (h : EngineModel). IsNone h.store.working) (sym c.self.view_is) c.requires.closed in
    let unread = subst IsUnread (sym c.self.view_is) c.requires.unread in
    drop_does _ _ s c.args.place inside closed unread
    (drop_law _ s c.args.place c.in-Ok.table _ _ inside closed unread c.in-Ok.ensures.taken c.in-Ok.ensures.others
    c.drop_table.ensures.places c.drop_table.ensures.count c.drop_table.ensures.working c.drop_table.ensures.horizon
    c.drop_table.ensures.copies)
