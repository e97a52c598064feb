use Rattle.std.proofs.Common.{◌<◌, ℕ, Bool, ◌∙◌, sym, subst, List, Err, map}
use Rattle.std.specs.List.{list_all}
use Rattle.std.specs.Prelude.{ℤ, IsNone, IsTrue, Option}
use Rattle.std.proofs.lemmas.List.{length-map}
use Rattle.tql_spec.specs.Machine.{CreateTable}
use Rattle.tql_spec.specs.Refusal as spec
use Rattle.tql_store.specs.Represents.{AddsTable}
use Rattle.tql_catalog.specs.Tables.{can_have, definitions_of, Tells}
use Rattle.tql_catalog.specs.declared.catalog.Table.{Table}
use Rattle.tql_bound.specs.Bounds.{IsSoundTable}
use Rattle.tql_engine_state.specs.Allowed.{IsUnread}
use Rattle.tql_engine_state.specs.Readers.{reader_of}
use Rattle.tql_engine_state.specs.Stands.{EngineModel, StandsFor}
use Rattle.tql_engine_state.proofs.Creating.{no_fault, made_law, free_number, there_now, given_up_law}
use Rattle.tql_engine_state.proofs.Doing.{create_does}
use Rattle.tql_engine_state.proofs.Typed.{sound_after}
use Rattle.tql_engine_step.proofs.engine.Engine.add_table.Goals as goal

pub add_table-requires : goal.add_table-requires
add_table-requires g c =
    let sound = subst (λ (h : EngineModel). IsSoundTable (definitions_of h.tables) c.args.definition)
    (sym c.self.view_is)
    c.requires.sound in
    subst (λ (n : ℕ). n < 1000) (length-map c.self.inside.tables (λ (t : Table). t.definition)
    ∙ sym c.self.invariant.stands.count) sound.room

pub create-requires-clause-free : goal.create-requires-clause-free
create-requires-clause-free g c =
    let table : Table = record { definition = c.args.definition; id = c.in_ok-id.id } in
    free_number c.self.inside.store c.add_table.new.self table
    (subst (λ (b : Bool). AddsTable b c.in_ok-id.id c.self.inside.store c.add_table.new.self)
    c.is_versioned.ensures.versioned c.in_ok-id.ensures.ok) c.self.inside.tables c.self.invariant.stands.placed

pub create-requires-clause-parents : goal.create-requires-clause-parents
create-requires-clause-parents g c =
    subst (λ (h : EngineModel). IsTrue (list_all (can_have (definitions_of h.tables)) c.args.definition.references))
    (sym c.self.view_is) c.requires.parents

pub drop_table-requires-clause-closed : goal.drop_table-requires-clause-closed
drop_table-requires-clause-closed g c =
    subst (λ (o : Option ℤ). IsNone o) (sym c.in_ok-id.ensures.ok.working)
    (subst (λ (h : EngineModel). IsNone h.store.working) (sym c.self.view_is) c.requires.closed)

pub drop_table-requires-clause-present : goal.drop_table-requires-clause-present
drop_table-requires-clause-present g c =
    let table : Table = record { definition = c.args.definition; id = c.in_ok-id.id } in
    there_now c.self.inside.store c.add_table.new.self table
    (subst (λ (b : Bool). AddsTable b c.in_ok-id.id c.self.inside.store c.add_table.new.self)
    c.is_versioned.ensures.versioned c.in_ok-id.ensures.ok)

pub invariant_of-self-in-Ok : goal.invariant_of-self-in-Ok
invariant_of-self-in-Ok g c =
    let d = c.args.definition in
    let table : Table = record { definition = d; id = c.in_ok-id.id } in
    let closed = subst (λ (h : EngineModel). IsNone h.store.working) (sym c.self.view_is) c.requires.closed in
    let unread = subst IsUnread (sym c.self.view_is) c.requires.unread in
    sound_after _ _ c.self.invariant (CreateTable d) _ c.requires.typed (λ t e. absurd (cc))
    (create_does _ _ c.self.invariant.state d c.self.invariant.stands closed unread
    (made_law c.self.invariant.state c.self.inside.tables _ table c.self.inside.store _ _ _ _ c.self.invariant.stands
    closed unread c.is_versioned.ensures.right c.requires.sound.narrow c.in_ok-id.ensures.ok c.in_ok-id.ensures.copies
    c.is_versioned.ensures.versioned c.in-Ok.ensures.created))

pub invariant_of-self-in-Err : goal.invariant_of-self-in-Err
invariant_of-self-in-Err g c =
    let d = c.args.definition in
    let table : Table = record { definition = d; id = c.in_ok-id.id } in
    let adds = subst (λ (b : Bool). AddsTable b c.in_ok-id.id c.self.inside.store c.add_table.new.self)
    c.is_versioned.ensures.versioned c.in_ok-id.ensures.ok in
    record {
      state = c.self.invariant.state;
      stands = subst (λ (ts : List Table). StandsFor (record {
        tables = ts;
        store = c.drop_table.new.self;
        next = c.self.inside.next;
        readers = map reader_of c.self.inside.readers.items;
      }) c.self.invariant.state) (sym c.in-Err.ensures.kept)
          (given_up_law c.self.inside.store c.add_table.new.self c.drop_table.new.self table adds
          c.drop_table.ensures.places c.drop_table.ensures.count c.drop_table.ensures.working
          c.drop_table.ensures.horizon c.drop_table.ensures.copies c.self.invariant.state c.self.inside.tables
          c.self.inside.next _
          c.self.invariant.stands c.in_ok-id.ensures.copies);
      typed = c.self.invariant.typed;
      holds = c.self.invariant.holds;
    }

pub returns-in-Ok-clause-ok : goal.returns-in-Ok-clause-ok
returns-in-Ok-clause-ok g c s st =
    let d = c.args.definition in
    let table : Table = record { definition = d; id = c.in_ok-id.id } in
    made_law s c.self.inside.tables _ table c.self.inside.store _ _ _ _
    (subst (λ (h : EngineModel). StandsFor h s) (sym c.self.view_is) st)
    (subst (λ (h : EngineModel). IsNone h.store.working)
    (sym c.self.view_is) c.requires.closed) (subst IsUnread (sym c.self.view_is) c.requires.unread)
    c.is_versioned.ensures.right
    c.requires.sound.narrow c.in_ok-id.ensures.ok c.in_ok-id.ensures.copies
    c.is_versioned.ensures.versioned c.in-Ok.ensures.created

pub returns-in-Err-clause-err : goal.returns-in-Err-clause-err
returns-in-Err-clause-err g c s st =
    let d = c.args.definition in
    let table : Table = record { definition = d; id = c.in_ok-id.id } in
    let adds = subst (λ (b : Bool). AddsTable b c.in_ok-id.id c.self.inside.store c.add_table.new.self)
    c.is_versioned.ensures.versioned c.in_ok-id.ensures.ok in
    subst (λ (ts : List Table). StandsFor (record {
      tables = ts;
      store = c.drop_table.new.self;
      next = c.self.inside.next;
      readers = map reader_of c.self.inside.readers.items;
    }) s) (sym c.in-Err.ensures.kept)
    (given_up_law c.self.inside.store c.add_table.new.self c.drop_table.new.self table adds
    c.drop_table.ensures.places c.drop_table.ensures.count c.drop_table.ensures.working c.drop_table.ensures.horizon
    c.drop_table.ensures.copies s
    c.self.inside.tables c.self.inside.next _ (subst (λ (h : EngineModel). StandsFor h s) (sym c.self.view_is) st)
    c.in_ok-id.ensures.copies)

pub returns-in-Err-clause-memory : goal.returns-in-Err-clause-memory
returns-in-Err-clause-memory g c =
    let sound = subst (λ (h : EngineModel). IsSoundTable (definitions_of h.tables) c.args.definition)
    (sym c.self.view_is)
    c.requires.sound in
    subst (λ (o : Option spec.Refusal). Tells {A = Unit {0}} o (Err c.in-Err.refusal))
    (no_fault (definitions_of c.self.inside.tables) c.args.definition sound) c.in-Err.ensures.told
