-- An engine with a new table, and one whose new table was given up.
use Rattle.std.proofs.Common.{◌≡◌, ◌≢◌, ◌<◌, ℕ, ◌+◌, Bool, true, false, List, [], ◌∷◌, ◌++◌, length, refl, sym, ap}
use Rattle.std.proofs.Common.{subst, ◌∙◌, arith, None}
use Rattle.std.specs.Prelude.{ℤ, nat_eq, nat_le, is_some, IsNone, IsTrue, if◌then◌else◌}
use Rattle.std.proofs.lemmas.Bool.Decides.{nat_tests}
use Rattle.std.proofs.lemmas.List.Elements.{All-nil, All-cons, All-head, All-tail}
use Rattle.tql_spec.proofs.Members.{by_bool}
use Rattle.tql_spec.specs.Refusal.{TableUnknownOrAlreadyThere, TooManyTablesOrReaders, first, fault_if}
use Rattle.tql_spec.specs.Definition.{TableDef}
use Rattle.tql_spec.specs.History.{Copy, Entry}
use Rattle.tql_spec.specs.Machine.{State, with_table}
use Rattle.tql_store.specs.StoreModel.{StoreModel, has_table, table_count}
use Rattle.tql_store.specs.TableSlots.{is_kept, is_taken, slot_at, place_for}
use Rattle.tql_store.specs.Changes.{emptied}
use Rattle.tql_store.specs.Represents.{Takes, AddsTable, AddKeepsCopies, DropEmpties, copies_without}
use Rattle.tql_store.specs.declared.tables.TableSlot.TheVariants.{Free}
use Rattle.tql_catalog.specs.Defined.{IsDefinition}
use Rattle.tql_catalog.specs.Tables.{IsFree, creation_faults}
use Rattle.tql_catalog.specs.declared.catalog.Table.{Table}
use Rattle.tql_bound.specs.Bounds.{IsSoundTable}
use Rattle.tql_engine_state.specs.Fitting.{IsNarrow}
use Rattle.tql_engine_state.specs.Stands.{StandsFor, ArePlaced, rows_of_id, copies_of, working_of}
use Rattle.tql_engine_state.proofs.Copies.{passed, same_copies}
use Rattle.tql_engine_state.proofs.CreateKeeps.{create_law, other_number, new_kept}
use Rattle.std.proofs.Common.{true}
use Rattle.std.specs.List.{list_all}
use Rattle.tql_spec.specs.Binding.{bind}
use Rattle.tql_spec.specs.Creation.{create}
use Rattle.tql_spec.specs.Machine.{CreateTable}
use Rattle.tql_spec.specs.Syntax.{Statement, CreateTree, DropTree, InsertValues, InsertSelect, UpdateTree, DeleteTree}
use Rattle.tql_spec.specs.Syntax.{QueryTree, StartTree, CommitTree, RollbackTree, AtTree}
use Rattle.tql_spec.proofs.RunKeeps.{no_left}
use Rattle.tql_bind_table.proofs.ParentLaws.{parents_there as keys_there}
use Rattle.tql_catalog.specs.Tables.{can_have}
use Rattle.tql_spec.specs.Syntax.{PruneTree, OpenTree, ReadTree, CloseTree}
use Rattle.tql_engine_state.specs.Readers.{KeptReader}

-- the existing tables cause no fault for a table that is bound
few : (n : ℕ) → n < 1000 → nat_le 1000 n ≡ false
few n h = grind (arith, nat_tests)

pub no_fault : (defs : List TableDef) (d : TableDef) → IsSoundTable defs d → first (creation_faults defs d.name) ≡ None
no_fault defs d k = λ i. first
    (fault_if (is_some (k.free i)) TableUnknownOrAlreadyThere ++ fault_if (few (length defs) k.room i)
    TooManyTablesOrReaders)

-- ---- a table that is created

-- the engine with the new table represents the state with it
pub made_law : (s : State) (tables more : List Table) (table : Table) (old new : StoreModel) (next : ℤ)
    (readers : List KeptReader) (versioned : Bool)
    → StandsFor (record { tables = tables; store = old; next = next; readers = readers }) s → IsNone old.working
    → readers ≡ [] → IsDefinition table.definition → IsNarrow table.definition
    → AddsTable versioned table.id old new → AddKeepsCopies old new → versioned ≡ is_some table.definition.system
    → more ≡ tables ++ table ∷ []
    → StandsFor (record { tables = more; store = new; next = next; readers = readers }) (with_table table.definition s)
made_law s tables more table old new next readers versioned st closed unread right few adds keeps same e =
    subst (λ (ts : List Table). StandsFor (record {
      tables = ts;
      store = new;
      next = next;
      readers = readers;
    }) (with_table table.definition s)) (sym e)
    (create_law (record {
      tables = tables;
      store = old;
      next = next;
      readers = readers;
    }) s table new st closed unread right few (subst (λ (b : Bool). AddsTable b table.id old new) same adds) keeps)

-- ---- an id that the store has given out

module _ (old mid : StoreModel) (q : Table) (a : AddsTable (is_some q.definition.system) q.id old mid) where
  -- no other table has it
  pub free_number : (ps : List Table) → ArePlaced old ps → IsFree q.id ps
  free_number [] k = All-nil _
  free_number (p ∷ ps) k =
      All-cons (λ (t : Table). t.id ≢ q.id) p ps (differs p.id q.id (other_number old mid q a p k.1.there))
      (free_number ps k.2)
    where
      differs : (n m : ℕ) → nat_eq n m ≡ false → n ≢ m
      differs n m e f = grind (arith, nat_tests)

  -- the table exists now
  pub there_now : IsTrue (has_table mid q.id)
  there_now = (new_kept old mid q a).there

-- ---- a table that is given up

no_rows : (ps : List Table) (id : ℕ) → IsFree id ps → (copy : Copy) → rows_of_id ps copy id ≡ []
no_rows [] id f copy = refl
no_rows (p ∷ ps) id f [] = refl
no_rows (p ∷ ps) id f (rows ∷ copy) =
    passed (nat_eq p.id id) rows (rows_of_id ps copy id) (apart p.id id (All-head (λ (t : Table). t.id ≢ id) p ps f))
    ∙ no_rows ps id (All-tail (λ (t : Table). t.id ≢ id) p ps f) copy
  where
    apart : (n m : ℕ) → n ≢ m → nat_eq n m ≡ false
    apart n m e = grind (arith, nat_tests)

none_emptied : (ps : List Table) (id : ℕ) → IsFree id ps → (es : List Entry)
    → emptied (copies_of ps es id) ≡ copies_of ps es id
none_emptied ps id f [] = refl
none_emptied ps id f (e ∷ older) = λ i. record {
  moment = e.moment;
  rows = sym (no_rows ps id f e.copy) i;
} ∷ none_emptied ps id f older i

without_none : (ps : List Table) (id : ℕ) → IsFree id ps → (es : List Entry) (u : ℕ)
    → copies_without id (copies_of ps es) u ≡ copies_of ps es u
without_none ps id f es u = by_bool (nat_eq u id)
    (λ b. ap (λ (c : Bool). if c then emptied (copies_of ps es u) else copies_of ps es u) b
    ∙ subst (λ (n : ℕ). emptied (copies_of ps es n) ≡ copies_of ps es n) (the_same u id b) (none_emptied ps id f es))
    (λ b. passed (nat_eq u id) (emptied (copies_of ps es u)) (copies_of ps es u) b)
  where
    the_same : (n m : ℕ) → nat_eq n m ≡ true → m ≡ n
    the_same n m e = grind (arith, nat_tests)

-- the new table is dropped from the store
module _ (old mid new : StoreModel) (q : Table) (a : AddsTable (is_some q.definition.system) q.id old mid)
    (places : Takes q.id Free mid.tables new.tables) (count : table_count new + 1 ≡ table_count mid)
    (working_same : new.working ≡ mid.working) (horizon_same : new.horizon ≡ mid.horizon)
    (copies : DropEmpties q.id mid new) where
  same_place : (p : Table) → IsTrue (has_table old p.id) → slot_at new.tables p.id ≡ slot_at old.tables p.id
  same_place p there =
      let other : nat_eq p.id q.id ≡ false = other_number old mid q a p there in
      places.places p.id ∙ passed (nat_eq p.id q.id) Free (slot_at mid.tables p.id) other
      ∙ a.takes.places p.id
      ∙ passed (nat_eq p.id q.id) (place_for (is_some q.definition.system)) (slot_at old.tables p.id) other

  placed_still : (ps : List Table) → ArePlaced old ps → ArePlaced new ps
  placed_still [] k = tt
  placed_still (p ∷ ps) k = (
    k.0,
    record {
      there = ap is_taken (same_place p k.1.there) ∙ k.1.there;
      versioned = ap is_kept (same_place p k.1.there) ∙ k.1.versioned;
    },
    placed_still ps k.2,
  )

  less : (n m k : ℕ) → n + 1 ≡ m → m ≡ k + 1 → n ≡ k
  less n m k e f = omega arith

  -- the engine represents the state as it was
  pub given_up_law : (s : State) (tables : List Table) (next : ℤ) (readers : List KeptReader)
      → StandsFor (record { tables = tables; store = old; next = next; readers = readers }) s → AddKeepsCopies old mid
      → StandsFor (record { tables = tables; store = new; next = next; readers = readers }) s
  given_up_law s tables next readers f keeps =
      let working = working_of tables s.transaction in
      record {
        fits = f.fits;
        clock = f.clock;
        horizon = horizon_same ∙ a.horizon ∙ f.horizon;
        not_before = f.not_before;
        not_after = f.not_after;
        falls = f.falls;
        since = f.since;
        opened = working_same ∙ a.working ∙ f.opened;
        dated = f.dated;
        stands = same_copies new (copies_without q.id (copies_of tables s.history)) (copies_of tables s.history) working
            (without_none tables q.id (free_number old mid q a tables f.placed) s.history)
            (copies (copies_of tables s.history) working (keeps (copies_of tables s.history) working f.stands));
        placed = placed_still tables f.placed;
        count = less (table_count new) (table_count mid) (table_count old) count a.count ∙ f.count;
        readers = f.readers;
      }

-- ---- references of a new table

same_table : (d e : TableDef) → CreateTable d ≡ CreateTable e → d ≡ e
same_table d e k = cc

-- each is to a key of an existing table
pub parents_there : (defs : List TableDef) (t : Statement) (d : TableDef) → (bind defs t).faults ≡ []
    → (bind defs t).value ≡ CreateTable d → list_all (can_have defs) d.references ≡ true
parents_there defs (CreateTree n e es v) d h k =
    let made = create defs n (e ∷ es) v in
    ap (λ (x : TableDef). list_all (can_have defs) x.references) (sym (same_table made.value d k))
    ∙ keys_there defs n (e ∷ es) v (ap first (no_left made.faults [] h))
parents_there defs (DropTree n) d h k = absurd (cc)
parents_there defs (InsertValues n ns x ts) d h k = absurd (cc)
parents_there defs (InsertSelect n ns s) d h k = absurd (cc)
parents_there defs (UpdateTree n p s ss c) d h k = absurd (cc)
parents_there defs (DeleteTree n p c) d h k = absurd (cc)
parents_there defs (QueryTree s keys) d h k = absurd (cc)
parents_there defs StartTree d h k = absurd (cc)
parents_there defs CommitTree d h k = absurd (cc)
parents_there defs RollbackTree d h k = absurd (cc)
parents_there defs (AtTree m) d h k = absurd (cc)
parents_there defs (PruneTree m) d h k = absurd (cc)
parents_there defs (OpenTree n) d h k = absurd (cc)
parents_there defs (ReadTree n s keys) d h k = absurd (cc)
parents_there defs (CloseTree n) d h k = absurd (cc)
