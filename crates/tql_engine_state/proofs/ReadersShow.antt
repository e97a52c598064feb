-- What a store shows at the pin of a reader: the copies that the reader set aside, answered from the history.
use Rattle.std.proofs.Common.{◌≡◌, refl, sym, ap, subst, ◌∙◌, ℕ, zero, suc, Bool, true, false, List, [], ◌∷◌, ◌++◌, map}
use Rattle.std.proofs.Common.{Option, Some, None, inr}
use Rattle.std.specs.Prelude.{ℤ, ◌||◌, not, int_le, is_none, is_some, if◌then◌else◌, IsTrue}
use Rattle.tql_spec.specs.Bag.{In}
use Rattle.tql_spec.specs.Definition.{Name, TableDef, full, table_at}
use Rattle.tql_spec.specs.History.{Entry}
use Rattle.tql_spec.specs.Horizon.{asks_before, is_before, refs}
use Rattle.tql_spec.specs.Machine.{State, Read, bag_in, bag_of, bound_faults, query_faults}
use Rattle.tql_spec.specs.Query.{Query, Ref, answer}
use Rattle.tql_spec.specs.ReaderLaws.{ReadsTheHistory, not_after, pin, until_pin}
use Rattle.tql_spec.specs.Readers.{Limits, Reader, is_live, is_named, pinned_of, reads_plain}
use Rattle.tql_spec.specs.Refusal.{BeforeTheHorizon, ReaderNotUsable, fault_if}
use Rattle.tql_spec.specs.Typing.{IsTypedState}
use Rattle.tql_spec.specs.Words.{listed}
use Rattle.tql_spec.proofs.Horizons.{answer_same, none_asks}
use Rattle.tql_spec.proofs.InOrder.{no_fault}
use Rattle.tql_spec.proofs.MemberLists.{in_map, in_right}
use Rattle.tql_spec.proofs.RunKeeps.{no_left, no_right}
use Rattle.tql_bound.specs.Placed.{IsPlacedQuery}
use Rattle.tql_catalog.specs.Tables.{definitions_of}
use Rattle.tql_catalog.specs.declared.catalog.Table.{Table}
use Rattle.tql_plan.specs.Meaning.{table_number_at}
use Rattle.tql_store.specs.Changes.{emptied}
use Rattle.tql_store.specs.Pinned as store
use Rattle.tql_store.specs.Pinned.{PinCopies, copies_until, pinned, slot_pinned}
use Rattle.tql_store.specs.StoreModel.{StoreModel, has_table, is_versioned}
use Rattle.tql_store.specs.TableSlots.{is_kept, is_taken, slot_at}
use Rattle.tql_store.specs.declared.tables.TableSlot.{TableSlot}
use Rattle.tql_store.specs.declared.tables.TableSlot.TheVariants.{Free, Versioned, Unversioned}
use Rattle.tql_engine_state.specs.Allowed.{AsksWithin, IsWithin, limits_held}
use Rattle.tql_engine_state.specs.Readers.{pin_of}
use Rattle.tql_engine_state.specs.Showing.{CanAnswer, EntriesFit, FitsTables, Shows}
use Rattle.tql_engine_state.specs.Stands.{EngineModel, StandsFor, copies_of, working_of}
use Rattle.tql_engine_state.proofs.Asked.{past_fit, shows_now}
use Rattle.tql_engine_state.proofs.Copies.{chosen, history_found}
use Rattle.tql_engine_state.proofs.Finding.{defined_as, number_is, placed_ref, table_there}
use Rattle.tql_engine_state.proofs.ReadersKeep.{HasMoment, pin_named, the_reader}
use Rattle.tql_engine_state.proofs.Standing.{there_law, versioned_law}
use Rattle.tql_engine_state.proofs.StateFaults.{names_same}

-- ---- the state at a pin

-- the state as it was when the commit at the pin was the last one
abbrev pub at_pin : Option ℤ → State → State
at_pin o s = record s { history = until_pin o s.history; transaction = None }

fit_until : (ds : List TableDef) (o : Option ℤ) (es : List Entry) → EntriesFit ds es → EntriesFit ds (until_pin o es)
fit_until ds None es f = tt
fit_until ds (Some p) [] f = tt
fit_until ds (Some p) (e ∷ es) f = either (int_le e.moment p) (fit_until ds (Some p) es f.1.1)
  where
    either : (b : Bool) → EntriesFit ds (not_after p es) → EntriesFit ds (if b then e ∷ es else not_after p es)
    either true g = f
    either false g = g

-- its copies fit
pub fits_pinned : (h : EngineModel) (s : State) → StandsFor h s → (o : Option ℤ) → FitsTables h.tables (at_pin o s)
fits_pinned h s f o = record {
  definitions = f.fits.definitions;
  defined = f.fits.defined;
  copies = fit_until (definitions_of h.tables) o s.history
      (past_fit (definitions_of h.tables) s.next s.history f.not_after f.since f.falls f.fits.rows);
}

in_until : (o : Option ℤ) (es : List Entry) (e : Entry) → In e (until_pin o es) → In e es
in_until None es e i = absurd i
in_until (Some p) [] e i = absurd i
in_until (Some p) (x ∷ es) e i = either (int_le x.moment p) (in_until (Some p) es e) i
  where
    either : (b : Bool) → (In e (not_after p es) → In e es) → In e (if b then x ∷ es else not_after p es)
        → In e (x ∷ es)
    either true k j = j
    either false k j = inr (k j)

-- its values have the types of their columns
typed_pinned : (s : State) (o : Option ℤ) → IsTypedState s → IsTypedState (at_pin o s)
typed_pinned s o t = record {
  definitions = t.definitions;
  copies = λ e i. t.copies e (there e i);
  rows = λ e i. t.rows e (there e i);
  periods = λ e i. t.periods e (there e i);
}
  where
    there : (e : Entry) → In e (until_pin o s.history) → In e (listed s.transaction ++ s.history)
    there e i = in_right e (listed s.transaction) s.history (in_until o s.history e i)

-- ---- the store at a pin

slot_is : (slots : List TableSlot) (t : ℕ) → slot_at (map slot_pinned slots) t ≡ slot_pinned (slot_at slots t)
slot_is [] t = refl
slot_is (x ∷ slots) zero = refl
slot_is (x ∷ slots) (suc t) = slot_is slots t

-- it shows the versioned tables
kept_is : (x : TableSlot) → is_kept (slot_pinned x) ≡ is_kept x
kept_is Free = refl
kept_is Versioned = refl
kept_is Unversioned = refl

taken_is : (x : TableSlot) → is_taken (slot_pinned x) ≡ is_kept x
taken_is Free = refl
taken_is Versioned = refl
taken_is Unversioned = refl

versioned_is : (o : Option ℤ) (r : StoreModel) (t : ℕ) → is_versioned (pinned o r) t ≡ is_versioned r t
versioned_is o r t = ap is_kept (slot_is r.tables t) ∙ kept_is (slot_at r.tables t)

there_is : (o : Option ℤ) (r : StoreModel) (t : ℕ) → has_table (pinned o r) t ≡ is_versioned r t
there_is o r t = ap is_taken (slot_is r.tables t) ∙ taken_is (slot_at r.tables t)

-- the copies up to a pin, by table id
until_copies : (tables : List Table) (o : Option ℤ) (es : List Entry) (id : ℕ)
    → store.until_pin o (copies_of tables es id) ≡ copies_of tables (until_pin o es) id
until_copies tables None es id = refl
until_copies tables (Some p) [] id = refl
until_copies tables (Some p) (e ∷ es) id = either (int_le e.moment p) (until_copies tables (Some p) es id)
  where
    either : (b : Bool)
        → store.not_after p (copies_of tables es id) ≡ copies_of tables (not_after p es) id
        → (if b then copies_of tables (e ∷ es) id else store.not_after p (copies_of tables es id))
        ≡ copies_of tables (if b then e ∷ es else not_after p es) id
    either true k = refl
    either false k = k

is_pin : (tables : List Table) (o : Option ℤ) (es : List Entry) → ((p : ℤ) → o ≡ Some p → HasMoment es p) → (t : ℕ)
    → store.IsPin o (copies_of tables es t)
is_pin tables None es k t = tt
is_pin tables (Some p) es k t =
    let x = k p refl in (_, in_map _ x.0 es x.1, x.2)

-- so the store represents the state at the pin
shows_pinned : (h : EngineModel) (s : State) → StandsFor h s → (o : Option ℤ)
    → ((p : ℤ) → o ≡ Some p → HasMoment s.history p) → PinCopies o h.store (pinned o h.store)
    → Shows h.tables (pinned o h.store) (at_pin o s)
shows_pinned h s f o there pins = record {
  fits = fits_pinned h s f o;
  copies = copies_until o h.store.tables (copies_of h.tables s.history);
  working = working_of h.tables s.transaction;
  stands = pins (copies_of h.tables s.history) (working_of h.tables s.transaction)
      (working_of h.tables s.transaction) (is_pin h.tables o s.history there) f.stands;
  seen = λ t p e taken.
      chosen (is_kept (slot_at h.store.tables p.id)) (store.until_pin o (copies_of h.tables s.history p.id))
      (emptied (store.until_pin o (copies_of h.tables s.history p.id)))
      (sym (there_is o h.store p.id) ∙ taken)
      ∙ until_copies h.tables o s.history p.id
      ∙ history_found h.store h.tables t p f.placed e (until_pin o s.history);
  versioned = λ t p e taken. versioned_is o h.store p.id ∙ versioned_law h s t p f e;
}

-- ---- what is read now

pub can_now : (h : EngineModel) (s : State) (q : Query) → StandsFor h s → IsTypedState s
    → IsPlacedQuery (definitions_of h.tables) q → AsksWithin h q → CanAnswer h.tables h.store q
can_now h s q f typed placed within = record {
  state = s;
  shows = shows_now h s f;
  typed = typed;
  there = λ k i.
      let t = table_there h.tables k.table (placed_ref (definitions_of h.tables) q placed k i).table in
      subst (λ n. IsTrue (has_table h.store n)) (sym (number_is h.tables k.table t.0 t.1))
      (there_law h s k.table t.0 f t.1);
  within = within;
}

-- ---- READ

-- what a READ without a fault of the limits satisfies
record IsUsable (l : Limits) (defs : List TableDef) (n : Name) (q : Query) : Type 0 where
  live : is_named n l.names ≡ true
  versioned : reads_plain defs q ≡ false
  within : asks_before l.horizon q ≡ false

usable : (l : Limits) (defs : List TableDef) (n : Name) (q : Query) → bound_faults l defs (Read n q) ≡ []
    → IsUsable l defs n q
usable l defs n q e =
    let reader = fault_if (not (is_named n l.names) || reads_plain defs q) ReaderNotUsable in
    let both = either (is_named n l.names) (reads_plain defs q)
    (no_fault (not (is_named n l.names) || reads_plain defs q) ReaderNotUsable
    (no_left reader (query_faults l.horizon q) e)) in
    record {
      live = both.0;
      versioned = both.1;
      within = no_fault (asks_before l.horizon q) BeforeTheHorizon (no_right reader (query_faults l.horizon q) e);
    }
  where
    either : (a b : Bool) → not a || b ≡ false → (a ≡ true) × (b ≡ false)
    either true b k = (refl, k)
    either false b k = absurd (cc)

module _ (h : EngineModel) (s : State) (f : StandsFor h s) (n : Name) (q : Query) (w : IsWithin h (Read n q))
    (o : Option ℤ) (named : o ≡ pin_of n h.readers) where
  may : IsUsable (limits_held h) (definitions_of h.tables) n q
  may = usable (limits_held h) (definitions_of h.tables) n q w

  -- the reader of this name
  found : (r : Reader) × In r s.readers × (pinned_of n s.readers ≡ r.pinned)
  found = the_reader n s.readers (ap (is_named n) (names_same h s f) ∙ may.live)

  pin_is : o ≡ pin found.0.pinned
  pin_is = named ∙ ap (pin_of n) f.readers.same ∙ pin_named n s.readers ∙ ap pin found.2

  -- at the reader's pin, a query has the same answer as over the copies that the reader set aside
  pub read_is : answer (bag_of (at_pin o s)) q ≡ answer (bag_in s.definitions (pinned_of n s.readers)) q
  read_is = answer_same (bag_of (at_pin o s)) (bag_in s.definitions (pinned_of n s.readers)) q (λ k i.
      ap (λ (x : Option ℤ). bag_in s.definitions (until_pin x s.history) k) pin_is
      ∙ ap (map (full (table_at s.definitions k.table)))
      ((f.readers.read found.0 found.1).questions k.table k.when
      (none_asks (λ (x : Ref). is_before s.horizon x.when) (refs q)
      (ap (λ (m : ℤ). asks_before m q) (sym f.horizon) ∙ may.within) k i))
      ∙ ap (λ (es : List Entry). bag_in s.definitions es k) (sym found.2))

  module _ (r : StoreModel) (shown : r ≡ pinned o h.store) (pins : PinCopies o h.store r) where
    -- the store at the pin shows these copies
    pub shows_read : Shows h.tables r (at_pin o s)
    shows_read =
        subst (λ (x : StoreModel). Shows h.tables x (at_pin o s)) (sym shown)
        (shows_pinned h s f o (λ p e. (f.readers.read found.0 found.1).kept p (sym pin_is ∙ e))
        (subst (λ (x : StoreModel). PinCopies o h.store x) shown pins))

    pub can_read : IsTypedState s → IsPlacedQuery (definitions_of h.tables) q → CanAnswer h.tables r q
    can_read typed placed = record {
      state = at_pin o s;
      shows = shows_read;
      typed = typed_pinned s o typed;
      there = λ k i.
          let t = table_there h.tables k.table (placed_ref (definitions_of h.tables) q placed k i).table in
          let p : Table = t.0 in
          ap (λ (x : StoreModel). has_table x (table_number_at h.tables k.table)) shown
          ∙ there_is o h.store (table_number_at h.tables k.table)
          ∙ ap (is_versioned h.store) (number_is h.tables k.table p t.1) ∙ versioned_law h s k.table p f t.1
          ∙ ap (λ (d : TableDef). is_some d.system) (sym (defined_as h.tables k.table p t.1))
          ∙ some_by (table_at (definitions_of h.tables) k.table).system
          (none_asks (λ (x : Ref). is_none (table_at (definitions_of h.tables) x.table).system) (refs q) may.versioned
          k i);
      within = ap (λ (x : StoreModel). asks_before x.horizon q) shown ∙ may.within;
    }
      where
        some_by : {A : Type 0} (x : Option A) → is_none x ≡ false → is_some x ≡ true
        some_by None e = absurd (cc)
        some_by (Some y) e = refl
