-- The faults of the transaction and the clock, from the state of the engine.
use Rattle.std.proofs.Common.{◌≡◌, refl, sym, ap, ◌∙◌, Bool, true, false, Option, Some, None, List, ◌∷◌, ◌++◌}
use Rattle.std.proofs.Common.{arith, subst, [], map, length, ℕ, suc}
use Rattle.std.specs.Prelude.{ℤ, ◌&&◌, ◌<ℤ◌, ◌≤ℤ◌, not, int_le, int_lt, is_some, is_none, nat_lt}
use Rattle.std.specs.List.{list_any}
use Rattle.std.proofs.lemmas.Int.{ints}
use Rattle.std.proofs.lemmas.Bool.Decides.{nat_tests}
use Rattle.tql_spec.specs.Calendar.{high}
use Rattle.tql_spec.specs.Refusal.{Refusal, NotInThisTransactionState, MomentNotAllowed, first, fault_if}
use Rattle.tql_spec.specs.Refusal.{BeforeTheHorizon, ReadersAreOpen}
use Rattle.tql_spec.specs.Horizon.{asks_before}
use Rattle.tql_spec.specs.Query.{Query}
use Rattle.tql_spec.specs.Machine.{Bound, Defines, State, state_faults, class_of, is_clock_at_end, limit_faults}
use Rattle.tql_spec.specs.Machine.{bound_faults, limits_of, query_faults}
use Rattle.tql_spec.specs.Readers.{Reader, is_any_open, names_of, passes_some}
use Rattle.tql_bound.specs.Queries.{bound_query_of}
use Rattle.tql_bound.specs.Bounds.{bound_of}
use Rattle.tql_bound.specs.declared.bound.Bound as code
use Rattle.tql_bound.specs.declared.bound.Bound.TheVariants as b
use Rattle.tql_catalog.specs.Tables.{definitions_of}
use Rattle.tql_engine_state.specs.Allowed.{IsIdle, IsUnread, HasTimeLeft, AsksWithin, IsAllowed, limits_held}
use Rattle.tql_engine_state.specs.Effects.{asked_first}
use Rattle.tql_engine_state.specs.Readers.{KeptReader, is_passed, told}
use Rattle.tql_engine_state.specs.Stands.{EngineModel, StandsFor}
use Rattle.tql_engine_state.proofs.ReadersKeep.{names_told, none_open, some_passed}
use Rattle.tql_engine_state.proofs.Standing.{open_law}

none_is : {A : Type 0} (o : Option A) → is_none o ≡ not (is_some o)
none_is None = refl
none_is (Some x) = refl

-- no transaction is open
pub closed_is : (h : EngineModel) (s : State) → StandsFor h s → is_none s.transaction ≡ not (is_some h.store.working)
closed_is h s st = none_is s.transaction ∙ ap not (open_law h s st)

-- the clock is at its end
pub end_is : (h : EngineModel) (s : State) → StandsFor h s → is_clock_at_end s ≡ int_le high h.next
end_is h s st = ap (int_le high) (sym st.clock)

-- ---- without a fault

no_fault : (t : Bool) (e : Refusal) → first (fault_if t e) ≡ None → t ≡ false
no_fault true e k = absurd cc
no_fault false e k = refl

no_faults : (t u : Bool) (e f : Refusal) → first (fault_if t e ++ fault_if u f) ≡ None → (t ≡ false) × (u ≡ false)
no_faults true u e f k = absurd cc
no_faults false true e f k = absurd cc
no_faults false false e f k = (refl, refl)

-- ---- readers

-- the engine keeps as many readers as are open in the model
pub unread_is : (h : EngineModel) (s : State) → StandsFor h s → is_any_open s.readers ≡ nat_lt 0 (length h.readers)
unread_is h s st = by_readers s.readers ∙ ap (λ (ks : List KeptReader). nat_lt 0 (length ks)) (sym st.readers.same)
  where
    some : (n : ℕ) → true ≡ nat_lt 0 (suc n)
    some n = grind (arith, nat_tests)

    by_readers : (rs : List Reader) → is_any_open rs ≡ nat_lt 0 (length (map told rs))
    by_readers [] = refl
    by_readers (r ∷ rs) = some (length (map told rs))

pub passed_is : (h : EngineModel) (s : State) (m : ℤ) → StandsFor h s
    → passes_some m s.readers ≡ list_any (λ (k : KeptReader). is_passed m k.pin) h.readers
passed_is h s m st =
    some_passed m s.readers ∙ ap (list_any (λ (k : KeptReader). is_passed m k.pin)) (sym st.readers.same)

-- their names are those of the model's readers
pub names_same : (h : EngineModel) (s : State) → StandsFor h s
    → names_of s.readers ≡ map (λ (k : KeptReader). k.name) h.readers
names_same h s st = sym (names_told s.readers) ∙ ap (map (λ (k : KeptReader). k.name)) (sym st.readers.same)

-- so the limits are the same
pub limits_same : (h : EngineModel) (s : State) → StandsFor h s → limits_of s ≡ limits_held h
limits_same h s st = λ i. record { horizon = sym st.horizon i; names = names_same h s st i }

pub faults_held : (h : EngineModel) (s : State) (x : Bound) → StandsFor h s
    → limit_faults s x ≡ bound_faults (limits_held h) (definitions_of h.tables) x
faults_held h s x st = λ i. bound_faults (limits_same h s st i) (st.fits.definitions i) x

idle : (h : EngineModel) (s : State) → StandsFor h s → is_some s.transaction ≡ false → IsIdle h
idle h s st k = sym (open_law h s st) ∙ k

-- no reader is open
unread : (h : EngineModel) (s : State) → StandsFor h s → is_any_open s.readers ≡ false → IsUnread h
unread h s st k = st.readers.same ∙ none_open s.readers k

-- no transaction and no reader is open
undefined : (h : EngineModel) (s : State) → StandsFor h s → first (state_faults s Defines) ≡ None
    → IsIdle h × IsUnread h
undefined h s st k =
    let both = no_faults (is_some s.transaction) (is_any_open s.readers) NotInThisTransactionState ReadersAreOpen k in
    (idle h s st both.0, unread h s st both.1)

before : (n : ℤ) → int_le high n ≡ false → n <ℤ high
before n e = grind (arith, ints, e)

has_moment : (h : EngineModel) (s : State) → StandsFor h s → is_clock_at_end s ≡ false → HasTimeLeft h
has_moment h s st k = before h.next (sym (end_is h s st) ∙ k)

second : (t u : Bool) → t && u ≡ false → t ≡ true → u ≡ false
second true u k e = k
second false u k e = absurd cc

dated : (h : EngineModel) (s : State) → StandsFor h s
    → first (fault_if (is_none s.transaction && is_clock_at_end s) MomentNotAllowed) ≡ None → IsIdle h → HasTimeLeft h
dated h s st k i =
    has_moment h s st (second (is_none s.transaction) (is_clock_at_end s)
    (no_fault (is_none s.transaction && is_clock_at_end s) MomentNotAllowed k) (closed_is h s st ∙ ap not i))

-- no reference of the query reads moments before the store's horizon
asks_within : (h : EngineModel) (s : State) (q : Query) → StandsFor h s → query_faults s.horizon q ≡ []
    → AsksWithin h q
asks_within h s q st l =
    ap (λ (n : ℤ). asks_before n q) st.horizon
    ∙ no_fault (asks_before s.horizon q) BeforeTheHorizon (ap first l)

-- the horizon does not move back
not_back : (m n : ℤ) → int_lt m n ≡ false → n ≤ℤ m
not_back m n e = grind (arith, ints, e)

-- the transaction, the clock and the horizon allow the bound statement
pub allowed_law : (h : EngineModel) (s : State) (x : code.Bound) → StandsFor h s
    → first (state_faults s (asked_first (class_of (bound_of x)))) ≡ None → limit_faults s (bound_of x) ≡ []
    → IsAllowed h x
allowed_law h s (b.CreateTable d) st k l = undefined h s st k
allowed_law h s (b.DropTable t) st k l = undefined h s st k
allowed_law h s (b.Insert x) st k l = dated h s st k
allowed_law h s (b.InsertFrom x) st k l = (dated h s st k, asks_within h s (bound_query_of x.query) st l)
allowed_law h s (b.Modify x) st k l = dated h s st k
allowed_law h s (b.AnswerQuery q) st k l = asks_within h s (bound_query_of q) st l
allowed_law h s (b.SetClock m) st k l = idle h s st (no_fault (is_some s.transaction) NotInThisTransactionState k)
allowed_law h s (b.Prune m) st k l =
    let both = no_faults (is_some s.transaction) (passes_some m s.readers) NotInThisTransactionState ReadersAreOpen k
    in (
      idle h s st both.0,
      subst (λ (n : ℤ). n ≤ℤ m) (sym st.horizon)
          (not_back m s.horizon (no_fault (int_lt m s.horizon) BeforeTheHorizon (ap first l))),
      sym (passed_is h s m st) ∙ both.1,
    )
allowed_law h s (b.OpenReader n) st k l = sym (faults_held h s (bound_of (b.OpenReader n)) st) ∙ l
allowed_law h s (b.Read x) st k l = sym (faults_held h s (bound_of (b.Read x)) st) ∙ l
allowed_law h s (b.CloseReader n) st k l = sym (faults_held h s (bound_of (b.CloseReader n)) st) ∙ l
allowed_law h s b.Start st k l =
    let both = no_faults (is_some s.transaction) (is_clock_at_end s) NotInThisTransactionState MomentNotAllowed k in
    (idle h s st both.0, has_moment h s st both.1)
allowed_law h s b.Commit st k l = tt
allowed_law h s b.Rollback st k l = tt
