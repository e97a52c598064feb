-- A run without the statements that prune gives the same replies as the run with them.
use Rattle.std.proofs.Common.{◌≡◌, refl, sym, ap, subst, ◌∙◌, ℕ, zero, suc, Bool, true, false, cond, List, [], ◌∷◌}
use Rattle.std.proofs.Common.{◌++◌, map, filter, take, inl, inr, arith, append_assoc}
use Rattle.std.specs.Prelude.{◌⊎◌, ◌||◌, not, nat_le, length, remove, slice_set, ℤ, ◌≤ℤ◌, int_lt, if◌then◌else◌}
use Rattle.std.specs.Prelude.{Option, Some, None, is_some}
use Rattle.std.proofs.lemmas.Int.{ints}
use Rattle.std.proofs.lemmas.List.{take-map}
use Rattle.tql_spec.specs.Words.{listed, same_text}
use Rattle.tql_spec.specs.Limits.{most_readers}
use Rattle.tql_spec.specs.Bag.{In}
use Rattle.tql_spec.specs.Datum.{Row}
use Rattle.tql_spec.specs.Refusal.{Refusal, BeforeTheHorizon, MomentNotAllowed, NotInThisTransactionState, first}
use Rattle.tql_spec.specs.Refusal.{fault_if, ReadersAreOpen, TooManyTablesOrReaders, ReaderNotUsable}
use Rattle.tql_spec.specs.Definition.{Name, TableDef, table_at, full}
use Rattle.tql_spec.specs.History.{Copy, Entry, AsOf, Falling, rows_in, table_history, found}
use Rattle.tql_spec.specs.Horizon.{is_before, refs, asks_before}
use Rattle.tql_spec.specs.Readers.{Reader, names_of, is_live, pinned_of, is_any_open, passes, passes_some, reads_plain}
use Rattle.tql_spec.specs.HorizonLaws.{IsLeft, IsPrunedReader, ArePrunedReaders, IsPruned, is_of_pruning, other_pieces}
use Rattle.tql_spec.specs.HorizonLaws.{other_replies, RunsWithout, PrunesAreUnseen}
use Rattle.tql_spec.specs.Query.{Query, Ref, answer}
use Rattle.tql_spec.specs.Change.{Outcome, Work, insert}
use Rattle.tql_spec.specs.Machine.{State, Reply, Done, Refused, Verb, Pruned, Bound, CreateTable, DropTable, SetClock}
use Rattle.tql_spec.specs.Machine.{Start, Commit, Rollback, ChangeRows, AnswerQuery, Prune, Change, InsertTuples}
use Rattle.tql_spec.specs.Machine.{InsertQuery, Modify, StatementClass, Defines, SetsClock, Starts, Ends, Changes}
use Rattle.tql_spec.specs.Machine.{Queries, Prunes, state_faults, query_faults, change_faults, limit_faults, effect}
use Rattle.tql_spec.specs.Machine.{unless_refused, asked, changed, outcome, working, with_working, changed_table}
use Rattle.tql_spec.specs.Machine.{constraint_faults, verb_of, bag_of, entries, newest_copy, last_copy, is_not_later}
use Rattle.tql_spec.specs.Machine.{in_each_copy, with_commit, CreatedTable, DroppedTable, Committed, bag_in}
use Rattle.tql_spec.specs.Machine.{OpenReader, Read, CloseReader}
use Rattle.tql_spec.specs.Script.{Piece}
use Rattle.tql_spec.specs.Syntax.{Statement}
use Rattle.tql_spec.specs.Names.{Checked}
use Rattle.tql_spec.specs.Binding.{bind, statement_class}
use Rattle.tql_spec.specs.Reached.{IsInOrder}
use Rattle.tql_spec.specs.Run.{Sense, Says, Faulty, Answers, Run, respond, respond_to, statement_faults}
use Rattle.tql_spec.proofs.Members.{by_bool}
use Rattle.tql_spec.proofs.FirstFaults.{one_more, none_first}
use Rattle.tql_spec.proofs.RunKeeps.{no_left, no_right, answer_keeps}
use Rattle.tql_spec.proofs.Laws.{respond_keeps}
use Rattle.tql_spec.proofs.InOrder.{no_fault, keeps_in_order}
use Rattle.tql_spec.proofs.Horizons.{before_later, asks_later, not_before, LeavesSome, question_left, pruned_left}
use Rattle.tql_spec.proofs.Horizons.{answer_same, none_asks}

-- ---- a state with fewer copies and a later horizon

-- the state with its newest n copies, and with another horizon and other readers
abbrev cut : State → ℕ → ℤ → List Reader → State
cut s n h rs = record s { history = take n s.history; horizon = h; readers = rs }

-- the newest copy is left
newest_left : (defs : List TableDef) (h : ℤ) (n : ℕ) (es : List Entry) → IsLeft h n es
    → newest_copy defs (take n es) ≡ newest_copy defs es
newest_left defs h zero [] k = refl
newest_left defs h zero (e ∷ es) k = absurd k
newest_left defs h (suc n) [] k = absurd k
newest_left defs h (suc n) (e ∷ es) k = refl

-- the moment of the newest copy is left
later_left : (m h : ℤ) (n : ℕ) (es : List Entry) → IsLeft h n es → is_not_later m (take n es) ≡ is_not_later m es
later_left m h zero [] k = refl
later_left m h zero (e ∷ es) k = absurd k
later_left m h (suc n) [] k = absurd k
later_left m h (suc n) (e ∷ es) k = refl

-- the same change of each copy does not change which copies are left
left_in_each : (g : Copy → Copy) (h : ℤ) (n : ℕ) (es : List Entry) → IsLeft h n es
    → IsLeft h n (map (λ (e : Entry). record e { copy = g e.copy }) es)
left_in_each g h zero [] k = tt
left_in_each g h zero (e ∷ es) k = absurd k
left_in_each g h (suc n) [] k = absurd k
left_in_each g h (suc n) (e ∷ es) (inl l) = inl l
left_in_each g h (suc n) (e ∷ es) (inr k) = inr (left_in_each g h n es k)

-- ---- readers

-- pruned readers have the same names
live_left : (m : Name) (h : ℤ) (rs cs : List Reader) → ArePrunedReaders h rs cs → is_live m cs ≡ is_live m rs
live_left m h [] [] p = refl
live_left m h [] (c ∷ cs) p = absurd p
live_left m h (r ∷ rs) [] p = absurd p
live_left m h (r ∷ rs) (c ∷ cs) p =
    ap (λ (x : Reader). same_text m x.name || is_live m cs) p.0.same
    ∙ ap (λ b. same_text m r.name || b) (live_left m h rs cs p.1)

-- pruned readers are as many
count_left : (h : ℤ) (rs cs : List Reader) → ArePrunedReaders h rs cs → length (names_of cs) ≡ length (names_of rs)
count_left h [] [] p = refl
count_left h [] (c ∷ cs) p = absurd p
count_left h (r ∷ rs) [] p = absurd p
count_left h (r ∷ rs) (c ∷ cs) p = let e = count_left h rs cs p.1 in omega arith

open_left : (h : ℤ) (rs cs : List Reader) → ArePrunedReaders h rs cs → is_any_open cs ≡ is_any_open rs
open_left h [] [] p = refl
open_left h [] (c ∷ cs) p = absurd p
open_left h (r ∷ rs) [] p = absurd p
open_left h (r ∷ rs) (c ∷ cs) p = refl

-- the same horizons pass the copies that are left
pass_left : (m h : ℤ) (n : ℕ) (es : List Entry) → IsLeft h n es → passes m (take n es) ≡ passes m es
pass_left m h zero [] k = refl
pass_left m h zero (e ∷ es) k = absurd k
pass_left m h (suc n) [] k = absurd k
pass_left m h (suc n) (e ∷ es) k = refl

passes_left : (m h : ℤ) (rs cs : List Reader) → ArePrunedReaders h rs cs → passes_some m cs ≡ passes_some m rs
passes_left m h [] [] p = refl
passes_left m h [] (c ∷ cs) p = absurd p
passes_left m h (r ∷ rs) [] p = absurd p
passes_left m h (r ∷ rs) (c ∷ cs) p =
    ap (λ (x : Reader). passes m x.pinned || passes_some m cs) p.0.same
    ∙ ap (λ b. b || passes_some m cs) (pass_left m h p.0.left r.pinned p.0.enough)
    ∙ ap (λ b. passes m r.pinned || b) (passes_left m h rs cs p.1)

-- a pruned reader has the copies that the horizon leaves of the full reader's copies
pinned_left : (h : ℤ) (m : Name) (rs cs : List Reader) → ArePrunedReaders h rs cs
    → LeavesSome h (pinned_of m cs) (pinned_of m rs)
pinned_left h m [] [] p = record { left = 0; same = refl; enough = tt }
pinned_left h m [] (c ∷ cs) p = absurd p
pinned_left h m (r ∷ rs) [] p = absurd p
pinned_left h m (r ∷ rs) (c ∷ cs) p =
    subst (λ (x : Reader). LeavesSome h (if same_text m x.name then x.pinned else pinned_of m cs)
    (pinned_of m (r ∷ rs))) (sym p.0.same) (either (same_text m r.name) (pinned_left h m rs cs p.1))
  where
    either : (b : Bool) → LeavesSome h (pinned_of m cs) (pinned_of m rs)
        → LeavesSome h (if b then take p.0.left r.pinned else pinned_of m cs) (if b then r.pinned else pinned_of m rs)
    either true k = record { left = p.0.left; same = refl; enough = p.0.enough }
    either false k = k

falls_pinned : (m : Name) (rs : List Reader) → ((r : Reader) → In r rs → Falling r.pinned) → Falling (pinned_of m rs)
falls_pinned m [] f = tt
falls_pinned m (r ∷ rs) f = either (same_text m r.name) (falls_pinned m rs (λ x i. f x (inr i)))
  where
    either : (b : Bool) → Falling (pinned_of m rs) → Falling (if b then r.pinned else pinned_of m rs)
    either true k = f r (inl refl)
    either false k = k

-- one more reader on both sides
pins_more : (h : ℤ) (rs cs : List Reader) (r c : Reader) → IsPrunedReader h r c → ArePrunedReaders h rs cs
    → ArePrunedReaders h (rs ++ r ∷ []) (cs ++ c ∷ [])
pins_more h [] [] r c k p = (k, tt)
pins_more h [] (y ∷ cs) r c k p = absurd p
pins_more h (x ∷ rs) [] r c k p = absurd p
pins_more h (x ∷ rs) (y ∷ cs) r c k p = (p.0, pins_more h rs cs r c k p.1)

-- the readers whose names pass a test
abbrev named : (Name → Bool) → List Reader → List Reader
named test rs = filter (λ (x : Reader). test x.name) rs

pins_kept : (h : ℤ) (test : Name → Bool) (rs cs : List Reader) → ArePrunedReaders h rs cs
    → ArePrunedReaders h (named test rs) (named test cs)
pins_kept h test [] [] p = tt
pins_kept h test [] (c ∷ cs) p = absurd p
pins_kept h test (r ∷ rs) [] p = absurd p
pins_kept h test (r ∷ rs) (c ∷ cs) p =
    subst (λ b. ArePrunedReaders h (named test (r ∷ rs)) (cond b (c ∷ named test cs) (named test cs)))
    (sym (ap (λ (x : Reader). test x.name) p.0.same)) (either (test r.name) (pins_kept h test rs cs p.1))
  where
    either : (b : Bool) → ArePrunedReaders h (named test rs) (named test cs)
        → ArePrunedReaders h (cond b (r ∷ named test rs) (named test rs)) (cond b (c ∷ named test cs) (named test cs))
    either true k = (p.0, k)
    either false k = k

-- copies that suffice for a horizon suffice for a later one
left_later : (h m : ℤ) → h ≤ℤ m → (n : ℕ) (es : List Entry) → IsLeft h n es → IsLeft m n es
left_later h m l zero [] k = tt
left_later h m l zero (e ∷ es) k = absurd k
left_later h m l (suc n) [] k = absurd k
left_later h m l (suc n) (e ∷ es) (inl p) = inl (omega (arith, ints))
left_later h m l (suc n) (e ∷ es) (inr k) = inr (left_later h m l n es k)

pins_later : (h m : ℤ) → h ≤ℤ m → (rs cs : List Reader) → ArePrunedReaders h rs cs → ArePrunedReaders m rs cs
pins_later h m l [] [] p = tt
pins_later h m l [] (c ∷ cs) p = absurd p
pins_later h m l (r ∷ rs) [] p = absurd p
pins_later h m l (r ∷ rs) (c ∷ cs) p = (
  record { left = p.0.left; same = p.0.same; enough = left_later h m l p.0.left r.pinned p.0.enough },
  pins_later h m l rs cs p.1,
)

-- whether a reply is that of PRUNE HISTORY
abbrev is_pruned : Reply → Bool
is_pruned (Done Pruned n) = true
is_pruned _ = false

-- both sides make the same step: the same reply, not PRUNE HISTORY, and states of which one is the other pruned
record SameStep (full cut : Reply × State) : Type 0 where
  reply : cut.0 ≡ full.0
  plain : is_pruned cut.0 ≡ false
  after : IsPruned full.1 cut.1

-- the cut state makes the same step, or a step due to pruning that leaves it a pruned form of s
abbrev Stepped : State → Reply × State → Reply × State → Type 0
Stepped s full cut = ((is_of_pruning cut.0 ≡ true) × IsPruned s cut.1) ⊎ SameStep full cut

-- the reply to a change is not PRUNE HISTORY
verb_plain : (c : Change) (n : Option ℕ) → is_pruned (Done (verb_of c) n) ≡ false
verb_plain (InsertTuples t columns tuples) n = refl
verb_plain (InsertQuery t columns q) n = refl
verb_plain (Modify t portion (Work.Set sets) conds) n = refl
verb_plain (Modify t portion Work.Remove conds) n = refl

-- the reply and the state of a change, from its working copy and its outcome
abbrev altered_by : State → Change → Entry → Outcome → Reply × State
altered_by s c e o =
    let copy = slice_set e.copy (changed_table c) o.rows in
    unless_refused (first (o.faults ++ constraint_faults s.definitions copy)) s (Done (verb_of c) (Some o.count))
    (with_working s s.transaction (record { moment = e.moment; copy = copy }))

-- ---- faults by two horizons

-- the faults by the later horizon are the same, or BEFORE THE HORIZON is added at the end
abbrev SameLimits : List Refusal → List Refusal → Type 0
SameLimits more less =
    (more ≡ less) ⊎ ((common : List Refusal) × (more ≡ common ++ BeforeTheHorizon ∷ []) × (less ≡ common))

-- the same with other faults in front
behind : (front : List Refusal) {whole more less : List Refusal} → whole ≡ front ++ more → SameLimits more less
    → SameLimits whole (front ++ less)
behind front q (inl e) = inl (q ∙ ap (λ xs. front ++ xs) e)
behind front q (inr (common, e, f)) = inr (
  front ++ common,
  q ∙ ap (λ xs. front ++ xs) e ∙ sym (append_assoc front common (BeforeTheHorizon ∷ [])),
  ap (λ xs. front ++ xs) f,
)

by_tests : (a b : Bool) → (b ≡ true → a ≡ true) → SameLimits (fault_if a BeforeTheHorizon) (fault_if b BeforeTheHorizon)
by_tests true true h = inl refl
by_tests true false h = inr ([], refl, refl)
by_tests false true h = absurd (let e = h refl in cc)
by_tests false false h = inl refl

-- the first fault is that of the horizon, or it is the same on both sides
first_either : (more less rest : List Refusal) → SameLimits more less
    → (first (more ++ rest) ≡ Some BeforeTheHorizon) ⊎ (first (more ++ rest) ≡ first (less ++ rest))
first_either more less rest (inl e) = inr (ap (λ xs. first (xs ++ rest)) e)
first_either more less rest (inr (common, e, f)) = elim (one_more common BeforeTheHorizon rest) [
  | inl q ↦ inl (one ∙ q)
  | inr q ↦ inr (one ∙ q ∙ ap (λ xs. first (xs ++ rest)) (sym f))
]
  where
    one : first (more ++ rest) ≡ first (common ++ BeforeTheHorizon ∷ rest)
    one = ap (λ xs. first (xs ++ rest)) e ∙ ap first (append_assoc common (BeforeTheHorizon ∷ []) rest)

module _ (s : State) (n : ℕ) (h : ℤ) (rs : List Reader) (later : s.horizon ≤ℤ h) (k : IsLeft h n s.history)
    (pins : ArePrunedReaders h s.readers rs) (set_aside : (r : Reader) → In r s.readers → Falling r.pinned) where
  -- the cut state is a pruned form of s
  self : IsPruned s (cut s n h rs)
  self = record { horizon = h; left = n; readers = rs; same = refl; later = later; enough = k; pins = pins }

  -- the faults by the transaction, the clock and the readers are the same
  state_same : (m : StatementClass) → state_faults (cut s n h rs) m ≡ state_faults s m
  state_same Defines =
      ap (λ b. fault_if (is_some s.transaction) NotInThisTransactionState ++ fault_if b ReadersAreOpen)
      (open_left h s.readers rs pins)
  state_same (SetsClock None) = refl
  state_same (SetsClock (Some m)) =
      ap (λ b. fault_if (is_some s.transaction) NotInThisTransactionState ++ fault_if b MomentNotAllowed)
      (later_left m h n s.history k)
  state_same Starts = refl
  state_same Ends = refl
  state_same Changes = refl
  state_same Queries = refl
  state_same (Prunes None) = refl
  state_same (Prunes (Some m)) =
      ap (λ b. fault_if (is_some s.transaction) NotInThisTransactionState ++ fault_if b ReadersAreOpen)
      (passes_left m h s.readers rs pins)

  -- the last copy is the same
  last_same : last_copy (cut s n h rs) ≡ last_copy s
  last_same = either s.transaction
    where
      either : (o : Option Entry)
          → newest_copy s.definitions (listed o ++ take n s.history) ≡ newest_copy s.definitions (listed o ++ s.history)
      either None = newest_left s.definitions h n s.history k
      either (Some e) = refl

  working_same : (o : Option Entry) → working (cut s n h rs) o ≡ working s o
  working_same None = ap (λ copy. record { moment = s.next; copy = copy }) last_same
  working_same (Some e) = refl

  -- a question that does not ask before the horizon has the same result
  bag_same : Falling (entries s) → (r : Ref) → is_before h r.when ≡ false → bag_of (cut s n h rs) r ≡ bag_of s r
  bag_same f r e = ap (λ vs. map (full (table_at s.definitions r.table)) vs) (either s.transaction f)
    where
      either : (o : Option Entry) → Falling (listed o ++ s.history)
          → found r.when (table_history r.table (listed o ++ take n s.history))
          ≡ found r.when (table_history r.table (listed o ++ s.history))
      either None g = question_left r.table h n s.history r.when g k e
      either (Some w) g = question_left r.table h (suc n) (w ∷ s.history) r.when g (inr k) e

  -- a question to the copies of a reader that does not ask before the horizon has the same result
  pinned_same : (m : Name) (r : Ref) → is_before h r.when ≡ false
      → bag_in s.definitions (pinned_of m rs) r ≡ bag_in s.definitions (pinned_of m s.readers) r
  pinned_same m r e =
      let p = pinned_left h m s.readers rs pins in
      ap (λ vs. map (full (table_at s.definitions r.table)) vs)
      (ap (λ es. found r.when (table_history r.table es)) p.same
      ∙ question_left r.table h p.left (pinned_of m s.readers) r.when (falls_pinned m s.readers set_aside) p.enough e)

  -- a query that does not ask before the horizon has the same answer
  query_same : Falling (entries s) → (q : Query) → asks_before h q ≡ false
      → answer (bag_of (cut s n h rs)) q ≡ answer (bag_of s) q
  query_same f q e = answer_same (bag_of (cut s n h rs)) (bag_of s) q
      (λ r m. bag_same f r (none_asks (λ (x : Ref). is_before h x.when) (refs q) e r m))

  -- a change that does not ask before the horizon has the same outcome
  outcome_same : Falling (entries s) → (m : ℤ) (copy : Copy) (c : Change) → change_faults h c ≡ []
      → outcome (cut s n h rs) m copy c ≡ outcome s m copy c
  outcome_same f m copy (InsertTuples t columns tuples) e = refl
  outcome_same f m copy (InsertQuery t columns q) e =
      ap (insert (table_at s.definitions t) m (rows_in copy t) columns)
      (query_same f q (no_fault (asks_before h q) BeforeTheHorizon e))
  outcome_same f m copy (Modify t portion work conds) e = refl

  -- ---- effects

  -- a change of the working copy, or its commit, on both sides
  kept_working : (o : Option Entry) (e : Entry) → IsPruned (with_working s o e) (with_working (cut s n h rs) o e)
  kept_working None e =
      record { horizon = h; left = suc n; readers = rs; same = refl; later = later; enough = inr k; pins = pins }
  kept_working (Some w) e =
      record { horizon = h; left = n; readers = rs; same = refl; later = later; enough = k; pins = pins }

  -- a change of the same working copy with the same outcome, on both sides
  altered_same : (c : Change) (e : Entry) (o : Outcome)
      → SameStep (altered_by s c e o) (altered_by (cut s n h rs) c e o)
  altered_same c e o =
      either (first (o.faults ++ constraint_faults s.definitions (slice_set e.copy (changed_table c) o.rows)))
    where
      new : Entry
      new = record { moment = e.moment; copy = slice_set e.copy (changed_table c) o.rows }

      either : (r : Option Refusal)
          → SameStep (unless_refused r s (Done (verb_of c) (Some o.count)) (with_working s s.transaction new))
          (unless_refused r (cut s n h rs) (Done (verb_of c) (Some o.count))
          (with_working (cut s n h rs) s.transaction new))
      either None = record { reply = refl; plain = verb_plain c (Some o.count); after = kept_working s.transaction new }
      either (Some r) = record { reply = refl; plain = refl; after = self }

  change_same : Falling (entries s) → (c : Change) → change_faults h c ≡ []
      → SameStep (changed s c) (changed (cut s n h rs) c)
  change_same f c e =
      let w : Entry = working s s.transaction in
      subst (SameStep (changed s c))
      (sym (ap (λ (x : Entry). altered_by (cut s n h rs) c x (outcome (cut s n h rs) x.moment x.copy c))
      (working_same s.transaction)
      ∙ ap (λ o. altered_by (cut s n h rs) c w o) (outcome_same f w.moment w.copy c e)))
      (altered_same c w (outcome s w.moment w.copy c))

  -- a query on both sides
  asked_same : (q : Query) (o : Option (List Row)) → SameStep (asked s q o) (asked (cut s n h rs) q o)
  asked_same q None = record { reply = refl; plain = refl; after = self }
  asked_same q (Some rows) = record { reply = refl; plain = refl; after = self }

  -- the same change of every copy on both sides
  each_same : (g : Copy → Copy) (defs : List TableDef) (v : Verb) → is_pruned (Done v None) ≡ false
      → SameStep (Done v None, in_each_copy g (record s { definitions = defs }))
      (Done v None, in_each_copy g (record (cut s n h rs) { definitions = defs }))
  each_same g defs v e = record {
    reply = refl;
    plain = e;
    after = record {
      horizon = h;
      left = n;
      readers = rs;
      same = ap (λ (es : List Entry). record s { definitions = defs; history = es; horizon = h; readers = rs })
          (sym (take-map (λ (x : Entry). record x { copy = g x.copy }) n s.history));
      later = later;
      enough = left_in_each g h n s.history k;
      pins = pins;
    };
  }

  committed_same : (o : Option Entry)
      → SameStep (Done Committed None, with_commit s o) (Done Committed None, with_commit (cut s n h rs) o)
  committed_same None = record { reply = refl; plain = refl; after = self }
  committed_same (Some e) = record { reply = refl; plain = refl; after = kept_working None e }

  -- each effect is the same on both sides, or due to pruning
  effect_same : Falling (entries s) → (b : Bound) → limit_faults (cut s n h rs) b ≡ []
      → Stepped s (effect s b) (effect (cut s n h rs) b)
  effect_same f (CreateTable d) e =
      inr (each_same (λ copy. copy ++ [] ∷ []) (s.definitions ++ d ∷ []) CreatedTable refl)
  effect_same f (DropTable t) e = inr (each_same (λ copy. remove copy t) (remove s.definitions t) DroppedTable refl)
  effect_same f (SetClock m) e = inr (record {
    reply = refl;
    plain = refl;
    after = record { horizon = h; left = n; readers = rs; same = refl; later = later; enough = k; pins = pins };
  })
  effect_same f Start e = inr (record {
    reply = refl;
    plain = refl;
    after = record {
      horizon = h;
      left = n;
      readers = rs;
      same = ap (λ (w : Entry). record (cut s n h rs) { transaction = Some w }) (working_same None);
      later = later;
      enough = k;
      pins = pins;
    };
  })
  effect_same f Commit e = inr (committed_same s.transaction)
  effect_same f Rollback e =
      inr (record {
        reply = refl;
        plain = refl;
        after = record { horizon = h; left = n; readers = rs; same = refl; later = later; enough = k; pins = pins };
      })
  effect_same f (ChangeRows c) e = inr (change_same f c e)
  effect_same f (AnswerQuery q) e =
      inr (subst (λ o. SameStep (asked s q (answer (bag_of s) q)) (asked (cut s n h rs) q o))
      (sym (query_same f q (no_fault (asks_before h q) BeforeTheHorizon e))) (asked_same q (answer (bag_of s) q)))
  effect_same f (OpenReader m) e = inr (record {
    reply = refl;
    plain = refl;
    after = record {
      horizon = h;
      left = n;
      readers = rs ++ record { name = m; pinned = take n s.history } ∷ [];
      same = refl;
      later = later;
      enough = k;
      pins = pins_more h s.readers rs (record { name = m; pinned = s.history })
          (record { name = m; pinned = take n s.history })
          (record { left = n; same = refl; enough = k }) pins;
    };
  })
  effect_same f (CloseReader m) e = inr (record {
    reply = refl;
    plain = refl;
    after = record {
      horizon = h;
      left = n;
      readers = filter (λ (r : Reader). not (same_text m r.name)) rs;
      same = refl;
      later = later;
      enough = k;
      pins = pins_kept h (λ x. not (same_text m x)) s.readers rs pins;
    };
  })
  effect_same f (Read m q) e =
      let none : query_faults h q ≡ [] = no_right
      (fault_if (not (is_live m rs) || reads_plain s.definitions q) ReaderNotUsable) (query_faults h q) e in
      inr (subst (λ o. SameStep (asked s q (answer (bag_in s.definitions (pinned_of m s.readers)) q))
      (asked (cut s n h rs) q o))
      (sym (answer_same (bag_in s.definitions (pinned_of m rs)) (bag_in s.definitions (pinned_of m s.readers)) q
      (λ r i. pinned_same m r (none_asks (λ (x : Ref). is_before h x.when) (refs q)
      (no_fault (asks_before h q) BeforeTheHorizon none) r i))))
      (asked_same q (answer (bag_in s.definitions (pinned_of m s.readers)) q)))
  effect_same f (Prune m) e =
      let l : h ≤ℤ m = not_before m h (no_fault (int_lt m h) BeforeTheHorizon e) in
      let p = pruned_left h m l n s.history k in
      inl (
        refl,
        record {
          horizon = m;
          left = p.left;
          readers = rs;
          same = ap (λ (es : List Entry). record s { history = es; horizon = m; readers = rs }) p.same;
          later = omega (arith, ints);
          enough = p.enough;
          pins = pins_later h m l s.readers rs pins;
        },
      )

  -- ---- faults

  query_limits : (q : Query) → SameLimits (query_faults h q) (query_faults s.horizon q)
  query_limits q = by_tests (asks_before h q) (asks_before s.horizon q) (asks_later s.horizon h later q)

  -- the faults by the limits are the same, or one by the horizon is added
  limits : (b : Bound) → SameLimits (limit_faults (cut s n h rs) b) (limit_faults s b)
  limits (CreateTable d) = inl refl
  limits (DropTable t) = inl refl
  limits (SetClock m) = inl refl
  limits Start = inl refl
  limits Commit = inl refl
  limits Rollback = inl refl
  limits (ChangeRows (InsertTuples t columns tuples)) = inl refl
  limits (ChangeRows (InsertQuery t columns q)) = query_limits q
  limits (ChangeRows (Modify t portion work conds)) = inl refl
  limits (AnswerQuery q) = query_limits q
  limits (Prune m) = by_tests (int_lt m h) (int_lt m s.horizon) (λ e. before_later s.horizon h later (AsOf m) e)
  limits (OpenReader m) =
      inl (ap (λ i. fault_if (nat_le most_readers i) TooManyTablesOrReaders ++ fault_if (is_live m rs) ReaderNotUsable)
      (count_left h s.readers rs pins)
      ∙ ap (λ b. fault_if (nat_le most_readers (length (names_of s.readers))) TooManyTablesOrReaders
      ++ fault_if b ReaderNotUsable) (live_left m h s.readers rs pins))
  limits (CloseReader m) = inl (ap (λ b. fault_if (not b) ReaderNotUsable) (live_left m h s.readers rs pins))
  limits (Read m q) =
      behind (fault_if (not (is_live m s.readers) || reads_plain s.definitions q) ReaderNotUsable)
      (ap (λ b. fault_if (not b || reads_plain s.definitions q) ReaderNotUsable ++ query_faults h q)
      (live_left m h s.readers rs pins)) (query_limits q)

  -- the first fault of a statement is that of the horizon, or the same on both sides
  first_same : (t : Statement)
      → (first (statement_faults (cut s n h rs) t) ≡ Some BeforeTheHorizon)
      ⊎ (first (statement_faults (cut s n h rs) t) ≡ first (statement_faults s t))
  first_same t =
      let b : Checked Bound = bind s.definitions t in
      let lc : List Refusal = limit_faults (cut s n h rs) b.value in
      subst (λ fs. (first (lc ++ (fs ++ b.faults)) ≡ Some BeforeTheHorizon)
      ⊎ (first (lc ++ (fs ++ b.faults)) ≡ first (statement_faults s t))) (sym (state_same (statement_class t)))
      (first_either lc (limit_faults s b.value) (state_faults s (statement_class t) ++ b.faults) (limits b.value))

  respond_same : Falling (entries s) → (t : Statement) → Stepped s (respond s t) (respond (cut s n h rs) t)
  respond_same f t = elim (first_same t) [
    | inl e ↦
        subst (λ o. Stepped s (respond s t) (unless_refused o (cut s n h rs) rc.0 rc.1)) (sym e) (inl (refl, self))
    | inr e ↦ subst (λ o. Stepped s (respond s t) (unless_refused o (cut s n h rs) rc.0 rc.1)) (sym e)
        (either (first (statement_faults s t)) e)
  ]
    where
      b : Bound
      b = (bind s.definitions t).value

      rc : Reply × State
      rc = effect (cut s n h rs) b

      either : (o : Option Refusal) → first (statement_faults (cut s n h rs) t) ≡ o
          → Stepped s (unless_refused o s (effect s b).0 (effect s b).1) (unless_refused o (cut s n h rs) rc.0 rc.1)
      either (Some e) q = inr (record { reply = refl; plain = refl; after = self })
      either None q =
          effect_same f b (no_left (limit_faults (cut s n h rs) b) _ (none_first (statement_faults (cut s n h rs) t) q))

  -- the reply to the sense of a piece is the same on both sides, or due to pruning
  sense_same : Falling (entries s) → (sense : Sense) → Stepped s (respond_to s sense) (respond_to (cut s n h rs) sense)
  sense_same f (Says t) = respond_same f t
  sense_same f (Faulty e) = inr (record { reply = refl; plain = refl; after = self })

-- ---- runs

-- a reply due to pruning that is not PRUNE HISTORY is the refusal for the horizon
is_refusal : (r : Reply) → is_of_pruning r ≡ true → is_pruned r ≡ false → r ≡ Refused BeforeTheHorizon
is_refusal (Done Pruned n) e f = absurd (cc)
is_refusal (Refused BeforeTheHorizon) e f = refl
is_refusal _ e f = absurd (cc)

-- the reply to a piece is due to pruning, and the new state is a pruned form of s
record Skips (s new : State) (r : Reply) : Type 0 where
  out : is_of_pruning r ≡ true
  after : IsPruned s new

record Matches (s : State) (p : Piece) (r : Reply) (new : State) : Type 0 where
  kept : is_of_pruning r ≡ false
  full : State
  answers : Answers s p r full
  after : IsPruned full new
  in_order : IsInOrder full

one_piece : (s : State) (n : ℕ) (h : ℤ) (rs : List Reader) → s.horizon ≤ℤ h → IsLeft h n s.history
    → ArePrunedReaders h s.readers rs → IsInOrder s → (p : Piece) (r : Reply) (new : State)
    → Answers (cut s n h rs) p r new → Skips s new r ⊎ Matches s p r new
one_piece s n h rs later k pins o p r new (inr a) =
    inr (record {
      kept = ap is_of_pruning a.0;
      full = s;
      answers = inr (a.0, refl);
      after = subst (IsPruned s) (sym a.1) (self s n h rs later k pins o.set_aside);
      in_order = o;
    })
one_piece s n h rs later k pins o p r new (inl (sense, means, e)) =
    by_bool (is_of_pruning r)
    (λ b. inl (record { out = b; after = skipped b (sense_same s n h rs later k pins o.set_aside o.falling sense) }))
    (λ b. inr (matched b (sense_same s n h rs later k pins o.set_aside o.falling sense)))
  where
    reply : r ≡ (respond_to (cut s n h rs) sense).0
    reply = ap (λ (x : Reply × State). x.0) e

    state : new ≡ (respond_to (cut s n h rs) sense).1
    state = ap (λ (x : Reply × State). x.1) e

    skipped : is_of_pruning r ≡ true → Stepped s (respond_to s sense) (respond_to (cut s n h rs) sense) → IsPruned s new
    skipped b (inl x) = subst (IsPruned s) (sym state) x.1
    skipped b (inr x) =
        let refused = is_refusal (respond_to (cut s n h rs) sense).0 (ap is_of_pruning (sym reply) ∙ b) x.plain in
        subst (IsPruned s) (sym (state ∙ respond_keeps (cut s n h rs) sense BeforeTheHorizon refused))
        (self s n h rs later k pins o.set_aside)

    matched : is_of_pruning r ≡ false → Stepped s (respond_to s sense) (respond_to (cut s n h rs) sense)
        → Matches s p r new
    matched b (inl x) = absurd (let y = sym b ∙ ap is_of_pruning reply ∙ x.0 in cc)
    matched b (inr x) = record {
      kept = b;
      full = (respond_to s sense).1;
      answers = inl (sense, means, ap (λ (z : Reply). (z, (respond_to s sense).1)) (reply ∙ x.reply));
      after = subst (IsPruned (respond_to s sense).1) (sym state) x.after;
      in_order = answer_keeps IsInOrder keeps_in_order s sense o;
    }

runs_without : (s c new : State) → IsPruned s c → IsInOrder s → (pieces : List Piece) (replies : List Reply)
    → Run c pieces replies new → RunsWithout s (other_pieces pieces replies) (other_replies replies) new
runs_without s c new k o [] [] r = record { full = s; run = refl; pruned = subst (IsPruned s) (sym r) k }
runs_without s c new k o [] (x ∷ xs) r = absurd r
runs_without s c new k o (p ∷ ps) [] r = absurd r
runs_without s c new k o (p ∷ ps) (x ∷ xs) (mid, a, rest) =
    elim (one_piece s k.left k.horizon k.readers k.later k.enough k.pins o p x mid
    (subst (λ z. Answers z p x mid) k.same a)) [
      | inl y ↦ subst (Out x) (sym y.out) (runs_without s mid new y.after o ps xs rest)
      | inr y ↦ subst (Out x) (sym y.kept) (further y (runs_without y.full mid new y.after y.in_order ps xs rest))
    ]
  where
    Out : Reply → Bool → Type 0
    Out z b = RunsWithout s (if b then other_pieces ps xs else p ∷ other_pieces ps xs)
        (if b then other_replies xs else z ∷ other_replies xs) new

    further : (y : Matches s p x mid) → RunsWithout y.full (other_pieces ps xs) (other_replies xs) new
        → RunsWithout s (p ∷ other_pieces ps xs) (x ∷ other_replies xs) new
    further y w = record { full = w.full; run = (y.full, y.answers, w.run); pruned = w.pruned }

-- all copies of a list suffice for any horizon
pub whole : (h : ℤ) (es : List Entry) → LeavesSome h es es
whole h [] = record { left = 0; same = refl; enough = tt }
whole h (e ∷ es) =
    let r = whole h es in
    record { left = suc r.left; same = ap {B = List Entry} (λ xs. e ∷ xs) r.same; enough = inr r.enough }

all_pins : (h : ℤ) (rs : List Reader) → ArePrunedReaders h rs rs
all_pins h [] = tt
all_pins h (r ∷ rs) = let w = whole h r.pinned in (
  record { left = w.left; same = ap (λ (es : List Entry). record r { pinned = es }) w.same; enough = w.enough },
  all_pins h rs,
)

pub prunes_are_unseen : PrunesAreUnseen
prunes_are_unseen old new pieces replies o r =
    let w = whole old.horizon old.history in
    runs_without old old new (record {
      horizon = old.horizon;
      left = w.left;
      readers = old.readers;
      same = ap (λ (es : List Entry). record old { history = es }) w.same;
      later = omega (arith, ints);
      enough = w.enough;
      pins = all_pins old.horizon old.readers;
    }) o pieces replies r
