-- The copies that a reader pinned stay, so its READs answer as at its opening.
use Rattle.std.proofs.Common.{◌≡◌, refl, sym, ap, subst, ◌∙◌, Bool, true, false, cond, List, [], ◌∷◌, ◌++◌, filter}
use Rattle.std.proofs.Common.{inl, inr, arith, append_assoc}
use Rattle.std.specs.Prelude.{◌||◌, not, nat_le, length, ℤ, ◌≤ℤ◌, int_lt, if◌then◌else◌, Option, Some, None, is_some}
use Rattle.std.proofs.lemmas.Int.{ints}
use Rattle.tql_spec.specs.Words.{same_text}
use Rattle.tql_spec.specs.Limits.{most_readers}
use Rattle.tql_spec.specs.Datum.{Row}
use Rattle.tql_spec.specs.Refusal.{Refusal, ValueOutOfRange, NotInThisTransactionState, ReadersAreOpen, OutOfMemory}
use Rattle.tql_spec.specs.Refusal.{TooManyTablesOrReaders, BeforeTheHorizon, ReaderNotUsable, first, fault_if}
use Rattle.tql_spec.specs.Definition.{Name, TableDef}
use Rattle.tql_spec.specs.History.{Entry}
use Rattle.tql_spec.specs.Horizon.{asks_before}
use Rattle.tql_spec.specs.Readers.{Reader, names_of, is_live, pinned_of, is_any_open, reads_plain}
use Rattle.tql_spec.specs.Query.{Query, answer, in_order}
use Rattle.tql_spec.specs.Machine.{State, Reply, Done, Table, Refused, OpenedReader, ClosedReader, Bound, CreateTable}
use Rattle.tql_spec.specs.Machine.{DropTable, SetClock, Start, Commit, Rollback, ChangeRows, AnswerQuery, Prune}
use Rattle.tql_spec.specs.Machine.{OpenReader, Read, CloseReader, class_of, state_faults, query_faults, limit_faults}
use Rattle.tql_spec.specs.Machine.{effect, unless_refused, asked, with_commit, with_working, bag_in}
use Rattle.tql_spec.specs.Script.{Piece}
use Rattle.tql_spec.specs.Syntax.{Statement, SelectTree, OrderTree, CreateTree, DropTree, InsertValues, InsertSelect}
use Rattle.tql_spec.specs.Syntax.{UpdateTree, DeleteTree, QueryTree, StartTree, CommitTree, RollbackTree, AtTree}
use Rattle.tql_spec.specs.Syntax.{PruneTree, OpenTree, ReadTree, CloseTree}
use Rattle.tql_spec.specs.Names.{Checked}
use Rattle.tql_spec.specs.Binding.{Selected, select, bind}
use Rattle.tql_spec.specs.Grammar.{SpellsOnce}
use Rattle.tql_spec.specs.Run.{Sense, Says, Faulty, HasSense, Answers, Run, respond, respond_to, statement_faults}
use Rattle.tql_spec.specs.ReaderLaws.{stopped, ClosesNever, Counts, ReadersAreStable, ReadsAgree}
use Rattle.tql_spec.proofs.Members.{by_bool}
use Rattle.tql_spec.proofs.FirstFaults.{sooner, first_append, one_more, none_first}
use Rattle.tql_spec.proofs.Constraints.{same_text-self, same_text-is}
use Rattle.tql_spec.proofs.Laws.{respond_keeps}
use Rattle.tql_spec.proofs.RunKeeps.{no_left, no_right, unless_either, asked_stays, changed_entry, altered_keeps, taken}
use Rattle.tql_spec.proofs.InOrder.{no_fault}
use Rattle.tql_spec.proofs.OneMeaning.{senses_are_one}
use Rattle.tql_spec.proofs.Horizons.{not_before, asks_later}

-- ---- readers by their names

-- if a name is live, some reader is open
live_open : (n : Name) (rs : List Reader) → is_live n rs ≡ true → is_any_open rs ≡ true
live_open n [] e = e
live_open n (r ∷ rs) e = refl

-- a live name stays live with one more reader at the end
live_more : (n : Name) (x : Reader) (rs : List Reader) → is_live n rs ≡ true → is_live n (rs ++ x ∷ []) ≡ true
live_more n x [] e = absurd (cc)
live_more n x (r ∷ rs) e = either (same_text n r.name) (is_live n rs) (is_live n (rs ++ x ∷ [])) e (live_more n x rs)
  where
    either : (a b c : Bool) → a || b ≡ true → (b ≡ true → c ≡ true) → a || c ≡ true
    either true b c k f = refl
    either false b c k f = f k

pinned_more : (n : Name) (x : Reader) (rs : List Reader) → is_live n rs ≡ true
    → pinned_of n (rs ++ x ∷ []) ≡ pinned_of n rs
pinned_more n x [] e = absurd (cc)
pinned_more n x (r ∷ rs) e = either (same_text n r.name) e (pinned_more n x rs)
  where
    either : (a : Bool) → a || is_live n rs ≡ true
        → (is_live n rs ≡ true → pinned_of n (rs ++ x ∷ []) ≡ pinned_of n rs)
        → (if a then r.pinned else pinned_of n (rs ++ x ∷ [])) ≡ (if a then r.pinned else pinned_of n rs)
    either true k f = refl
    either false k f = f k

-- the name of a reader at the end is live
live_first : (n : Name) (es : List Entry) (rs : List Reader)
    → is_live n (rs ++ record { name = n; pinned = es } ∷ []) ≡ true
live_first n es [] = ap (λ b. b || false) (same_text-self n)
live_first n es (r ∷ rs) = either (same_text n r.name) (live_first n es rs)
  where
    either : (a : Bool) {b : Bool} → b ≡ true → a || b ≡ true
    either true k = refl
    either false k = k

pinned_first : (n : Name) (es : List Entry) (rs : List Reader) → is_live n rs ≡ false
    → pinned_of n (rs ++ record { name = n; pinned = es } ∷ []) ≡ es
pinned_first n es [] e = ap (λ b. if b then es else []) (same_text-self n)
pinned_first n es (r ∷ rs) e = either (same_text n r.name) e (pinned_first n es rs)
  where
    either : (a : Bool) → a || is_live n rs ≡ false
        → (is_live n rs ≡ false → pinned_of n (rs ++ record { name = n; pinned = es } ∷ []) ≡ es)
        → (if a then r.pinned else pinned_of n (rs ++ record { name = n; pinned = es } ∷ [])) ≡ es
    either true k f = absurd (cc)
    either false k f = f k

-- a reader with the name m does not have a different name n
not_both : (m n : Name) (r : Reader) → (m ≡ n → ⊥) → same_text m r.name ≡ true → same_text n r.name ≡ false
not_both m n r apart e =
    by_bool (same_text n r.name) (λ f. absurd (apart (same_text-is m r.name e ∙ sym (same_text-is n r.name f))))
    (λ f. f)

-- the readers that stay when those with the name m are removed
abbrev others : Name → List Reader → List Reader
others m rs = filter (λ (r : Reader). not (same_text m r.name)) rs

live_kept : (m n : Name) → (m ≡ n → ⊥) → (rs : List Reader) → is_live n (others m rs) ≡ is_live n rs
live_kept m n apart [] = refl
live_kept m n apart (r ∷ rs) = either (same_text m r.name) (not_both m n r apart) (live_kept m n apart rs)
  where
    either : (a : Bool) → (a ≡ true → same_text n r.name ≡ false) → is_live n (others m rs) ≡ is_live n rs
        → is_live n (cond (not a) (r ∷ others m rs) (others m rs)) ≡ same_text n r.name || is_live n rs
    either true f k = k ∙ sym (ap (λ b. b || is_live n rs) (f refl))
    either false f k = ap (λ b. same_text n r.name || b) k

pinned_kept : (m n : Name) → (m ≡ n → ⊥) → (rs : List Reader) → pinned_of n (others m rs) ≡ pinned_of n rs
pinned_kept m n apart [] = refl
pinned_kept m n apart (r ∷ rs) = either (same_text m r.name) (not_both m n r apart) (pinned_kept m n apart rs)
  where
    either : (a : Bool) → (a ≡ true → same_text n r.name ≡ false) → pinned_of n (others m rs) ≡ pinned_of n rs
        → pinned_of n (cond (not a) (r ∷ others m rs) (others m rs))
        ≡ (if same_text n r.name then r.pinned else pinned_of n rs)
    either true f k = k ∙ sym (ap (λ b. if b then r.pinned else pinned_of n rs) (f refl))
    either false f k = ap (λ es. if same_text n r.name then r.pinned else es) k

-- ---- what an open reader preserves

-- for a reader opened in state s: it is live and pins the history of s, the tables are those of s, and the horizon has
-- not moved back
record IsPinned (s : State) (n : Name) (now : State) : Type 0 where
  definitions : now.definitions ≡ s.definitions
  live : is_live n now.readers ≡ true
  pinned : pinned_of n now.readers ≡ s.history
  horizon : s.horizon ≤ℤ now.horizon

module _ (s : State) (n : Name) where
  -- this holds for another state with the same tables, readers and horizon
  again : (x y : State) → y.definitions ≡ x.definitions → y.readers ≡ x.readers → y.horizon ≡ x.horizon → IsPinned s n x
      → IsPinned s n y
  again x y d r h p = record {
    definitions = d ∙ p.definitions;
    live = ap (is_live n) r ∙ p.live;
    pinned = ap (pinned_of n) r ∙ p.pinned;
    horizon = let k = p.horizon in omega (arith, ints, h);
  }

  by_commit : (x : State) (o : Option Entry) → IsPinned s n x → IsPinned s n (with_commit x o)
  by_commit x None p = p
  by_commit x (Some e) p = again x (with_commit x (Some e)) refl refl refl p

  by_working : (x : State) (o : Option Entry) (e : Entry) → IsPinned s n x → IsPinned s n (with_working x o e)
  by_working x None e p = again x (with_working x None e) refl refl refl p
  by_working x (Some w) e p = again x (with_working x (Some w) e) refl refl refl p

  -- while it is open, CREATE and DROP TABLE are refused
  no_change : (x : State) → IsPinned s n x
      → fault_if (is_some x.transaction) NotInThisTransactionState ++ fault_if (is_any_open x.readers) ReadersAreOpen
      ≡ [] → ⊥
  no_change x p e =
      let closed = no_fault (is_any_open x.readers) ReadersAreOpen
      (no_right (fault_if (is_some x.transaction) NotInThisTransactionState) _ e) in
      let some = live_open n x.readers p.live in
      absurd (cc)

  effect_pinned : (x : State) (b : Bound) → (b ≡ CloseReader n → ⊥) → state_faults x (class_of b) ≡ []
      → limit_faults x b ≡ [] → IsPinned s n x → IsPinned s n (effect x b).1
  effect_pinned x (CreateTable d) c e l p = absurd (no_change x p e)
  effect_pinned x (DropTable t) c e l p = absurd (no_change x p e)
  effect_pinned x (SetClock m) c e l p = again x (record x { next = m }) refl refl refl p
  effect_pinned x Start c e l p = again x (effect x Start).1 refl refl refl p
  effect_pinned x Commit c e l p = by_commit x x.transaction p
  effect_pinned x Rollback c e l p = again x (record x { transaction = None }) refl refl refl p
  effect_pinned x (ChangeRows ch) c e l p =
      altered_keeps (IsPinned s n) x ch p (λ q. by_working x x.transaction (changed_entry x ch) p)
  effect_pinned x (AnswerQuery q) c e l p = asked_stays (IsPinned s n) x q _ p
  effect_pinned x (Read m q) c e l p = asked_stays (IsPinned s n) x q _ p
  effect_pinned x (Prune m) c e l p = record {
    definitions = p.definitions;
    live = p.live;
    pinned = p.pinned;
    horizon =
        let k = p.horizon in
        let after = not_before m x.horizon (no_fault (int_lt m x.horizon) BeforeTheHorizon l) in
        omega (arith, ints);
  }
  effect_pinned x (OpenReader m) c e l p = record {
    definitions = p.definitions;
    live = live_more n (record { name = m; pinned = x.history }) x.readers p.live;
    pinned = pinned_more n (record { name = m; pinned = x.history }) x.readers p.live ∙ p.pinned;
    horizon = p.horizon;
  }
  effect_pinned x (CloseReader m) c e l p =
      let apart : m ≡ n → ⊥ = λ q. c (ap (λ (k : Name). CloseReader k) q) in
      record {
        definitions = p.definitions;
        live = live_kept m n apart x.readers ∙ p.live;
        pinned = pinned_kept m n apart x.readers ∙ p.pinned;
        horizon = p.horizon;
      }

  -- only CLOSE READER closes a reader
  closes : (defs : List TableDef) (t : Statement) → (bind defs t).value ≡ CloseReader n → t ≡ CloseTree n
  closes defs (CreateTree m e es versioned) q = absurd (cc)
  closes defs (DropTree m) q = absurd (cc)
  closes defs (InsertValues m ns t ts) q = absurd (cc)
  closes defs (InsertSelect m ns k) q = absurd (cc)
  closes defs (UpdateTree m p x ss c) q = absurd (cc)
  closes defs (DeleteTree m p c) q = absurd (cc)
  closes defs (QueryTree k keys) q = absurd (cc)
  closes defs StartTree q = absurd (cc)
  closes defs CommitTree q = absurd (cc)
  closes defs RollbackTree q = absurd (cc)
  closes defs (AtTree m) q = absurd (cc)
  closes defs (PruneTree m) q = absurd (cc)
  closes defs (OpenTree m) q = absurd (cc)
  closes defs (ReadTree m k keys) q = absurd (cc)
  closes defs (CloseTree m) q = ap (λ (k : Name). CloseTree k) (cc)

  -- a piece that does not close the reader preserves this
  sense_pinned : (x : State) (sense : Sense)
      → (sense ≡ Says (CloseTree n) → (respond_to x sense).0 ≡ Refused OutOfMemory) → IsPinned s n x
      → IsPinned s n (respond_to x sense).1
  sense_pinned x (Faulty e) c p = p
  sense_pinned x (Says t) c p =
      let r = effect x (bind x.definitions t).value in
      unless_either (IsPinned s n) (first (statement_faults x t)) x r.0 r.1 p
      (λ e. let k = taken x t e in
      effect_pinned x (bind x.definitions t).value (not_closed e) k.free k.within p)
    where
      -- CLOSE READER without a fault does not reply that memory ran out
      not_closed : first (statement_faults x t) ≡ None → (bind x.definitions t).value ≡ CloseReader n → ⊥
      not_closed e q =
          let r = effect x (bind x.definitions t).value in
          let done : r.0 ≡ Done ClosedReader None = ap (λ (b : Bound). (effect x b).0) q in
          let reply : (respond_to x (Says t)).0 ≡ r.0 = ap (λ o. (unless_refused o x r.0 r.1).0) e in
          let full = c (ap (λ (u : Statement). Says u) (closes x.definitions t q)) in
          absurd (let both = sym done ∙ sym reply ∙ full in cc)

  run_pinned : (x now : State) (pieces : List Piece) (replies : List Reply) → IsPinned s n x → Run x pieces replies now
      → ClosesNever n pieces replies → IsPinned s n now
  run_pinned x now [] [] p r c = subst (IsPinned s n) (sym r) p
  run_pinned x now [] (y ∷ ys) p r c = absurd r
  run_pinned x now (y ∷ ys) [] p r c = absurd r
  run_pinned x now (y ∷ ys) (z ∷ zs) p (mid, a, rest) c = run_pinned mid now ys zs (one a) rest c.1
    where
      one : Answers x y z mid → IsPinned s n mid
      one (inl (sense, means, e)) =
          subst (IsPinned s n) (sym (ap (λ (w : Reply × State). w.1) e))
          (sense_pinned x sense
          (λ q. sym (ap (λ (w : Reply × State). w.0) e) ∙ c.0 (subst (HasSense y) q means)) p)
      one (inr e) = subst (IsPinned s n) (sym e.1) p

  -- the state after the opening has this property
  opening : (o : Option Refusal) (x : State) (r : Reply) → (o ≡ None → IsPinned s n x)
      → (unless_refused o s r x).0 ≡ Done OpenedReader None → IsPinned s n (unless_refused o s r x).1
  opening None x r k e = k refl
  opening (Some f) x r k e = absurd (cc)

  opened : (respond s (OpenTree n)).0 ≡ Done OpenedReader None → IsPinned s n (respond s (OpenTree n)).1
  opened e =
      let r = effect s (OpenReader n) in
      opening (first (statement_faults s (OpenTree n))) r.1 r.0
      (λ q. let l : limit_faults s (OpenReader n) ≡ [] = no_left (limit_faults s (OpenReader n)) []
      (none_first (limit_faults s (OpenReader n) ++ []) q) in
      record {
        definitions = refl;
        live = live_first n s.history s.readers;
        pinned = pinned_first n s.history s.readers
            (no_fault (is_live n s.readers) ReaderNotUsable
            (no_right (fault_if (nat_le most_readers (length (names_of s.readers))) TooManyTablesOrReaders) _ l));
        horizon = omega (arith, ints);
      }) e

-- ---- the reply to a READ

-- the reply, or the refusal if there is a fault
abbrev unless : Option Refusal → Reply → Reply
unless None r = r
unless (Some e) r = Refused e

unless_reply : (o : Option Refusal) (old new : State) (r : Reply) → (unless_refused o old r new).0 ≡ unless o r
unless_reply None old new r = refl
unless_reply (Some e) old new r = refl

-- the reply to a query: its rows in order, or out of range
abbrev told : Query → Option (List Row) → Reply
told q None = Refused ValueOutOfRange
told q (Some rows) = Table q.headings (in_order q.ordering rows)

asked_reply : (s : State) (q : Query) (o : Option (List Row)) → (asked s q o).0 ≡ told q o
asked_reply s q None = refl
asked_reply s q (Some rows) = refl

-- the reply to a query over these copies, with these faults in front of its own
abbrev replied : (Query → List Refusal) → List TableDef → List Entry → SelectTree → List OrderTree → Reply
replied limits defs es q keys =
    let k : Checked Selected = select defs q keys in
    unless (first (limits k.value.query ++ (k.faults ++ [])))
    (told k.value.query (answer (bag_in defs es) k.value.query))

-- the faults of a READ by the reader and the horizon
abbrev read_limits : Bool → ℤ → List TableDef → Query → List Refusal
read_limits live h defs q = fault_if (not live || reads_plain defs q) ReaderNotUsable ++ query_faults h q

read_reply : (s : State) (n : Name) (q : SelectTree) (keys : List OrderTree)
    → (respond s (ReadTree n q keys)).0
    ≡ replied (read_limits (is_live n s.readers) s.horizon s.definitions) s.definitions (pinned_of n s.readers) q keys
read_reply s n q keys =
    let k : Query = (select s.definitions q keys).value.query in
    let r = effect s (Read n k) in
    let o = first (statement_faults s (ReadTree n q keys)) in
    unless_reply o s r.1 r.0 ∙ ap (unless o) (asked_reply s k (answer (bag_in s.definitions (pinned_of n s.readers)) k))

query_reply : (s : State) (q : SelectTree) (keys : List OrderTree)
    → (respond (stopped s) (QueryTree q keys)).0 ≡ replied (query_faults s.horizon) s.definitions s.history q keys
query_reply s q keys =
    let k : Query = (select s.definitions q keys).value.query in
    let r = effect (stopped s) (AnswerQuery k) in
    let o = first (statement_faults (stopped s) (QueryTree q keys)) in
    unless_reply o (stopped s) r.1 r.0
    ∙ ap (unless o) (asked_reply (stopped s) k (answer (bag_in s.definitions s.history) k))

-- a fault that is not the first does not change the first
unless_it : (xs : List Refusal) (e : Refusal) (b : Bool) (ys : List Refusal)
    → (first (xs ++ (fault_if b e ++ ys)) ≡ Some e → ⊥) → first (xs ++ (fault_if b e ++ ys)) ≡ first (xs ++ ys)
unless_it xs e true ys h = elim (one_more xs e ys) [ inl q ↦ absurd (h q) | inr q ↦ q ]
unless_it xs e false ys h = refl

-- if the first fault of a READ is neither the reader's nor the horizon's, it is that of the query at the opening
read_first : (bs : List Refusal) (reader after before : Bool) → (before ≡ true → after ≡ true)
    → (first ((fault_if reader ReaderNotUsable ++ fault_if after BeforeTheHorizon) ++ bs) ≡ Some BeforeTheHorizon → ⊥)
    → (first ((fault_if reader ReaderNotUsable ++ fault_if after BeforeTheHorizon) ++ bs) ≡ Some ReaderNotUsable → ⊥)
    → first ((fault_if reader ReaderNotUsable ++ fault_if after BeforeTheHorizon) ++ bs)
    ≡ first (fault_if before BeforeTheHorizon ++ bs)
read_first bs reader after before k no_horizon no_reader = to_bs ∙ sym (from_bs before k)
  where
    moved : first ((fault_if reader ReaderNotUsable ++ fault_if after BeforeTheHorizon) ++ bs)
        ≡ first (fault_if reader ReaderNotUsable ++ (fault_if after BeforeTheHorizon ++ bs))
    moved = ap first (append_assoc (fault_if reader ReaderNotUsable) (fault_if after BeforeTheHorizon) bs)

    to_reader : first ((fault_if reader ReaderNotUsable ++ fault_if after BeforeTheHorizon) ++ bs)
        ≡ first (fault_if reader ReaderNotUsable ++ bs)
    to_reader =
        moved ∙ unless_it (fault_if reader ReaderNotUsable) BeforeTheHorizon after bs (λ e. no_horizon (moved ∙ e))

    to_bs : first ((fault_if reader ReaderNotUsable ++ fault_if after BeforeTheHorizon) ++ bs) ≡ first bs
    to_bs = to_reader ∙ unless_it [] ReaderNotUsable reader bs (λ e. no_reader (to_reader ∙ e))

    sooner_is : (b : Bool) → sooner (first (fault_if b ReaderNotUsable)) (Some BeforeTheHorizon) ≡ Some BeforeTheHorizon
    sooner_is true = refl
    sooner_is false = refl

    -- if the fault of the horizon came first before `bs`, it would be the first fault of the READ
    too_early : after ≡ true → first (BeforeTheHorizon ∷ bs) ≡ Some BeforeTheHorizon
        → first ((fault_if reader ReaderNotUsable ++ fault_if after BeforeTheHorizon) ++ bs) ≡ Some BeforeTheHorizon
    too_early a q =
        moved ∙ ap (λ b. first (fault_if reader ReaderNotUsable ++ (fault_if b BeforeTheHorizon ++ bs))) a
        ∙ first_append (fault_if reader ReaderNotUsable) (BeforeTheHorizon ∷ bs)
        ∙ ap (λ o. sooner (first (fault_if reader ReaderNotUsable)) o) q ∙ sooner_is reader

    from_bs : (b : Bool) → (b ≡ true → after ≡ true) → first (fault_if b BeforeTheHorizon ++ bs) ≡ first bs
    from_bs false f = refl
    from_bs true f = elim (one_more [] BeforeTheHorizon bs) [
      | inl q ↦ absurd (no_horizon (too_early (f refl) q))
      | inr q ↦ q
    ]

-- ---- laws

-- a READ in a state with the property replies as the query at the opening
reads_stable : (s now : State) (n : Name) → IsPinned s n now → (q : SelectTree) (keys : List OrderTree)
    → Counts (respond now (ReadTree n q keys)).0
    → (respond now (ReadTree n q keys)).0 ≡ (respond (stopped s) (QueryTree q keys)).0
reads_stable s now n p q keys c =
    now_is ∙ ap (λ o. unless o (told query (answer (bag_in s.definitions s.history) query)))
    (read_first (k.faults ++ []) (reads_plain s.definitions query) (asks_before now.horizon query)
    (asks_before s.horizon query) (asks_later s.horizon now.horizon p.horizon query)
    (λ e. c.0 (refused BeforeTheHorizon e)) (λ e. c.1 (refused ReaderNotUsable e)))
    ∙ sym (query_reply s q keys)
  where
    k : Checked Selected
    k = select s.definitions q keys

    query : Query
    query = k.value.query

    now_is : (respond now (ReadTree n q keys)).0
        ≡ replied (read_limits true now.horizon s.definitions) s.definitions s.history q keys
    now_is = read_reply now n q keys
        ∙ ap (λ (d : List TableDef). replied (read_limits (is_live n now.readers) now.horizon d) d
        (pinned_of n now.readers) q keys) p.definitions
        ∙ ap (λ (es : List Entry). replied (read_limits (is_live n now.readers) now.horizon s.definitions)
        s.definitions es q keys) p.pinned
        ∙ ap (λ b. replied (read_limits b now.horizon s.definitions) s.definitions s.history q keys) p.live

    refused : (e : Refusal)
        → first (read_limits true now.horizon s.definitions query ++ (k.faults ++ [])) ≡ Some e
        → (respond now (ReadTree n q keys)).0 ≡ Refused e
    refused e f = now_is ∙ ap (λ o. unless o (told query (answer (bag_in s.definitions s.history) query))) f

pub readers_are_stable : ReadersAreStable
readers_are_stable s now n o q keys c =
    let opening : State = (respond s (OpenTree n)).1 in
    reads_stable s now n (run_pinned s n opening now o.pieces o.replies (opened s n o.opened) o.run o.stays) q keys c

-- two answers with the same reply leave the same state, if a token list spells at most one statement
one_after : SpellsOnce → (old new new' : State) (p : Piece) (r : Reply) → Answers old p r new → Answers old p r new'
    → new ≡ new'
one_after once old new new' p r (inl (a, h, e)) (inl (b, k, f)) =
    ap (λ (x : Reply × State). x.1) (e ∙ ap (respond_to old) (senses_are_one once p a b h k) ∙ sym f)
one_after once old new new' p r (inl (a, h, e)) (inr k) =
    ap (λ (x : Reply × State). x.1) e
    ∙ respond_keeps old a OutOfMemory (sym (ap (λ (x : Reply × State). x.0) e) ∙ k.0) ∙ sym k.1
one_after once old new new' p r (inr h) (inl (b, k, f)) =
    h.1 ∙ sym (ap (λ (x : Reply × State). x.1) f
    ∙ respond_keeps old b OutOfMemory (sym (ap (λ (x : Reply × State). x.0) f) ∙ h.0))
one_after once old new new' p r (inr h) (inr k) = h.1 ∙ sym k.1

-- two runs with the same replies end in the same state
one_end : SpellsOnce → (old new new' : State) (pieces : List Piece) (replies : List Reply) → Run old pieces replies new
    → Run old pieces replies new' → new ≡ new'
one_end once old new new' [] [] r r' = r ∙ sym r'
one_end once old new new' [] (x ∷ xs) r r' = absurd r
one_end once old new new' (p ∷ ps) [] r r' = absurd r
one_end once old new new' (p ∷ ps) (x ∷ xs) (mid, a, rest) (mid', a', rest') =
    one_end once mid' new new' ps xs (subst (λ s. Run s ps xs new) (one_after once old mid mid' p x a a') rest) rest'

pub reads_agree : SpellsOnce → ReadsAgree
reads_agree once old s s' now now' n before replies r r' o o' q keys c c' =
    readers_are_stable s now n o q keys c
    ∙ ap (λ (x : State). (respond (stopped x) (QueryTree q keys)).0) (one_end once old s s' before replies r r')
    ∙ sym (readers_are_stable s' now' n o' q keys c')
