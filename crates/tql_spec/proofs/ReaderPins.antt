-- The copies that a reader pinned are the history up to its pin, except for copies that a horizon removed.
use Rattle.std.proofs.Common.{◌≡◌, refl, sym, ap, subst, ◌∙◌, ℕ, zero, suc, Bool, true, false, List, [], ◌∷◌, ◌++◌}
use Rattle.std.proofs.Common.{take, inl, inr, arith}
use Rattle.std.specs.Prelude.{◌||◌, not, ℤ, ◌≤ℤ◌, ◌<ℤ◌, int_le, int_lt, if◌then◌else◌, Option, Some, None, is_some}
use Rattle.std.proofs.lemmas.Int.{ints}
use Rattle.tql_spec.specs.Words.{same_text, listed}
use Rattle.tql_spec.specs.Calendar.{high}
use Rattle.tql_spec.specs.Bag.{In}
use Rattle.tql_spec.specs.Refusal.{NotInThisTransactionState, ReadersAreOpen, BeforeTheHorizon, fault_if}
use Rattle.tql_spec.specs.Definition.{TableDef}
use Rattle.tql_spec.specs.History.{Entry, FallingFrom, Falling, table_history, found}
use Rattle.tql_spec.specs.Horizon.{pruned}
use Rattle.tql_spec.specs.HorizonLaws.{IsLeft}
use Rattle.tql_spec.specs.Readers.{Reader, is_any_open, passes, passes_some}
use Rattle.tql_spec.specs.Machine.{State, Bound, CreateTable, DropTable, SetClock, Start, Commit, Rollback, ChangeRows}
use Rattle.tql_spec.specs.Machine.{AnswerQuery, Prune, OpenReader, Read, CloseReader, class_of, state_faults}
use Rattle.tql_spec.specs.Machine.{limit_faults, effect, new_state}
use Rattle.tql_spec.specs.Binding.{bind}
use Rattle.tql_spec.specs.Reached.{IsInOrder}
use Rattle.tql_spec.specs.ReaderLaws.{pin, not_after, until_pin, ReadsTheHistory, ReadersReadTheHistory}
use Rattle.tql_spec.proofs.Members.{le_tells}
use Rattle.tql_spec.proofs.MemberLists.{in_either, in_right, in_kept}
use Rattle.tql_spec.proofs.RunKeeps.{no_right, asked_stays, changed_entry, altered_keeps, EffectKeeps, run_keeps}
use Rattle.tql_spec.proofs.InOrder.{no_fault, state, keeps_in_order, first_in_order}
use Rattle.tql_spec.proofs.Horizons.{not_before, LeavesSome, question_left, pruned_left}
use Rattle.tql_spec.proofs.HorizonRuns.{whole}

-- a moment is later than the newest pinned copy; true if there is none
abbrev Later : List Entry → ℤ → Type 0
Later [] m = Unit {0}
Later (p ∷ older) m = p.moment <ℤ m

-- the history is copies that are later than the pinned ones, followed by the pinned copies that the horizon left
record IsHeld (h : ℤ) (history pinned : List Entry) : Type 0 where
  newer : List Entry
  left : ℕ
  whole : history ≡ newer ++ take left pinned
  enough : IsLeft h left pinned
  later : (e : Entry) → In e newer → Later pinned e.moment
  falls : Falling pinned

-- this holds for each reader
abbrev AllHeld : State → Type 0
AllHeld s = (r : Reader) → In r s.readers → IsHeld s.horizon s.history r.pinned

-- ---- commits

-- copies are before an upper bound of their moments
below_all : (until : ℤ) (es : List Entry) → FallingFrom until es → (e : Entry) → In e es → e.moment <ℤ until
below_all until [] f e m = absurd m
below_all until (x ∷ es) f e (inl q) =
    let a = f.0 in let b : e.moment ≡ x.moment = ap (λ (y : Entry). y.moment) q in omega (arith, ints)
below_all until (x ∷ es) f e (inr m) = let a = f.0 in let b = below_all x.moment es f.1 e m in omega (arith, ints)

-- the newest pinned copy is in the history
pin_there : (h : ℤ) (history : List Entry) (p : Entry) (older : List Entry) → IsHeld h history (p ∷ older)
    → In p history
pin_there h history p older k =
    subst (λ (es : List Entry). In p es) (sym k.whole)
    (in_right p k.newer (take k.left (p ∷ older)) (first k.left k.enough))
  where
    first : (n : ℕ) → IsLeft h n (p ∷ older) → In p (take n (p ∷ older))
    first zero l = absurd l
    first (suc n) l = inl refl

-- a moment later than the history is later than the pinned copies
later_than : (h : ℤ) (history pinned : List Entry) (m : ℤ) → FallingFrom m history → IsHeld h history pinned
    → Later pinned m
later_than h history [] m f k = tt
later_than h history (p ∷ older) m f k = below_all m history f p (pin_there h history p older k)

-- one more commit preserves this
held_more : (h : ℤ) (history pinned : List Entry) (e : Entry) → FallingFrom e.moment history → IsHeld h history pinned
    → IsHeld h (e ∷ history) pinned
held_more h history pinned e f k = record {
  newer = e ∷ k.newer;
  left = k.left;
  whole = ap {B = List Entry} (λ es. e ∷ es) k.whole;
  enough = k.enough;
  later = λ x m. elim m [
    | inl q ↦ subst (λ (y : Entry). Later pinned y.moment) (sym q) (later_than h history pinned e.moment f k)
    | inr i ↦ k.later x i
  ];
  falls = k.falls;
}

-- ---- pruning

-- pruning keeps the copies that are later than the horizon
pruned_behind : (m : ℤ) (newer es : List Entry) → ((e : Entry) → In e newer → m <ℤ e.moment)
    → pruned m (newer ++ es) ≡ newer ++ pruned m es
pruned_behind m [] es l = refl
pruned_behind m (x ∷ newer) es l =
    ap (λ b. x ∷ (if b then [] else pruned m (newer ++ es))) (not_reached (l x (inl refl)))
    ∙ ap {B = List Entry} (λ ys. x ∷ ys) (pruned_behind m newer es (λ e i. l e (inr i)))
  where
    not_reached : m <ℤ x.moment → int_le x.moment m ≡ false
    not_reached k = elim (le_tells x.moment m) [ inl s ↦ absurd (let a = s.1 in omega (arith, ints)) | inr s ↦ s.0 ]

-- pruning by a horizon that does not pass the reader preserves this
held_pruned : (h m : ℤ) (history pinned : List Entry) → h ≤ℤ m → passes m pinned ≡ false → IsHeld h history pinned
    → IsHeld m (pruned m history) pinned
held_pruned h m history [] l e k = absurd (cc)
held_pruned h m history (p ∷ older) l e k =
    let q = pruned_left h m l k.left (p ∷ older) k.enough in
    record {
      newer = k.newer;
      left = q.left;
      whole = ap (pruned m) k.whole
          ∙ pruned_behind m k.newer (take k.left (p ∷ older))
          (λ x i. let a = k.later x i in let b = not_before p.moment m e in omega (arith, ints))
          ∙ ap (λ (es : List Entry). k.newer ++ es) q.same;
      enough = q.enough;
      later = k.later;
      falls = k.falls;
    }

-- a horizon that passes no reader does not pass a given one
none_passed : (m : ℤ) (rs : List Reader) → passes_some m rs ≡ false → (r : Reader) → In r rs → passes m r.pinned ≡ false
none_passed m [] e r i = absurd i
none_passed m (x ∷ rs) e r (inl q) =
    ap (λ (y : Reader). passes m y.pinned) q ∙ first (passes m x.pinned) (passes_some m rs) e
  where
    first : (a b : Bool) → a || b ≡ false → a ≡ false
    first true b k = absurd (cc)
    first false b k = refl
none_passed m (x ∷ rs) e r (inr i) = none_passed m rs (second (passes m x.pinned) (passes_some m rs) e) r i
  where
    second : (a b : Bool) → a || b ≡ false → b ≡ false
    second true b k = absurd (cc)
    second false b k = k

-- ---- statements and runs

-- if no reader is open, there is none
no_reader : (rs : List Reader) → is_any_open rs ≡ false → (r : Reader) → In r rs → ⊥
no_reader [] e r i = absurd i
no_reader (x ∷ rs) e r i = absurd (cc)

none_open : (x : State)
    → fault_if (is_some x.transaction) NotInThisTransactionState ++ fault_if (is_any_open x.readers) ReadersAreOpen ≡ []
    → (r : Reader) → In r x.readers → ⊥
none_open x e = no_reader x.readers
    (no_fault (is_any_open x.readers) ReadersAreOpen
    (no_right (fault_if (is_some x.transaction) NotInThisTransactionState) _ e))

effect_held : (base : State) (defs : List TableDef) (history : List Entry) (next : ℤ) (begun : Option Entry) (b : Bound)
    → state_faults (state base defs history next begun) (class_of b) ≡ []
    → limit_faults (state base defs history next begun) b ≡ [] → IsInOrder (state base defs history next begun)
    → AllHeld (state base defs history next begun) → AllHeld (effect (state base defs history next begun) b).1
effect_held base defs history next begun (CreateTable d) e l o k =
    λ r i. absurd (none_open (state base defs history next begun) e r i)
effect_held base defs history next begun (DropTable t) e l o k =
    λ r i. absurd (none_open (state base defs history next begun) e r i)
effect_held base defs history next begun (SetClock m) e l o k = k
effect_held base defs history next begun Start e l o k = k
effect_held base defs history next None Commit e l o k = k
effect_held base defs history next (Some w) Commit e l o k =
    λ r i. held_more base.horizon history r.pinned w o.falling.1 (k r i)
effect_held base defs history next begun Rollback e l o k = k
effect_held base defs history next None (ChangeRows c) e l o k =
    let s : State = state base defs history next None in
    altered_keeps AllHeld s c k
    (λ q r i. held_more base.horizon history r.pinned (changed_entry s c) o.below_clock (k r i))
effect_held base defs history next (Some w) (ChangeRows c) e l o k =
    altered_keeps AllHeld (state base defs history next (Some w)) c k (λ q. k)
effect_held base defs history next begun (AnswerQuery q) e l o k =
    asked_stays AllHeld (state base defs history next begun) q _ k
effect_held base defs history next begun (Read n q) e l o k =
    asked_stays AllHeld (state base defs history next begun) q _ k
effect_held base defs history next begun (Prune m) e l o k =
    λ r i. held_pruned base.horizon m history r.pinned
    (not_before m base.horizon (no_fault (int_lt m base.horizon) BeforeTheHorizon l))
    (none_passed m base.readers (no_fault (passes_some m base.readers) ReadersAreOpen
    (no_right (fault_if (is_some begun) NotInThisTransactionState) _ e)) r i) (k r i)
effect_held base defs history next begun (OpenReader n) e l o k =
    λ r i. elim (in_either r base.readers (record { name = n; pinned = history } ∷ []) i) [
      | inl j ↦ k r j
      | inr j ↦ elim j [
        | inl q ↦ subst (λ (x : Reader). IsHeld base.horizon history x.pinned) (sym q) (record {
          newer = [];
          left = all.left;
          whole = all.same;
          enough = all.enough;
          later = λ x m. absurd m;
          falls = history_falls begun o.falling;
        })
        | inr z ↦ absurd z
      ]
    ]
  where
    all : LeavesSome base.horizon history history
    all = whole base.horizon history

    falls_below : (a b : ℤ) (es : List Entry) → a ≤ℤ b → FallingFrom a es → FallingFrom b es
    falls_below a b [] h f = tt
    falls_below a b (x ∷ es) h f = (omega (arith, ints, f.0), f.1)

    history_falls : (b : Option Entry) → Falling (listed b ++ history) → Falling history
    history_falls None f = f
    history_falls (Some w) f = falls_below w.moment high history (let g = f.0 in omega (arith, ints)) f.1
effect_held base defs history next begun (CloseReader n) e l o k =
    λ r i. k r (in_kept (λ (x : Reader). not (same_text n x.name)) r base.readers i).0

-- the state is in order, and this holds for each reader
record IsPinnedWell (s : State) : Type 0 where
  in_order : IsInOrder s
  held : AllHeld s

keeps_held : EffectKeeps IsPinnedWell
keeps_held s t k c = record {
  in_order = keeps_in_order s t k c.in_order;
  held =
      effect_held s s.definitions s.history s.next s.transaction (bind s.definitions t).value k.free k.within
      c.in_order c.held;
}

-- ---- the law

-- the copies up to the pin are the pinned copies that are left
up_to : (p : Entry) (newer es : List Entry) → ((e : Entry) → In e newer → p.moment <ℤ e.moment)
    → not_after p.moment (newer ++ p ∷ es) ≡ p ∷ es
up_to p [] es l = ap (λ b. if b then p ∷ es else not_after p.moment es) (itself p.moment)
  where
    itself : (x : ℤ) → int_le x x ≡ true
    itself x = elim (le_tells x x) [ inl s ↦ s.0 | inr s ↦ absurd (let a = s.1 in omega (arith, ints)) ]
up_to p (x ∷ newer) es l =
    ap (λ b. if b then x ∷ (newer ++ p ∷ es) else not_after p.moment (newer ++ p ∷ es)) (not_reached (l x (inl refl)))
    ∙ up_to p newer es (λ e i. l e (inr i))
  where
    not_reached : p.moment <ℤ x.moment → int_le x.moment p.moment ≡ false
    not_reached k = elim (le_tells x.moment p.moment) [
      | inl s ↦ absurd (let a = s.1 in omega (arith, ints))
      | inr s ↦ s.0
    ]

held_up_to : (h : ℤ) (history pinned : List Entry) (k : IsHeld h history pinned)
    → until_pin (pin pinned) history ≡ take k.left pinned
held_up_to h history [] k = none k.left
  where
    none : (n : ℕ) → ◌≡◌ {A = List Entry} [] (take n [])
    none zero = refl
    none (suc n) = refl
held_up_to h history (p ∷ older) k =
    ap (not_after p.moment) k.whole ∙ by_left k.left k.enough
  where
    by_left : (n : ℕ) → IsLeft h n (p ∷ older) → not_after p.moment (k.newer ++ take n (p ∷ older)) ≡ take n (p ∷ older)
    by_left zero l = absurd l
    by_left (suc n) l = up_to p k.newer (take n older) k.later

reads_held : (s : State) (r : Reader) → IsHeld s.horizon s.history r.pinned → ReadsTheHistory s r
reads_held s r k = record {
  kept = λ p q. by_pin r.pinned k p q;
  questions = λ t w e.
      ap (λ (es : List Entry). found w (table_history t es)) (held_up_to s.horizon s.history r.pinned k)
      ∙ question_left t s.horizon k.left r.pinned w k.falls k.enough e;
}
  where
    by_pin : (pinned : List Entry) → IsHeld s.horizon s.history pinned → (p : ℤ) → pin pinned ≡ Some p
        → (e : Entry) × In e s.history × (e.moment ≡ p)
    by_pin [] k p q = absurd (cc)
    by_pin (x ∷ older) k p q = (x, pin_there s.horizon s.history x older k, cc)

pub readers_read_the_history : ReadersReadTheHistory
readers_read_the_history s reached r i =
    let c = run_keeps IsPinnedWell keeps_held new_state reached.pieces reached.replies s reached.run
    (record { in_order = first_in_order; held = λ x m. absurd m }) in
    reads_held s r (c.held r i)
