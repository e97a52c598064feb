-- The moments of commits decrease and lie below the clock, and copies fit the definitions.
use Rattle.std.proofs.Common.{◌≡◌, refl, sym, ap, subst, ◌∙◌, true, false, List, [], ◌∷◌, ◌++◌, map, inl, inr, arith}
use Rattle.std.specs.Prelude.{Bool, not, ℤ, pos, ◌+ℤ◌, ◌<ℤ◌, ◌≤ℤ◌, int_le, Option, Some, None, if◌then◌else◌}
use Rattle.std.proofs.lemmas.Int.{ints}
use Rattle.tql_spec.specs.Calendar.{high}
use Rattle.tql_spec.specs.Refusal.{Refusal, MomentNotAllowed, fault_if}
use Rattle.tql_spec.specs.Definition.{TableDef}
use Rattle.tql_spec.specs.History.{Copy, Entry, FallingFrom, Falling}
use Rattle.tql_spec.specs.Machine.{State, Bound, CreateTable, DropTable, SetClock, Start, Commit, Rollback, ChangeRows}
use Rattle.tql_spec.specs.Machine.{AnswerQuery}
use Rattle.tql_spec.specs.Machine.{class_of, state_faults, effect, is_not_later, committed, new_state, Prune}
use Rattle.tql_spec.specs.Horizon.{pruned}
use Rattle.tql_spec.specs.Words.{listed, same_text}
use Rattle.tql_spec.specs.Bag.{In}
use Rattle.tql_spec.specs.Readers.{Reader}
use Rattle.tql_spec.specs.Machine.{OpenReader, Read, CloseReader}
use Rattle.tql_spec.specs.Binding.{bind}
use Rattle.tql_spec.specs.Reached.{IsReached, IsInOrder}
use Rattle.tql_spec.proofs.MemberLists.{in_either, in_kept}
use Rattle.tql_spec.proofs.RunKeeps.{asked_stays, changed_copy, altered_keeps, EffectKeeps, run_keeps}

-- if the fault is absent, the test is false
pub no_fault : (b : Bool) (e : Refusal) → fault_if b e ≡ [] → b ≡ false
no_fault true e q = absurd (cc)
no_fault false e q = refl

-- an upper bound of the moments can be raised
falls_below : (a b : ℤ) (es : List Entry) → a ≤ℤ b → FallingFrom a es → FallingFrom b es
falls_below a b [] h f = tt
falls_below a b (e ∷ es) h f = (omega (arith, ints, f.0), f.1)

-- a moment later than the last commit is an upper bound
falls_later : (n m : ℤ) (es : List Entry) → FallingFrom n es → is_not_later m es ≡ false → FallingFrom m es
falls_later n m [] f e = tt
falls_later n m (x ∷ es) f e = (grind (arith, ints), f.1)

-- a change of the copies does not change the moments
falls_in_each : (g : Copy → Copy) (until : ℤ) (es : List Entry) → FallingFrom until es
    → FallingFrom until (map (λ (e : Entry). record e { copy = g e.copy }) es)
falls_in_each g until [] f = tt
falls_in_each g until (e ∷ es) f = (f.0, falls_in_each g e.moment es f.1)

-- the moments of the copies that a horizon leaves still decrease
pub falls_pruned : (h until : ℤ) (es : List Entry) → FallingFrom until es → FallingFrom until (pruned h es)
falls_pruned h until [] f = tt
falls_pruned h until (e ∷ es) f = (f.0, either (int_le e.moment h) (falls_pruned h e.moment es f.1))
  where
    either : (b : Bool) → FallingFrom e.moment (pruned h es) → FallingFrom e.moment (if b then [] else pruned h es)
    either true g = tt
    either false g = g

-- a clock that is not at the highest moment is before it
before_end : (n : ℤ) → int_le high n ≡ false → n <ℤ high
before_end n e = grind (arith, ints)

-- the state with these parts replaced
abbrev pub state : State → List TableDef → List Entry → ℤ → Option Entry → State
state base defs history next begun =
    record base { definitions = defs; history = history; next = next; transaction = begun }

-- the moments of the pinned copies decrease
abbrev ReadersFall : State → Type 0
ReadersFall s = (r : Reader) → In r s.readers → Falling r.pinned

-- a state without an open transaction is in order
closed : (base : State) (defs : List TableDef) (history : List Entry) (next : ℤ) → Falling history
    → FallingFrom next history → ReadersFall base → IsInOrder (state base defs history next None)
closed base defs history next f g p =
    record { falling = f; below_clock = g; opened = λ e q. absurd (cc); set_aside = p }

-- a state with a transaction at the clock's moment is in order
opened_at : (base : State) (defs : List TableDef) (history : List Entry) (next : ℤ) (copy : Copy) → next <ℤ high
    → FallingFrom next history → ReadersFall base
    → IsInOrder (state base defs history next (Some (record { moment = next; copy = copy })))
opened_at base defs history next copy h f p = record {
  falling = (h, f);
  below_clock = f;
  opened = λ e q. ap
      (λ (o : Option Entry). moment_or o) (sym q);
  set_aside = p;
}
  where
    moment_or : Option Entry → ℤ
    moment_or None = next
    moment_or (Some e) = e.moment

-- a state after a commit, with the clock after the commit's moment, is in order
just_after : (base : State) (defs : List TableDef) (history : List Entry) (next : ℤ) (e : Entry) → e.moment <ℤ high
    → FallingFrom e.moment history → ReadersFall base → IsInOrder (committed (state base defs history next None) e)
just_after base defs history next e h f p =
    closed base defs (e ∷ history) (e.moment +ℤ pos 1) (h, f) (omega (arith, ints), f) p

-- a state with another working copy is in order
still_open : (base : State) (defs : List TableDef) (history : List Entry) (next : ℤ) (w : Entry) (copy : Copy)
    → IsInOrder (state base defs history next (Some w))
    → IsInOrder (state base defs history next (Some (record { moment = w.moment; copy = copy })))
still_open base defs history next w copy o = record {
  falling = o.falling;
  below_clock = o.below_clock;
  opened = λ x p. ap moment_or (sym p) ∙ o.opened w refl;
  set_aside = o.set_aside;
}
  where
    moment_or : Option Entry → ℤ
    moment_or None = next
    moment_or (Some x) = x.moment

-- each effect preserves the order of moments
effect_in_order : (base : State) (defs : List TableDef) (history : List Entry) (next : ℤ) (begun : Option Entry)
    (b : Bound)
    → state_faults (state base defs history next begun) (class_of b) ≡ []
    → IsInOrder (state base defs history next begun) → IsInOrder (effect (state base defs history next begun) b).1
effect_in_order base defs history next None (CreateTable d) e o =
    closed base _ _ next (falls_in_each _ high history o.falling) (falls_in_each _ next history o.below_clock)
    o.set_aside
effect_in_order base defs history next (Some w) (CreateTable d) e o = absurd (cc)
effect_in_order base defs history next None (DropTable t) e o =
    closed base _ _ next (falls_in_each _ high history o.falling) (falls_in_each _ next history o.below_clock)
    o.set_aside
effect_in_order base defs history next (Some w) (DropTable t) e o = absurd (cc)
effect_in_order base defs history next None (SetClock m) e o =
    closed base defs history m o.falling
    (falls_later next m history o.below_clock (no_fault (is_not_later m history) MomentNotAllowed e)) o.set_aside
effect_in_order base defs history next (Some w) (SetClock m) e o = absurd (cc)
effect_in_order base defs history next None Start e o =
    opened_at base defs history next _ (before_end next (no_fault (int_le high next) MomentNotAllowed e)) o.below_clock
    o.set_aside
effect_in_order base defs history next (Some w) Start e o = absurd (cc)
effect_in_order base defs history next None Commit e o = absurd (cc)
effect_in_order base defs history next (Some w) Commit e o =
    just_after base defs history next w o.falling.0 o.falling.1 o.set_aside
effect_in_order base defs history next None Rollback e o = absurd (cc)
effect_in_order base defs history next (Some w) Rollback e o =
    let f = o.falling.0 in closed base defs history next
    (falls_below w.moment high history (omega (arith, ints)) o.falling.1) o.below_clock o.set_aside
effect_in_order base defs history next None (ChangeRows c) e o =
    altered_keeps IsInOrder (state base defs history next None) c o
    (λ q. just_after base defs history next _
    (before_end next (no_fault (int_le high next) MomentNotAllowed e)) o.below_clock o.set_aside)
effect_in_order base defs history next (Some w) (ChangeRows c) e o =
    altered_keeps IsInOrder (state base defs history next (Some w)) c o
    (λ q. still_open base defs history next w (changed_copy (state base defs history next (Some w)) c) o)
effect_in_order base defs history next None (Prune m) e o =
    closed (record base { horizon = m }) defs (pruned m history) next (falls_pruned m high history o.falling)
    (falls_pruned m next history o.below_clock) o.set_aside
effect_in_order base defs history next (Some w) (Prune m) e o = absurd (cc)
effect_in_order base defs history next begun (OpenReader n) e o = record {
  falling = o.falling;
  below_clock = o.below_clock;
  opened = o.opened;
  set_aside = λ r i. elim (in_either r base.readers (record { name = n; pinned = history } ∷ []) i) [
    | inl j ↦ o.set_aside r j
    | inr j ↦ elim j [
      | inl q ↦ subst (λ (x : Reader). Falling x.pinned) (sym q) (history_falls begun o.falling)
      | inr z ↦ absurd z
    ]
  ];
}
  where
    history_falls : (b : Option Entry) → Falling (listed b ++ history) → Falling history
    history_falls None f = f
    history_falls (Some w) f = falls_below w.moment high history (let g = f.0 in omega (arith, ints)) f.1
effect_in_order base defs history next begun (CloseReader n) e o = record {
  falling = o.falling;
  below_clock = o.below_clock;
  opened = o.opened;
  set_aside = λ r i. o.set_aside r (in_kept (λ (x : Reader). not (same_text n x.name)) r base.readers i).0;
}
effect_in_order base defs history next begun (Read n q) e o =
    asked_stays IsInOrder (state base defs history next begun) q _ o
effect_in_order base defs history next begun (AnswerQuery q) e o =
    asked_stays IsInOrder (state base defs history next begun) q _ o

-- each accepted statement preserves it
pub keeps_in_order : EffectKeeps IsInOrder
keeps_in_order s t k o =
    effect_in_order s s.definitions s.history s.next s.transaction (bind s.definitions t).value k.free o

-- the first state is in order
pub first_in_order : IsInOrder new_state
first_in_order = closed new_state [] [] _ tt tt (λ r m. absurd m)

-- every state that a run reaches is in order
pub reached_in_order : (s : State) → IsReached s → IsInOrder s
reached_in_order s r = run_keeps IsInOrder keeps_in_order new_state r.pieces r.replies s r.run first_in_order
