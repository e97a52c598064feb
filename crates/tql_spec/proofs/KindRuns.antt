-- Statements preserve the kinds of rows; in every state that a run reaches, rows are of their tables' kinds.
use Rattle.std.proofs.Common.{◌≡◌, refl, sym, subst, ℕ, zero, suc, Bool, true, false, List, [], ◌∷◌, ◌++◌, map, filter}
use Rattle.std.proofs.Common.{length, inl, inr, arith}
use Rattle.std.specs.Prelude.{◌&&◌, not, remove, slice_set, ℤ, int_le, int_lt, if◌then◌else◌, Option, Some, None}
use Rattle.std.proofs.Math.ListN.{get_or-append}
use Rattle.tql_spec.specs.Words.{listed}
use Rattle.tql_spec.specs.Bag.{In}
use Rattle.tql_spec.specs.Calendar.{high}
use Rattle.tql_spec.specs.Refusal.{first}
use Rattle.tql_spec.specs.Definition.{TableDef, Stamped, Version, no_table, table_at, full, shown}
use Rattle.tql_spec.specs.Creation.{kinds_of}
use Rattle.tql_spec.specs.History.{Copy, Entry, When, Now, AsOf, FromTo, Between, rows_in, table_history, found}
use Rattle.tql_spec.specs.History.{as_of_from, found_from, completed, with_end, still, ends_before, meets, has_version}
use Rattle.tql_spec.specs.Machine.{State, Bound, CreateTable, DropTable, SetClock, Start, Commit, Rollback, ChangeRows}
use Rattle.tql_spec.specs.Machine.{AnswerQuery}
use Rattle.tql_spec.specs.Machine.{Change, outcome, changed_table, class_of, state_faults, effect, newest_copy}
use Rattle.tql_spec.specs.Machine.{new_state, bag_of, entries, Prune, limit_faults}
use Rattle.tql_spec.specs.Machine.{OpenReader, Read, CloseReader}
use Rattle.tql_spec.specs.Binding.{bind}
use Rattle.tql_spec.specs.Reached.{CopiesFit}
use Rattle.tql_spec.specs.Typing.{AreOfKinds, AreTypedDefinitions, IsTypedDefinition, IsTypedState, RowsAreTyped}
use Rattle.tql_spec.specs.TypingLaws.{IsTypedBag, IsTypedBound, IsTypedChange, BoundAreTyped, BagsAreTyped}
use Rattle.tql_spec.specs.TypingLaws.{StepsKeepTypes, ReachedAreTyped}
use Rattle.tql_spec.proofs.MemberLists.{in_either, in_image, in_kept}
use Rattle.tql_spec.proofs.FirstFaults.{none_first}
use Rattle.tql_spec.proofs.RunKeeps.{unless_either, asked_stays, changed_entry, altered_keeps, run_keeps, no_right}
use Rattle.tql_spec.proofs.InOrder.{state}
use Rattle.tql_spec.proofs.Copies.{rows_more, skip, removed_at, rows_set, no_rows, effect_fits, in_entries}
use Rattle.tql_spec.proofs.WidthRuns.{there_within}
use Rattle.tql_spec.proofs.RowKinds.{same_kinds, generated_same}
use Rattle.tql_spec.proofs.RowChanges.{Good, AllGood}
use Rattle.tql_spec.proofs.ChangeKinds.{change_good}

-- ---- the rows that queries find

-- the row is in some copy
record IsKept (t : ℕ) (es : List Entry) (r : Stamped) : Type 0 where
  entry : Entry
  among : In entry es
  there : In r (rows_in entry.copy t)

-- a row of some copy is a row of some copy with one more copy in front
kept_later : (t : ℕ) (e : Entry) (es : List Entry) (r : Stamped) → IsKept t es r → IsKept t (e ∷ es) r
kept_later t e es r k = record { entry = k.entry; among = inr k.among; there = k.there }

-- the row of a version of the first copy is in some copy
completed_row : (ends : Stamped → ℤ) (t : ℕ) (e : Entry) (es : List Entry) (v : Version)
    → In v (completed ends (rows_in e.copy t))
    → IsKept t (e ∷ es) v.row
completed_row ends t e es v m =
    let i = in_image (with_end ends) v (rows_in e.copy t) m in
    record { entry = e; among = inl refl; there = subst (λ (x : Version). In x.row (rows_in e.copy t)) (sym i.2) i.1 }

as_of_kept : (t : ℕ) (until : ℤ) (ends : Stamped → ℤ) (m : ℤ) (es : List Entry) (v : Version)
    → In v (as_of_from until ends m (table_history t es)) → IsKept t es v.row
as_of_kept t until ends m [] v i = absurd i
as_of_kept t until ends m (e ∷ es) v i = either (int_le e.moment m && int_lt m until)
    (as_of_kept t e.moment (ends_before (record { moment = e.moment; rows = rows_in e.copy t }) ends) m es v) i
  where
    rest : List Version
    rest = as_of_from e.moment (ends_before (record { moment = e.moment; rows = rows_in e.copy t }) ends) m
        (table_history t es)

    either : (b : Bool) → (In v rest → IsKept t es v.row)
        → In v (if b then completed ends (rows_in e.copy t) else rest) → IsKept t (e ∷ es) v.row
    either true ih n = completed_row ends t e es v n
    either false ih n = kept_later t e es v.row (ih n)

found_kept : (t : ℕ) (until : ℤ) (ends : Stamped → ℤ) (a b : ℤ) (es : List Entry) (v : Version)
    → In v (found_from until ends a b (table_history t es)) → IsKept t es v.row
found_kept t until ends a b [] v i = absurd i
found_kept t until ends a b (e ∷ es) v i = elim (in_either v (filter (λ w. not (has_version rest w.row)) here) rest i) [
  | inl n ↦ either (meets a b e.moment until) (in_kept (λ (w : Version). not (has_version rest w.row)) v here n).0
  | inr n ↦ kept_later t e es v.row
      (found_kept t e.moment (ends_before (record { moment = e.moment; rows = rows_in e.copy t }) ends) a b es v n)
]
  where
    rest : List Version
    rest = found_from e.moment (ends_before (record { moment = e.moment; rows = rows_in e.copy t }) ends) a b
        (table_history t es)

    here : List Version
    here = if meets a b e.moment until then completed ends (rows_in e.copy t) else []

    either : (c : Bool) → In v (if c then completed ends (rows_in e.copy t) else []) → IsKept t (e ∷ es) v.row
    either true n = completed_row ends t e es v n
    either false n = absurd n

-- the row of each version that a query finds is in some copy
question_kept : (t : ℕ) (w : When) (es : List Entry) (v : Version) → In v (found w (table_history t es))
    → IsKept t es v.row
question_kept t Now [] v i = absurd i
question_kept t Now (e ∷ es) v i = completed_row still t e es v i
question_kept t (AsOf m) es v i = as_of_kept t _ still m es v i
question_kept t (FromTo a b) es v i = found_kept t _ still a b es v i
question_kept t (Between a b) es v i = found_kept t _ still a _ es v i

-- the references of a query have rows of their tables' kinds
bag_typed : (s : State) → RowsAreTyped s → IsTypedBag s.definitions (bag_of s)
bag_typed s h r row m =
    let d : TableDef = table_at s.definitions r.table in
    let i = in_image (full d) row (found r.when (table_history r.table (entries s))) m in
    let k = question_kept r.table r.when (entries s) i.0 i.1 in
    subst (AreOfKinds (kinds_of d)) (sym i.2)
    (same_kinds (kinds_of d) (shown d i.0.row) (full d i.0)
    (generated_same d.system i.0.row.cells i.0.row.start high i.0.row.start i.0.end)
    (h k.entry k.among r.table i.0.row k.there))

-- the law: the rows that queries find are typed
pub bags_typed : BagsAreTyped
bags_typed s h = bag_typed s h.rows

-- ---- the rows of a copy

-- each row of each table is good
abbrev CopyGood : List TableDef → Copy → Type 0
CopyGood defs copy = (t : ℕ) → AllGood (table_at defs t) (rows_in copy t)

-- the rows of each copy are good
abbrev EntriesGood : List TableDef → List Entry → Type 0
EntriesGood defs es = (e : Entry) → In e es → CopyGood defs e.copy

-- one more typed definition leaves all definitions typed
defined_more : (defs : List TableDef) (d : TableDef) → AreTypedDefinitions defs → IsTypedDefinition d
    → AreTypedDefinitions (defs ++ d ∷ [])
defined_more [] d h k zero = k
defined_more [] d h k (suc t) = h (suc t)
defined_more (x ∷ defs) d h k zero = h zero
defined_more (x ∷ defs) d h k (suc t) = defined_more defs d (λ i. h (suc i)) k t

-- the rows stay good with one more table
good_more : (defs : List TableDef) (d : TableDef) (copy : Copy) → length copy ≡ length defs → CopyGood defs copy
    → CopyGood (defs ++ d ∷ []) (copy ++ [] ∷ [])
good_more defs d copy n h t r m =
    let there : In r (rows_in copy t) = subst (λ xs. In r xs) (rows_more copy t) m in
    let within = there_within copy t r there in
    subst (λ (x : TableDef). Good x r) (sym (get_or-append defs (d ∷ []) no_table t (omega arith))) (h t r there)

-- the rows stay good with one table removed
good_less : (defs : List TableDef) (k : ℕ) (copy : Copy) → CopyGood defs copy → CopyGood (remove defs k) (remove copy k)
good_less defs k copy h t r m =
    subst (λ (x : TableDef). Good x r) (sym (removed_at defs k t no_table))
    (h (skip k t) r (subst (λ xs. In r xs) (removed_at copy k t []) m))

-- the rows of the newest copy are good
newest_good : (defs : List TableDef) (es : List Entry) → EntriesGood defs es → CopyGood defs (newest_copy defs es)
newest_good defs [] h t r m = absurd (subst (λ xs. In r xs) (no_rows defs t) m)
newest_good defs (e ∷ es) h t r m = h e (inl refl) t r m

-- the rows stay good after the same change of every copy
good_in_each : (g : Copy → Copy) (new : List TableDef) (es : List Entry)
    → ((e : Entry) → In e es → CopyGood new (g e.copy))
    → EntriesGood new (map (λ (e : Entry). record e { copy = g e.copy }) es)
good_in_each g new es k e m =
    let i = in_image (λ (x : Entry). record x { copy = g x.copy }) e es m in subst
    (λ (x : Entry). CopyGood new x.copy) (sym i.2) (k i.0 i.1)

-- the rows are good with one more entry in front
first_good : (defs : List TableDef) (e : Entry) (es : List Entry) → CopyGood defs e.copy → EntriesGood defs es
    → EntriesGood defs (e ∷ es)
first_good defs e es h k x (inl q) = subst (λ (y : Entry). CopyGood defs y.copy) (sym q) h
first_good defs e es h k x (inr m) = k x m

-- the rows stay good after a change of one table in a copy
changed_good : (s : State) (m : ℤ) (copy : Copy) (c : Change) → AreTypedDefinitions s.definitions
    → IsTypedBag s.definitions (bag_of s)
    → IsTypedChange s.definitions c → CopyGood s.definitions copy → (outcome s m copy c).faults ≡ []
    → CopyGood s.definitions (slice_set copy (changed_table c) (outcome s m copy c).rows)
changed_good s m copy c d b k h f t = elim (rows_set copy (changed_table c) (outcome s m copy c).rows t) [
  | inl e ↦ subst (AllGood (table_at s.definitions t)) (sym e) (h t)
  | inr e ↦ subst (AllGood (table_at s.definitions t)) (sym e.1)
      (subst (λ i. AllGood (table_at s.definitions i) (outcome s m copy c).rows) (sym e.0)
      (change_good s m copy c (d (changed_table c)) b k (h (changed_table c)) f))
]

-- ---- statements and runs

-- the definitions are typed, and the rows are good
abbrev Both : State → Type 0
Both s = AreTypedDefinitions s.definitions × EntriesGood s.definitions (entries s)

-- the rows of a state are typed
rows_typed : (s : State) → Both s → RowsAreTyped s
rows_typed s h e m t r i = (h.1 e m t r i).typed

-- each effect preserves this
effect_good : (base : State) (defs : List TableDef) (history : List Entry) (next : ℤ) (begun : Option Entry) (b : Bound)
    → state_faults (state base defs history next begun) (class_of b) ≡ [] → IsTypedBound defs b
    → CopiesFit (state base defs history next begun)
    → Both (state base defs history next begun) → Both (effect (state base defs history next begun) b).1
effect_good base defs history next None (CreateTable d) e g f h = (
  defined_more defs d h.0 g,
  good_in_each (λ copy. copy ++ [] ∷ []) (defs ++ d ∷ []) history (λ x m. good_more defs d x.copy (f x m) (h.1 x m)),
)
effect_good base defs history next (Some w) (CreateTable d) e g f h = absurd (cc)
effect_good base defs history next None (DropTable t) e g f h = (
  λ i. subst IsTypedDefinition (sym (removed_at defs t i no_table)) (h.0 (skip t i)),
  good_in_each (λ copy. remove copy t) (remove defs t) history (λ x m. good_less defs t x.copy (h.1 x m)),
)
effect_good base defs history next (Some w) (DropTable t) e g f h = absurd (cc)
effect_good base defs history next begun (SetClock m) e g f h = h
effect_good base defs history next begun (OpenReader n) e g f h = h
effect_good base defs history next begun (CloseReader n) e g f h = h
effect_good base defs history next begun (Read n q) e g f h =
    asked_stays Both (state base defs history next begun) q _ h
effect_good base defs history next begun (Prune m) e g f h =
    (h.0, λ x i. h.1 x (in_entries m x (listed begun) history i))
effect_good base defs history next None Start e g f h =
    (h.0, first_good defs _ history (newest_good defs history h.1) h.1)
effect_good base defs history next (Some w) Start e g f h = absurd (cc)
effect_good base defs history next None Commit e g f h = h
effect_good base defs history next (Some w) Commit e g f h = h
effect_good base defs history next None Rollback e g f h = h
effect_good base defs history next (Some w) Rollback e g f h = (h.0, λ x m. h.1 x (inr m))
effect_good base defs history next None (ChangeRows c) e g f h =
    let s : State = state base defs history next None in
    altered_keeps Both s c h
    (λ q. (
      h.0,
      first_good defs (changed_entry s c) history
          (changed_good s next (newest_copy defs history) c h.0 (bag_typed s (rows_typed s h)) g
          (newest_good defs history h.1) q.sound) h.1,
    ))
effect_good base defs history next (Some w) (ChangeRows c) e g f h =
    let s : State = state base defs history next (Some w) in
    altered_keeps Both s c h
    (λ q. (
      h.0,
      first_good defs (changed_entry s c) history
          (changed_good s w.moment w.copy c h.0 (bag_typed s (rows_typed s h)) g (h.1 w (inl refl)) q.sound)
          (λ x m. h.1 x (inr m)),
    ))
effect_good base defs history next begun (AnswerQuery q) e g f h =
    asked_stays Both (state base defs history next begun) q _ h

-- a state with fitting copies is then typed
typed_state : (s : State) → CopiesFit s → Both s → IsTypedState s
typed_state s f h = record {
  definitions = h.0;
  copies = f;
  rows = rows_typed s h;
  periods = λ e m t r i. (h.1 e m t r i).period;
}

-- each effect that the state does not refuse preserves that the state is typed
effect_typed : (s : State) (b : Bound) → state_faults s (class_of b) ≡ [] → IsTypedState s
    → IsTypedBound s.definitions b
    → IsTypedState (effect s b).1
effect_typed s b e h k = typed_state (effect s b).1
    (effect_fits s s.definitions s.history s.next s.transaction b e h.copies)
    (effect_good s s.definitions s.history s.next s.transaction b e k h.copies
    (h.definitions, λ x m t r i. record { typed = h.rows x m t r i; period = h.periods x m t r i }))

-- the law: steps preserve that the state is typed
pub steps_keep : StepsKeepTypes
steps_keep = record {
  steps = λ s b h k. unless_either IsTypedState (first (limit_faults s b ++ state_faults s (class_of b))) s
      (effect s b).0
      (effect s b).1 h
      (λ e. effect_typed s b
      (no_right (limit_faults s b) (state_faults s (class_of b))
      (none_first (limit_faults s b ++ state_faults s (class_of b)) e)) h k);
  effects = effect_typed;
}

-- the first state is typed
pub first_typed : IsTypedState new_state
first_typed = typed_state new_state (λ e m. absurd m)
    (λ t. record { system = λ s q. absurd (cc); application = λ a q. absurd (cc) }, λ e m. absurd m)

-- the law: every state that a run reaches is typed
pub reached_typed : BoundAreTyped → ReachedAreTyped
reached_typed b s r = run_keeps IsTypedState
    (λ x t k h. effect_typed x (bind x.definitions t).value k.free h (b x.definitions t k.sound))
    new_state r.pieces r.replies s r.run first_typed
