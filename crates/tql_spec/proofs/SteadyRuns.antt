-- Each copy keeps the multiplicity of the rows of the one before it, or removes them. Statements preserve this, so rows
-- are steady.
use Rattle.std.proofs.Common.{◌≡◌, refl, sym, ap, subst, ◌∙◌, ℕ, List, [], ◌∷◌, ◌++◌, map, inl, inr, arith, Bool, true}
use Rattle.std.proofs.Common.{false}
use Rattle.std.specs.Prelude.{◌⊎◌, slice_set, remove, ℤ, ◌<ℤ◌, ◌≤ℤ◌, Option, Some, None, int_le, if◌then◌else◌}
use Rattle.std.proofs.lemmas.Int.{ints}
use Rattle.tql_spec.specs.Bag.{In}
use Rattle.tql_spec.specs.Calendar.{high}
use Rattle.tql_spec.specs.Definition.{TableDef, Stamped}
use Rattle.tql_spec.specs.History.{Copy, Entry, FallingFrom, Falling, rows_in}
use Rattle.tql_spec.specs.Machine.{State, Bound, CreateTable, DropTable, SetClock, Start, Commit, Rollback, ChangeRows}
use Rattle.tql_spec.specs.Machine.{AnswerQuery}
use Rattle.tql_spec.specs.Machine.{Change, outcome, changed_table, class_of, state_faults, effect, entries}
use Rattle.tql_spec.specs.Machine.{newest_copy, new_state, Prune}
use Rattle.tql_spec.specs.Horizon.{pruned}
use Rattle.tql_spec.specs.Machine.{OpenReader, Read, CloseReader}
use Rattle.tql_spec.specs.Binding.{bind}
use Rattle.tql_spec.specs.Spans.{times, InEach, IsSteady}
use Rattle.tql_spec.specs.Reached.{IsInOrder, ReachedAreSteady, ReachedReadBySpans}
use Rattle.tql_spec.proofs.MemberLists.{times_some, there_if}
use Rattle.tql_spec.proofs.RunKeeps.{asked_stays, altered_keeps, EffectKeeps, run_keeps}
use Rattle.tql_spec.proofs.InOrder.{state, keeps_in_order, first_in_order, reached_in_order}
use Rattle.tql_spec.proofs.Copies.{rows_more, skip, removed_at, rows_set, no_rows}
use Rattle.tql_spec.proofs.Steady.{Passes, change_passes}
use Rattle.tql_spec.proofs.SpanLaws.{reads_by_spans}
use Rattle.tql_spec.proofs.SteadyRanges.{steady_ranges_agree}

-- ---- consecutive copies

-- rows of a copy of the moment m: a row that began before m has the multiplicity that it has in the copy before, if
-- there is one, or is removed. No row begins after m
record Leaves (m : ℤ) (rows : List Stamped) (old : Option (List Stamped)) : Type 0 where
  as_before : (r : Stamped) (before : List Stamped) → old ≡ Some before → r.start <ℤ m
      → (times r rows ≡ 0) ⊎ (times r rows ≡ times r before)
  not_after : (r : Stamped) → In r rows → r.start ≤ℤ m

-- a table's rows in the newest copy, if there is one
abbrev newest_rows : ℕ → List Entry → Option (List Stamped)
newest_rows t [] = None
newest_rows t (e ∷ es) = Some (rows_in e.copy t)

-- this holds for each table
abbrev Follows : ℤ → Copy → List Entry → Type 0
Follows m copy older = (t : ℕ) → Leaves m (rows_in copy t) (newest_rows t older)

-- each copy follows the one before it; of the oldest copy, only that no row begins after it
abbrev Chain : List Entry → Type 0
Chain [] = Unit {0}
Chain (e ∷ es) = Follows e.moment e.copy es × Chain es

-- ---- from consecutive copies to steady rows

-- a row of c that began by the moment of an older copy d is in each copy between, and as often in d as in c
down_to : (t : ℕ) (r : Stamped) (c : Entry) (between : List Entry) (d : Entry) (older : List Entry)
    → Chain (c ∷ (between ++ d ∷ older)) → FallingFrom c.moment (between ++ d ∷ older)
    → In r (rows_in c.copy t) → r.start ≤ℤ d.moment
    → InEach t between r × (times r (rows_in c.copy t) ≡ times r (rows_in d.copy t))
down_to t r c [] d older k f n h = (
  (λ x m. absurd m),
  elim ((k.0 t).as_before r _ refl (omega (arith, ints, h, f.0))) [
    | inl z ↦ absurd (omega (arith, z, times_some r (rows_in c.copy t) n))
    | inr e ↦ e
  ],
)
down_to t r c (e ∷ between) d older k f n h =
    let sooner : d.moment <ℤ e.moment = below e.moment between f.1 in
    let same : times r (rows_in c.copy t) ≡ times r (rows_in e.copy t) = elim
    ((k.0 t).as_before r _ refl (omega (arith, ints, h, sooner, f.0))) [
      | inl z ↦ absurd (omega (arith, z, times_some r (rows_in c.copy t) n))
      | inr q ↦ q
    ] in
    let there : In r (rows_in e.copy t) = there_if r (rows_in e.copy t)
    (omega (arith, same, times_some r (rows_in c.copy t) n)) in
    let rest = down_to t r e between d older k.1 f.1 there h in (
      (λ x m. elim m [ inl q ↦ subst (λ (y : Entry). In r (rows_in y.copy t)) (sym q) there | inr i ↦ rest.0 x i ]),
      same ∙ rest.1,
    )
  where
    below : (until : ℤ) (xs : List Entry) → FallingFrom until (xs ++ d ∷ older) → d.moment <ℤ until
    below until [] g = g.0
    below until (x ∷ xs) g = let l = below x.moment xs g.1 in omega (arith, ints, g.0)

-- a member of a list has a position in it
part_at : (x : Entry) (xs : List Entry) → In x xs
    → (before : List Entry) × (after : List Entry) × (xs ≡ before ++ x ∷ after)
part_at x [] m = absurd m
part_at x (y ∷ ys) (inl e) = ([], ys, ap {B = List Entry} (λ (z : Entry). z ∷ ys) (sym e))
part_at x (y ∷ ys) (inr m) = let p = part_at x ys m in (y ∷ p.0, p.1, ap {B = List Entry} (λ zs. y ∷ zs) p.2)

-- the older copies of a chain are a chain
drop_chain : (newer es : List Entry) → Chain (newer ++ es) → Chain es
drop_chain [] es k = k
drop_chain (x ∷ newer) es k = drop_chain newer es k.1

-- the moments of the older copies decrease
drop_falling : (until : ℤ) (newer : List Entry) (c : Entry) (es : List Entry) → FallingFrom until (newer ++ c ∷ es)
    → FallingFrom c.moment es
drop_falling until [] c es f = f.1
drop_falling until (x ∷ newer) c es f = drop_falling x.moment newer c es f.1

-- no row of a copy begins after the copy
begun_by : (t : ℕ) (r : Stamped) (d : Entry) (older : List Entry) → Chain (d ∷ older) → In r (rows_in d.copy t)
    → r.start ≤ℤ d.moment
begun_by t r d older k n = (k.0 t).not_after r n

-- a row has the same multiplicity in the newest copy and in an older one that has it
newest_and : (t : ℕ) (r : Stamped) (c : Entry) (es : List Entry) (d : Entry) → Chain (c ∷ es)
    → FallingFrom c.moment es → In d es → In r (rows_in c.copy t) → In r (rows_in d.copy t)
    → times r (rows_in c.copy t) ≡ times r (rows_in d.copy t)
newest_and t r c es d k f m n o =
    let p = part_at d es m in
    let chain : Chain (c ∷ (p.0 ++ d ∷ p.1)) = subst (λ xs. Chain (c ∷ xs)) p.2 k in
    (down_to t r c p.0 d p.1 chain (subst (FallingFrom c.moment) p.2 f) n
    (begun_by t r d p.1 (drop_chain (c ∷ p.0) (d ∷ p.1) chain) o)).1

-- a row has the same multiplicity in any two copies that have it
one_for_all : (t : ℕ) (until : ℤ) (es : List Entry) → Chain es → FallingFrom until es → (r : Stamped) (c d : Entry)
    → In c es → In d es → In r (rows_in c.copy t) → In r (rows_in d.copy t)
    → times r (rows_in c.copy t) ≡ times r (rows_in d.copy t)
one_for_all t until [] k f r c d m n i j = absurd m
one_for_all t until (e ∷ es) k f r c d (inl p) (inl q) i j =
    ap (λ (x : Entry). times r (rows_in x.copy t)) (p ∙ sym q)
one_for_all t until (e ∷ es) k f r c d (inl p) (inr n) i j =
    ap (λ (x : Entry). times r (rows_in x.copy t)) p
    ∙ newest_and t r e es d k f.1 n (subst (λ (x : Entry). In r (rows_in x.copy t)) p i) j
one_for_all t until (e ∷ es) k f r c d (inr m) (inl q) i j =
    sym (ap (λ (x : Entry). times r (rows_in x.copy t)) q
    ∙ newest_and t r e es c k f.1 m (subst (λ (x : Entry). In r (rows_in x.copy t)) q j) i)
one_for_all t until (e ∷ es) k f r c d (inr m) (inr n) i j = one_for_all t e.moment es k.1 f.1 r c d m n i j

-- a chain of copies is steady
steady : (t : ℕ) (es : List Entry) → Chain es → Falling es → IsSteady t es
steady t es k f = record {
  one_multiplicity = λ r c d m n i j. one_for_all t high es k f r c d m n i j;
  no_return = λ r newer between older c d q i j.
      let chain : Chain (c ∷ (between ++ d ∷ older)) = drop_chain newer (c ∷ (between ++ d ∷ older))
      (subst Chain q k) in
      let falls : FallingFrom c.moment (between ++ d ∷ older) = drop_falling high newer c (between ++ d ∷ older)
      (subst Falling q f) in
      (down_to t r c between d older chain falls i
      (begun_by t r d older (drop_chain (c ∷ between) (d ∷ older) chain) j)).0;
}

-- ---- the effects of statements

-- the property for equal rows
leaves_as : (m : ℤ) {rows rows' : List Stamped} {old old' : Option (List Stamped)} → rows' ≡ rows → old' ≡ old
    → Leaves m rows old
    → Leaves m rows' old'
leaves_as m {rows} {rows'} {old} {old'} p q l = subst (λ x. Leaves m x old') (sym p) (subst (Leaves m rows) (sym q) l)

-- a chain stays a chain if each copy gets its tables from others by the same map of indices
chain_in_each : (g : Copy → Copy) (from : ℕ → ℕ)
    → ((copy : Copy) (t : ℕ) → rows_in (g copy) t ≡ rows_in copy (from t)) → (es : List Entry) → Chain es
    → Chain (map (λ (e : Entry). record e { copy = g e.copy }) es)
chain_in_each g from h [] k = tt
chain_in_each g from h (e
    ∷ es) k = ((λ t. leaves_as e.moment (h e.copy t) (below es t) (k.0 (from t))), chain_in_each g from h es k.1)
  where
    below : (xs : List Entry) (t : ℕ)
        → newest_rows t (map (λ (x : Entry). record x { copy = g x.copy }) xs) ≡ newest_rows (from t) xs
    below [] t = refl
    below (x ∷ xs) t = ap (λ rows. Some rows) (h x.copy t)

-- the copies that a horizon leaves are a chain
chain_pruned : (h : ℤ) (es : List Entry) → Chain es → Chain (pruned h es)
chain_pruned h [] k = tt
chain_pruned h (e ∷ es) k = either (int_le e.moment h) (chain_pruned h es k.1)
  where
    same : (t : ℕ) (xs : List Entry) → newest_rows t (pruned h xs) ≡ newest_rows t xs
    same t [] = refl
    same t (x ∷ xs) = refl

    either : (b : Bool) → Chain (pruned h es) → Chain (e ∷ (if b then [] else pruned h es))
    either true rest = ((λ t. record { as_before = λ r before q. absurd (cc); not_after = (k.0 t).not_after }), tt)
    either false rest = ((λ t. leaves_as e.moment refl (same t es) (k.0 t)), rest)

-- `Some` is injective
some_is : (x y : List Stamped) → Some x ≡ Some y → x ≡ y
some_is x y q = cc

-- the newest copy, repeated at a later moment, follows
leaves_same : (m : ℤ) (defs : List TableDef) (es : List Entry) → Chain es → FallingFrom m es
    → Follows m (newest_copy defs es) es
leaves_same m defs [] k f t = record {
  as_before = λ r before q. absurd (cc);
  not_after = λ r n. absurd (subst (λ xs. In r xs) (no_rows defs t) n);
}
leaves_same m defs (e ∷ es) k f t =
    record {
      as_before = λ r before q h. inr (ap (times r) (some_is _ _ q));
      not_after = λ r n. let l = (k.0 t).not_after r n in omega
          (arith, ints, l, f.0);
    }

-- a copy with one changed table still follows
changed_follows : (s : State) (m : ℤ) (copy : Copy) (old : List Entry) (c : Change) → Follows m copy old
    → Follows m (slice_set copy (changed_table c) (outcome s m copy c).rows) old
changed_follows s m copy old c k t = elim (rows_set copy (changed_table c) (outcome s m copy c).rows t) [
  | inl e ↦ leaves_as m e refl (k t)
  | inr e ↦ leaves_as m e.1 refl
      (after (change_passes s m copy c) (subst (λ i. Leaves m (rows_in copy i) (newest_rows t old)) e.0 (k t)))
]
  where
    after : {rows new : List Stamped} {before : Option (List Stamped)} → Passes m rows new → Leaves m rows before
        → Leaves m new before
    after p l = record {
      as_before = λ r b o h. elim (p.as_before r h) [
        | inl z ↦ inl z
        | inr e ↦ elim (l.as_before r b o h) [ inl z ↦ inl (e ∙ z) | inr q ↦ inr (e ∙ q) ]
      ];
      not_after = p.not_after l.not_after;
    }

-- the state is in order, and each copy follows the one before it
record IsChained (s : State) : Type 0 where
  in_order : IsInOrder s
  chain : Chain (entries s)

-- each effect preserves the chain
effect_chained : (base : State) (defs : List TableDef) (history : List Entry) (next : ℤ) (begun : Option Entry)
    (b : Bound)
    → state_faults (state base defs history next begun) (class_of b) ≡ []
    → IsInOrder (state base defs history next begun) → Chain (entries (state base defs history next begun))
    → Chain (entries (effect (state base defs history next begun) b).1)
effect_chained base defs history next None (CreateTable d) e o k =
    chain_in_each (λ copy. copy ++ [] ∷ []) (λ t. t) rows_more history k
effect_chained base defs history next (Some w) (CreateTable d) e o k = absurd (cc)
effect_chained base defs history next None (DropTable t) e o k =
    chain_in_each (λ copy. remove copy t) (skip t) (λ copy i. removed_at copy t i []) history k
effect_chained base defs history next (Some w) (DropTable t) e o k = absurd (cc)
effect_chained base defs history next begun (SetClock m) e o k = k
effect_chained base defs history next begun (OpenReader n) e o k = k
effect_chained base defs history next begun (CloseReader n) e o k = k
effect_chained base defs history next begun (Read n q) e o k =
    asked_stays (λ x. Chain (entries x)) (state base defs history next begun) q _ k
effect_chained base defs history next None (Prune m) e o k = chain_pruned m history k
effect_chained base defs history next (Some w) (Prune m) e o k = absurd (cc)
effect_chained base defs history next None Start e o k = (leaves_same next defs history k o.below_clock, k)
effect_chained base defs history next (Some w) Start e o k = absurd (cc)
effect_chained base defs history next None Commit e o k = k
effect_chained base defs history next (Some w) Commit e o k = k
effect_chained base defs history next None Rollback e o k = k
effect_chained base defs history next (Some w) Rollback e o k = k.1
effect_chained base defs history next None (ChangeRows c) e o k =
    let s : State = state base defs history next None in
    altered_keeps (λ x. Chain (entries x)) s c k
    (λ q. (
      changed_follows s next (newest_copy defs history) history c
          (leaves_same next defs history k o.below_clock),
      k,
    ))
effect_chained base defs history next (Some w) (ChangeRows c) e o k =
    let s : State = state base defs history next (Some w) in
    altered_keeps (λ x. Chain (entries x)) s c k (λ q. (changed_follows s w.moment w.copy history c k.0, k.1))
effect_chained base defs history next begun (AnswerQuery q) e o k =
    asked_stays (λ x. Chain (entries x)) (state base defs history next begun) q _ k

-- each accepted statement preserves it
keeps_chained : EffectKeeps IsChained
keeps_chained s t k c = record {
  in_order = keeps_in_order s t k c.in_order;
  chain = effect_chained s s.definitions s.history s.next s.transaction
      (bind s.definitions t).value k.free c.in_order c.chain;
}

-- the law: rows are steady in every state that a run reaches
pub reached_are_steady : ReachedAreSteady
reached_are_steady s r t =
    let c = run_keeps IsChained keeps_chained new_state r.pieces r.replies s r.run
    (record { in_order = first_in_order; chain = tt }) in
    steady t (entries s) c.chain c.in_order.falling

-- the law: queries there read the copies by their spans; for a range, any copy met that has a row will do
pub reached_read_by_spans : ReachedReadBySpans
reached_read_by_spans s r t =
    let falling = (reached_in_order s r).falling in
    record {
      by_spans = reads_by_spans t (entries s) falling;
      any_copy = λ a b. steady_ranges_agree t a b
          (entries s) falling (reached_are_steady s r t);
    }
