-- The invariant of a store holds after a change of a table in the open transaction, and after the end of the
-- transaction.
use Rattle.std.proofs.Common.{◌≡◌, ◌≢◌, ℕ, suc, ◌+◌, ◌<◌, Bool, true, false, cond, List, [], ◌∷◌, ◌++◌}
use Rattle.std.proofs.Common.{filter, length, refl, sym, ap, subst, ◌∙◌, arith, inl, inr}
use Rattle.std.specs.Prelude.{ℤ, ◌<ℤ◌, ◌≤ℤ◌, int_lt, nat_eq, slice_index_or, slice_set, Option, Some, None}
use Rattle.std.specs.Prelude.{if◌then◌else◌, ◌⊎◌}
use Rattle.std.specs.Ordering.{int_eq}
use Rattle.std.specs.List.{sum_by}
use Rattle.std.proofs.lemmas.Bool.Decides.{Decides-int_eq}
use Rattle.std.proofs.lemmas.Int.{ints}
use Rattle.std.proofs.lemmas.List.{get_or_default}
use Rattle.std.proofs.lemmas.List.Sums.{sum_by-cons}
use Rattle.tql_spec.proofs.Bags.{same-refl}
use Rattle.tql_spec.proofs.Members.{by_bool}
use Rattle.tql_spec.specs.Bag.{SameBag, In}
use Rattle.tql_spec.specs.Calendar.{high}
use Rattle.tql_spec.specs.Definition.{Version}
use Rattle.tql_store_rows.proofs.Beginning.{begin-turn}
use Rattle.tql_store_rows.proofs.Turns.{eq_false, lt_true}
use Rattle.tql_versions.specs.Changes.{alive, is_current, nothing, Past, Under, pruned, undone}
use Rattle.tql_store_rows.specs.TableModel.{TableModel, AtRest, InTurn, Since, versions, live, named}
use Rattle.tql_store.proofs.Numbers.{one_number, two_numbers, put-here, put-other, put-length}
use Rattle.tql_store.proofs.Numbers.{taken_not_free, IsTouched, touched-or, AreApart, noted}
use Rattle.tql_store.specs.Orderly.{empty, table_at, touch_at, IsUntouched, IsNoted, AreInTurn}
use Rattle.tql_store.specs.Orderly.{IsOrderly, IsCommitted, IsUndone, HaveEnded, HasTurned}
use Rattle.tql_store.specs.TableSlots.{slot_at, is_taken, is_kept, is_brief}
use Rattle.tql_store.specs.declared.tables.TableSlot.{TableSlot}
use Rattle.tql_store.specs.declared.tables.TableSlot.TheVariants.{Free, Versioned, Unversioned}

-- ---- tables at rest

-- a moment no later than the last commit is earlier than a moment after it
pub before : (last : Option ℤ) (m until : ℤ) → Under last m → Past last until → until <ℤ m
before None m until u p = absurd p
before (Some l) m until u p = omega (arith, ints, u, p)

pub under_more : (last : Option ℤ) (m n : ℤ) → Under last m → m <ℤ n → Under last n
under_more None m n u l = tt
under_more (Some h) m n u l = omega (arith, ints, u, l)

no_later : (last : Option ℤ) (m until : ℤ) → Under last m → Past last until → until ≤ℤ m
no_later last m until u p = let l = before last m until u p in omega (arith, ints, l)

rest-since : (last next : Option ℤ) (h : TableModel) → Since next h → AtRest last h → AtRest next h
rest-since last next h s r = record {
  none_ended = r.none_ended;
  none_dead = r.none_dead;
  all_based = r.all_based;
  room = r.room;
  is_open = r.is_open;
  since = s;
  proper = r.proper;
  kept = r.kept;
}

since-later : (last : Option ℤ) (m : ℤ) (h : TableModel) → Under last m → Since last h → Since (Some m) h
since-later last m h u s = record {
  began = λ k l. no_later last m (named h k).row.start u (s.began k l);
  ended = λ v i. no_later last m v.end u (s.ended v i);
}

-- a table without versions is at rest
pub empty-rest : (keeps : Bool) (last : Option ℤ) → AtRest last (empty keeps)
empty-rest keeps last = record {
  none_ended = refl;
  none_dead = refl;
  all_based = refl;
  room = λ e. omega arith;
  is_open = λ k l. absurd (omega (arith, l));
  since = record { began = λ k l. absurd (omega (arith, l)); ended = λ v i. absurd i };
  proper = λ k d l. absurd (omega (arith, l));
  kept = λ e. refl;
}

-- ---- the effect of a commit on a table at rest

-- no open version is removed
pruned-open : (m : ℤ) (vs : List Version) → m <ℤ high
    → ((k : ℕ) → k < length vs → is_current (slice_index_or vs k nothing) ≡ true)
    → pruned m (filter alive vs) ≡ filter alive vs
pruned-open m [] below h = refl
pruned-open m (v ∷ vs) below h = chosen (alive v) (pruned-open m vs below (λ k l. h (suc k) (omega (arith, l))))
  where
    ends : int_lt m v.end ≡ true
    ends = let e = (Decides-int_eq v.end high).0 (h 0 (omega arith)) in let l : m <ℤ v.end =
        omega (arith, ints, e, below) in lt_true l

    chosen : (b : Bool) → pruned m (filter alive vs) ≡ filter alive vs
        → pruned m (cond b (v ∷ filter alive vs) (filter alive vs)) ≡ cond b (v ∷ filter alive vs) (filter alive vs)
    chosen true e = rw ends (ap (λ us. v ∷ us) e)
    chosen false e = e

append_none : (vs ws : List Version) → ws ≡ [] → vs ++ ws ≡ vs
append_none [] ws e = e
append_none (v ∷ vs) ws e = ap (λ us. v ∷ us) (append_none vs ws e)

rest-pruned : (last : Option ℤ) (m : ℤ) (h : TableModel) → m <ℤ high → AtRest last h → h.keeps ≡ false
    → pruned m (live h) ≡ live h
rest-pruned last m h below r e =
    let only = append_none h.current h.closed (r.kept e) in
    ap (λ vs. pruned m (filter alive vs)) only ∙ pruned-open m h.current below r.is_open ∙ ap (filter alive) (sym only)

same-list : {X : Type 0} {xs ys : List X} → xs ≡ ys → SameBag xs ys
same-list {X} {xs} {ys} e = subst (SameBag xs) e (same-refl xs)

rest-committed : (last : Option ℤ) (m : ℤ) (h : TableModel) → Under last m → m <ℤ high → AtRest last h
    → IsCommitted m h h
rest-committed last m h u below r = record {
  rest = rest-since last (Some m) h (since-later last m h u r.since) r;
  keeps = refl;
  versions = same-list (by_bool h.keeps
      (λ e. ap (λ (b : Bool). if b then live h else pruned m (live h)) (sym e))
      (λ e. sym (rest-pruned last m h below r e) ∙ ap (λ (b : Bool). if b then live h else pruned m (live h)) (sym e)));
}

-- ---- the effect of a rollback on a table at rest

undone-none : (m : ℤ) (vs : List Version)
    → ((v : Version) → In v vs → (int_lt v.row.start m ≡ true) × (int_eq v.end m ≡ false))
    → undone m (filter alive vs) ≡ filter alive vs
undone-none m [] h = refl
undone-none m (v ∷ vs) h = chosen (alive v) (undone-none m vs (λ w i. h w (inr i)))
  where
    chosen : (b : Bool) → undone m (filter alive vs) ≡ filter alive vs
        → undone m (cond b (v ∷ filter alive vs) (filter alive vs)) ≡ cond b (v ∷ filter alive vs) (filter alive vs)
    chosen true e = let s = h v (inl refl) in rw s.0 (rw s.1 (ap (λ us. v ∷ us) e))
    chosen false e = e

pub in-append : (v : Version) (xs ys : List Version) → In v (xs ++ ys) → In v xs ⊎ In v ys
in-append v [] ys i = inr i
in-append v (x ∷ xs) ys (inl e) = inl (inl e)
in-append v (x ∷ xs) ys (inr i) = elim (in-append v xs ys i) [ inl a ↦ inl (inr a) | inr b ↦ inr b ]

pub record StandsAt (vs : List Version) (v : Version) : Type 0 where
  pub place : ℕ
  pub within : place < length vs
  pub is : slice_index_or vs place nothing ≡ v

pub in-place : (v : Version) (vs : List Version) → In v vs → StandsAt vs v
in-place v [] i = absurd i
in-place v (x ∷ xs) (inl e) = record { place = 0; within = omega arith; is = sym e }
in-place v (x ∷ xs) (inr i) = let s = in-place v xs i in record {
  place = suc s.place;
  within = let l = s.within in omega (arith, l);
  is = s.is;
}

rest-undone : (last : Option ℤ) (m : ℤ) (h : TableModel) → Under last m → m <ℤ high → AtRest last h
    → undone m (live h) ≡ live h
rest-undone last m h u below r = undone-none m (versions h) (λ v i. elim (in-append v h.current h.closed i) [
  | inl a ↦ first v (in-place v h.current a)
  | inr b ↦ second v b
])
  where
    turn : InTurn m h
    turn = begin-turn last m h r u below

    ended_later : (a b : ℤ) → b <ℤ a → int_eq a b ≡ false
    ended_later a b l = by_bool (int_eq a b)
        (λ e. absurd (let s = (Decides-int_eq a b).0 e in omega (arith, ints, s, l))) (λ e. e)

    first : (v : Version) → StandsAt h.current v → (int_lt v.row.start m ≡ true) × (int_eq v.end m ≡ false)
    first v s =
        let b : s.place < h.base = let e = r.all_based in let l = s.within in omega (arith, e, l) in
        let began : v.row.start <ℤ m = subst (λ (w : Version). w.row.start <ℤ m) s.is (turn.began s.place b) in
        let e : v.end ≡ high =
        subst (λ (w : Version). w.end ≡ high) s.is
        ((Decides-int_eq (named h s.place).end high).0 (r.is_open s.place s.within)) in
        (lt_true began, ended_later v.end m (omega (arith, ints, e, below)))

    second : (v : Version) → In v h.closed → (int_lt v.row.start m ≡ true) × (int_eq v.end m ≡ false)
    second v i = let p = turn.past v i in (lt_true p.0, eq_false p.1)

rest-rolled : (last : Option ℤ) (m : ℤ) (h : TableModel) → Under last m → m <ℤ high → AtRest last h → IsUndone m h h
rest-rolled last m h u below r = record {
  rest = λ next s. rest-since last next h s r;
  keeps = refl;
  versions = same-list (sym (rest-undone last m h u below r));
}

-- ---- the end of a transaction in each table

pub each-committed : (m : ℤ) (last : Option ℤ) (old new : List TableModel) (touched : List ℕ)
    → AreInTurn m last old touched → HaveEnded (IsCommitted m) (length touched) touched old new → (t : ℕ)
    → IsCommitted m (table_at old t) (table_at new t)
each-committed m last old new touched r e t = elim (touched-or touched t) [
  | inl s ↦ subst (λ (n : ℕ). IsCommitted m (table_at old n) (table_at new n)) s.is (e.ended s.place s.within)
  | inr away ↦ subst (IsCommitted m (table_at old t)) (sym (e.others t away))
      (rest-committed last m (table_at old t) r.under r.below (r.rest t away))
]

pub each-undone : (m : ℤ) (last : Option ℤ) (old new : List TableModel) (touched : List ℕ)
    → AreInTurn m last old touched
    → HaveEnded (IsUndone m) (length touched) touched old new → (t : ℕ) → IsUndone m (table_at old t) (table_at new t)
each-undone m last old new touched r e t = elim (touched-or touched t) [
  | inl s ↦ subst (λ (n : ℕ). IsUndone m (table_at old n) (table_at new n)) s.is (e.ended s.place s.within)
  | inr away ↦ subst (IsUndone m (table_at old t)) (sym (e.others t away))
      (rest-rolled last m (table_at old t) r.under r.below (r.rest t away))
]

same-none : (xs ys : List Version) → SameBag xs ys → ys ≡ [] → xs ≡ []
same-none [] ys h e = refl
same-none (x ∷ xs) ys h e =
    absurd (let t = h.totals (λ v. 1) in let n : sum_by (λ (v : Version). 1) ys ≡ 0 = ap (sum_by (λ (v : Version). 1))
    e in omega (arith, t, n, sum_by-cons (λ (v : Version). 1) x xs))

pub commit-orderly : (m : ℤ) (last : Option ℤ) (places : List TableSlot) (old new : List TableModel)
    (touched none : List ℕ)
    → IsOrderly places old touched (Some m) last → HaveEnded (IsCommitted m) (length touched) touched old new
    → none ≡ []
    → IsOrderly places new none None (Some m)
commit-orderly m last places old new touched none o e nil =
    let each = each-committed m last old new touched o.ready e in record {
      even = e.even ∙ o.even;
      keeps = λ t. (each t).keeps ∙ o.keeps t;
      gone = λ t free. same-none _ _ (each t).versions
          (either (table_at old t).keeps (live (table_at old t)) (o.gone t free));
      ready = record { none = nil; below = o.ready.below; rest = λ t. (each t).rest };
    }
  where
    either : (b : Bool) (vs : List Version) → vs ≡ [] → (if b then vs else pruned m vs) ≡ []
    either true vs e = e
    either false vs e = ap (pruned m) e

pub rollback-orderly : (m : ℤ) (last : Option ℤ) (places : List TableSlot) (old new : List TableModel)
    (touched none : List ℕ)
    → IsOrderly places old touched (Some m) last → HaveEnded (IsUndone m) (length touched) touched old new → none ≡ []
    → IsOrderly places new none None last
rollback-orderly m last places old new touched none o e nil =
    let each = each-undone m last old new touched o.ready e in record {
      even = e.even ∙ o.even;
      keeps = λ t. (each t).keeps ∙ o.keeps t;
      gone = λ t free. same-none _ _ (each t).versions (ap (undone m) (o.gone t free));
      ready = record {
        none = nil;
        below = under_more last m high o.ready.under o.ready.below;
        rest = λ t. (each t).rest last (o.ready.since t);
      };
    }

-- the versions that a commit leaves, by the slot of the table
pub commit-bag : (m : ℤ) (places : List TableSlot) (t : ℕ) (old new : TableModel)
    → old.keeps ≡ is_kept (slot_at places t)
    → (slot_at places t ≡ Free → live old ≡ []) → IsCommitted m old new
    → SameBag (live new) (if is_brief (slot_at places t) then pruned m (live old) else live old)
commit-bag m places t old new keeps gone c =
    subst (SameBag (live new)) (by_place (slot_at places t) keeps gone) c.versions
  where
    by_place : (p : TableSlot) → old.keeps ≡ is_kept p → (p ≡ Free → live old ≡ [])
        → (if old.keeps then live old else pruned m (live old)) ≡ (if is_brief p then pruned m (live old) else live old)
    by_place Free k g = ap (λ (b : Bool). if b then live old else pruned m (live old)) k ∙ ap (pruned m) (g refl)
        ∙ sym (g refl)
    by_place Versioned k g = ap (λ (b : Bool). if b then live old else pruned m (live old)) k
    by_place Unversioned k g = ap (λ (b : Bool). if b then live old else pruned m (live old)) k

-- ---- a step of the loop over touched tables

pub step-here : (Ends : TableModel → TableModel → Type 0) (n : ℕ) (touched : List ℕ) (old now : List TableModel)
    → HaveEnded Ends n touched old now → n < length touched → AreApart touched
    → table_at now (touch_at touched n) ≡ table_at old (touch_at touched n)
step-here Ends n touched old now e l apart = e.others (touch_at touched n) (λ k o. apart k n o l)

-- the table that the code reads has not changed yet
pub read-here : (Ends : TableModel → TableModel → Type 0) (n : ℕ) (touched : List ℕ) (old now : List TableModel)
    (x : TableModel)
    → x ≡ slice_index_or now (touch_at touched n) x → HaveEnded Ends n touched old now → n < length touched
    → AreApart touched
    → ((k : ℕ) → k < length touched → touch_at touched k < length old) → x ≡ table_at old (touch_at touched n)
read-here Ends n touched old now x e h l apart within =
    e ∙ get_or_default now (touch_at touched n) x (empty false)
    (let w = within n l in let q = h.even in omega (arith, w, q)) ∙ step-here Ends n touched old now h l apart

pub step-ended : (Ends : TableModel → TableModel → Type 0) (n i : ℕ) (touched : List ℕ) (old now : List TableModel)
    (x : TableModel)
    → HaveEnded Ends n touched old now → n < length touched → AreApart touched → i ≡ touch_at touched n → i < length old
    → Ends (table_at old (touch_at touched n)) x → HaveEnded Ends (n + 1) touched old (slice_set now i x)
step-ended Ends n i touched old now x e l apart is within h = record {
  even = put-length now i x ∙ e.even;
  ended = λ k o. by_bool (nat_eq k n)
      (λ s. subst (λ (j : ℕ). Ends (table_at old (touch_at touched j))
      (table_at (slice_set now i x) (touch_at touched j))) (sym (one_number k n s))
      (subst (Ends (table_at old (touch_at touched n))) (sym (ap (table_at (slice_set now i x)) (sym is)
      ∙ put-here now i x (let q = e.even in omega (arith, q, within)))) h))
      (λ s. let less : k < n = strict k n o (two_numbers k n s) in
      subst (Ends (table_at old (touch_at touched k)))
      (sym (put-other now i (touch_at touched k) x
      (differ (touch_at touched k) i (λ same. apart k n less l (same ∙ is))))) (e.ended k less));
  others = λ t away. put-other now i t x (differ t i (λ same. away n (omega arith) (sym (same ∙ is))))
      ∙ e.others t (λ k o. away k (omega (arith, o)));
}
  where
    strict : (k n : ℕ) → k < n + 1 → k ≢ n → k < n
    strict k n o d = grind (arith, o, d)

    differ : (i j : ℕ) → (i ≡ j → ⊥) → nat_eq i j ≡ false
    differ i j d = by_bool (nat_eq i j) (λ e. absurd (d (one_number i j e))) (λ e. e)

-- ---- a change

pub by_number : (P : ℕ → Type 0) (t n : ℕ) → P n → (nat_eq t n ≡ false → P t) → P t
by_number P t n here other = by_bool (nat_eq t n) (λ e. subst P (sym (one_number t n e)) here) other

turned-orderly : (m : ℤ) (last : Option ℤ) (n : ℕ) (places : List TableSlot) (old new : List TableModel)
    (touched next : List ℕ) → is_taken (slot_at places n) ≡ true → IsOrderly places old touched (Some m) last
    → HasTurned m n old new
    → ((t : ℕ) → IsUntouched next t → AtRest last (table_at new t))
    → ((k : ℕ) → k < length next → touch_at next k < length old) → AreApart next
    → IsOrderly places new next (Some m) last
turned-orderly m last n places old new touched next there o h rest within apart = record {
  even = h.even ∙ o.even;
  keeps = λ t. by_number (λ (u : ℕ). (table_at new u).keeps ≡ is_kept (slot_at places u)) t n (h.keeps
      ∙ o.keeps n) (λ e. ap (λ (x : TableModel). x.keeps) (h.others t e) ∙ o.keeps t);
  gone = λ t. by_number (λ (u : ℕ). slot_at places u ≡ Free
      → live (table_at new u) ≡ []) t n (λ f. absurd (taken_not_free (slot_at places n) there f))
      (λ e f. ap live (h.others t e) ∙ o.gone t f);
  ready = record {
    below = o.ready.below;
    under = o.ready.under;
    turn = λ t. by_number (λ (u : ℕ). InTurn m (table_at new u)) t n h.turn
        (λ e. subst (InTurn m) (sym (h.others t e)) (o.ready.turn t));
    since = λ t. by_number (λ (u : ℕ). Since last (table_at new u)) t n (h.since last (o.ready.since n))
        (λ e. subst (Since last) (sym (h.others t e)) (o.ready.since t));
    rest = rest;
    within = λ k l. let e = h.even in let w = within k l in omega (arith, e, w);
    apart = apart;
  };
}

pub change-orderly : (m : ℤ) (last : Option ℤ) (n : ℕ) (places : List TableSlot) (old new : List TableModel)
    (touched next : List ℕ) → is_taken (slot_at places n) ≡ true → n < length old
    → IsOrderly places old touched (Some m) last → HasTurned m n old new
    → IsNoted n touched next → IsOrderly places new next (Some m) last
change-orderly m last n places old new touched next there less o h is =
    let w = noted n touched next is in
    turned-orderly m last n places old new touched next there o h
    (λ t away. subst (AtRest last) (sym (h.others t (other next t w.has away))) (o.ready.rest t (w.fewer t away)))
    (w.within (length old) o.ready.within less)
    (w.apart o.ready.apart)
  where
    other : (next : List ℕ) (t : ℕ) → IsTouched next n → IsUntouched next t → nat_eq t n ≡ false
    other next t s away = by_bool (nat_eq t n) (λ e. absurd (away s.place s.within (s.is ∙ sym (one_number t n e))))
        (λ e. e)

pub refused-orderly : (m : ℤ) (last : Option ℤ) (n : ℕ) (places : List TableSlot) (old new : List TableModel)
    (touched next : List ℕ) → is_taken (slot_at places n) ≡ true → IsOrderly places old touched (Some m) last
    → HasTurned m n old new
    → next ≡ touched → ((l : Option ℤ) → AtRest l (table_at old n) → AtRest l (table_at new n))
    → IsOrderly places new next (Some m) last
refused-orderly m last n places old new touched next there o h same rest =
    subst (λ (ns : List ℕ). IsOrderly places new ns (Some m) last) (sym same)
    (turned-orderly m last n places old new touched touched there o h
    (λ t. by_number (λ (u : ℕ). IsUntouched touched u
    → AtRest last (table_at new u)) t n (λ away. rest last (o.ready.rest n away))
    (λ e away. subst (AtRest last) (sym (h.others t e)) (o.ready.rest t away)))
    o.ready.within o.ready.apart)

-- a failed change leaves a table at rest
pub refused-rest : (m : ℤ) (last : Option ℤ) (h n : TableModel) → InTurn m n
    → n ≡ record h { room = n.room } → AtRest last h → AtRest last n
refused-rest m last h n t e r = subst (AtRest last) (sym e) (record {
  none_ended = r.none_ended;
  none_dead = r.none_dead;
  all_based = r.all_based;
  room = λ k. let f = t.room (ap (λ (x : TableModel). x.keeps) e
      ∙ k) in let c = ap (λ (x : TableModel). length x.closed) e in omega (arith, f, c);
  is_open = r.is_open;
  since = record { began = r.since.began; ended = r.since.ended };
  proper = r.proper;
  kept = r.kept;
})

pub turned : (m n' : ℤ) (n i : ℕ) (rows : List TableModel) (old new : TableModel) → n' ≡ m → i ≡ n → n < length rows
    → old ≡ table_at rows n → InTurn n' new → ((last : Option ℤ) → Since last old → Since last new)
    → new.keeps ≡ old.keeps → HasTurned m n rows (slice_set rows i new)
turned m n' n i rows old new at is less start turn since keeps =
    let here : table_at (slice_set rows i new) n ≡ new = ap (table_at (slice_set rows i new)) (sym is)
    ∙ put-here rows i new (omega (arith, is, less)) in record {
      even = put-length rows i new;
      others = λ t e. put-other rows i t new (ap (nat_eq t) is ∙ e);
      turn = subst (InTurn m) (sym here) (subst (λ (x : ℤ). InTurn x new) at turn);
      since = λ last s. subst (Since last) (sym here) (since last (subst (Since last) (sym start) s));
      keeps = ap (λ (x : TableModel). x.keeps) here ∙ keeps ∙ ap (λ (x : TableModel). x.keeps) start;
    }

-- ---- beginnings and new tables

pub begin-orderly : (m : ℤ) (last : Option ℤ) (places : List TableSlot) (rows : List TableModel) (touched : List ℕ)
    → IsOrderly places rows touched None last → Under last m → m <ℤ high → IsOrderly places rows touched (Some m) last
begin-orderly m last places rows touched o u below = record {
  even = o.even;
  keeps = o.keeps;
  gone = o.gone;
  ready = record {
    below = below;
    under = u;
    turn = λ t. begin-turn last m (table_at rows t) (o.ready.rest t) u below;
    since = λ t. (o.ready.rest t).since;
    rest = λ t away. o.ready.rest t;
    within = λ k l. absurd (let e = ap length o.ready.none in omega (arith, e, l));
    apart = λ j k o' l. absurd (let e = ap length o.ready.none in omega (arith, e, l));
  };
}

pub new-orderly : IsOrderly [] [] [] None None
new-orderly = record {
  even = refl;
  keeps = λ t. refl;
  gone = λ t e. refl;
  ready = record { none = refl; below = tt; rest = λ t. empty-rest false None };
}
