-- The versions that a change of a table removes, given by the ids of the store.
use Rattle.std.proofs.Common.{◌≡◌, ◌≢◌, ℕ, zero, suc, ◌+◌, ◌<◌, ◌≤◌, Bool, true, false, cond, List, [], ◌∷◌, ◌++◌}
use Rattle.std.proofs.Common.{map, filter, length, refl, sym, ap, ◌∙◌, arith, inl, inr}
use Rattle.std.specs.Prelude.{ℤ, ◌<ℤ◌, ◌&&◌, ◌||◌, All, Contains, IsTrue, count_by, nat_eq, nat_lt, slice_get}
use Rattle.std.specs.Prelude.{slice_index_or, Some}
use Rattle.std.specs.List.{sum_by}
use Rattle.std.proofs.lemmas.Bool.Decides.{Decides-int_eq, nat_tests}
use Rattle.std.proofs.lemmas.Int.{ints}
use Rattle.std.proofs.lemmas.List.Sums.{sum_by-cons, sum_by-append}
use Rattle.tql_spec.proofs.Bags.{sum-filter}
use Rattle.tql_spec.proofs.Members.{by_bool}
use Rattle.tql_spec.specs.Bag.{SameBag, In}
use Rattle.tql_spec.specs.Calendar.{high}
use Rattle.tql_spec.specs.Datum.{Row}
use Rattle.tql_spec.specs.Definition.{Stamped, Version}
use Rattle.tql_standing.proofs.Counting.{once-first, once-tail}
use Rattle.tql_store_rows.proofs.Turns.{eq_false, lt_true, first_place, later_place}
use Rattle.tql_versions.specs.Changes.{alive, close_at, closing, ended, fresh, is_current, nothing}
use Rattle.tql_store_rows.specs.TableModel as rows
use Rattle.tql_store_rows.specs.TableModel.{InTurn, IsJudged, versions, live}
use Rattle.tql_store.proofs.Numbers.{one_number, self_number}
use Rattle.tql_store.specs.StoreModel.{is_open, is_among}

abbrev pub at : List Version → ℕ → Version
at vs k = slice_index_or vs k nothing

-- ---- listed ids

among-at : (k : ℕ) (is : List ℕ) (j : ℕ) → j < length is → slice_index_or is j k ≡ k → is_among k is ≡ true
among-at k [] j l e = absurd (omega (arith, l))
among-at k (i ∷ is) zero l e = ap (λ (b : Bool). b || is_among k is) (ap (nat_eq k) e ∙ self_number k)
among-at k (i ∷ is) (suc j) l e = ap (λ (b : Bool). nat_eq k i || b) (among-at k is j (omega (arith, l)) e)
    ∙ always (nat_eq k i)
  where
    always : (b : Bool) → (b || true) ≡ true
    always true = refl
    always false = refl

listed-among : (k : ℕ) (is : List ℕ) → Contains is k → is_among k is ≡ true
listed-among k is (j, l, e) = among-at k is j l e

among-listed : (k : ℕ) (is : List ℕ) → is_among k is ≡ true → Contains is k
among-listed k [] e = absurd (let f : false ≡ true = e in cc)
among-listed k (i ∷ is) e = by_bool (nat_eq k i)
    (λ s. first_place i is k (one_number k i s))
    (λ o. later_place i is k (among-listed k is (sym (ap (λ (b : Bool). b || is_among k is) o) ∙ e)))

away-among : (k : ℕ) (is : List ℕ) → (Contains is k → ⊥) → is_among k is ≡ false
away-among k is none = by_bool (is_among k is) (λ e. absurd (none (among-listed k is e))) (λ e. e)

-- ---- versions by their positions

pub record OpenAt (vs : List Version) (i : ℕ) : Type 0 where
  pub within : i < length vs
  pub is : (alive (at vs i) && is_current (at vs i)) ≡ true

open-at : (vs : List Version) (i : ℕ) → IsTrue (is_open (slice_get vs i)) → OpenAt vs i
open-at [] i e = absurd (let f : false ≡ true = e in cc)
open-at (v ∷ vs) zero e = record { within = omega arith; is = e }
open-at (v ∷ vs) (suc i) e = let r = open-at vs i e in record {
  within = let l = r.within in omega (arith, l);
  is = r.is;
}

in-at : (vs : List Version) (i : ℕ) → i < length vs → In (at vs i) vs
in-at [] i l = absurd (omega (arith, l))
in-at (v ∷ vs) zero l = inl refl
in-at (v ∷ vs) (suc i) l = inr (in-at vs i (omega (arith, l)))

-- a version that is not closed comes before the closed ones
before-closed : (cs ds : List Version) (i : ℕ) → i < length (cs ++ ds)
    → ((v : Version) → In v ds → is_current v ≡ false) → is_current (at (cs ++ ds) i) ≡ true → i < length cs
before-closed [] ds i l h e = absurd (let f = sym e ∙ h (at ds i) (in-at ds i l) in cc)
before-closed (c ∷ cs) ds zero l h e = omega arith
before-closed (c ∷ cs) ds (suc i) l h e = let r = before-closed cs ds i (omega (arith, l)) h e in omega (arith, r)

front-at : (cs ds : List Version) (i : ℕ) → i < length cs → at (cs ++ ds) i ≡ at cs i
front-at [] ds i l = absurd (omega (arith, l))
front-at (c ∷ cs) ds zero l = refl
front-at (c ∷ cs) ds (suc i) l = front-at cs ds i (omega (arith, l))

get-front : (cs ds : List Version) (i : ℕ) → i < length cs → slice_get (cs ++ ds) i ≡ Some (at cs i)
get-front [] ds i l = absurd (omega (arith, l))
get-front (c ∷ cs) ds zero l = refl
get-front (c ∷ cs) ds (suc i) l = get-front cs ds i (omega (arith, l))

both_of : (a b : Bool) → (a && b) ≡ true → (a ≡ true) × (b ≡ true)
both_of true b e = (refl, e)
both_of false b e = absurd (let f : false ≡ true = e in cc)

closed-past : (m : ℤ) (h : rows.TableModel) → InTurn m h → (v : Version) → In v h.closed → is_current v ≡ false
closed-past m h t v i = let p = t.past v i in let b = t.below in let l : v.end <ℤ high =
    omega (arith, ints, p.1, b) in eq_false l

-- ---- they may be removed

pub removable-rows : (m : ℤ) (h : rows.TableModel) (removed : List ℕ) → InTurn m h
    → All (λ id. IsTrue (is_open (slice_get (versions h) id))) removed
    → ((id : ℕ) → count_by (λ j. nat_eq j id) removed ≤ 1) → rows.AreRemovable h removed
removable-rows m h removed t all once = record {
  within = λ k d l. let o = open-at (versions h) (slice_index_or removed k d) (all k d l) in
      before-closed h.current h.closed (slice_index_or removed k d) o.within (closed-past m h t) (both_of _ _ o.is).1;
  current = λ k d l. (open-at (versions h) (slice_index_or removed k d) (all k d l)).is;
  once = once;
}

-- a current version of the table is non-empty
pub alive-current : (m : ℤ) (h : rows.TableModel) → InTurn m h → (k : ℕ) → k < length h.current
    → is_current (at h.current k) ≡ true → alive (at h.current k) ≡ true
alive-current m h t k l e =
    let ends = (Decides-int_eq (at h.current k).end high).0 e in let below = t.below in
    by_bool (nat_lt k h.base)
    (λ s. let b = t.began k (told k h.base s) in let l : (at h.current k).row.start <ℤ (at h.current k).end = omega
    (arith, ints, ends, b, below) in lt_true l)
    (λ s. let b = t.begin k (not_told k h.base s) l in let l : (at h.current k).row.start <ℤ (at h.current k).end =
    omega (arith, ints, ends, b, below) in lt_true l)
  where
    told : (i n : ℕ) → nat_lt i n ≡ true → i < n
    told i n e = grind (arith, nat_tests)

    not_told : (i n : ℕ) → nat_lt i n ≡ false → n ≤ i
    not_told i n e = grind (arith, nat_tests)

-- the ids that satisfy `Judged` in the store satisfy `IsJudged` in its table
pub judged-rows : (m : ℤ) (h : rows.TableModel) (gone : Stamped → Bool) (removed : List ℕ) → InTurn m h
    → ((id : ℕ) (v : Version) → slice_get (versions h) id ≡ Some v
    → is_among id removed ≡ (alive v && (is_current v && gone v.row))) → IsJudged gone removed h
judged-rows m h gone removed t j k l =
    let told = j k (at h.current k) (get-front h.current h.closed k l) in (
      (λ c. (both_of _ _ (sym told ∙ listed-among k removed c)).1),
      (λ none. none_gone (sym told ∙ away-among k removed none)),
    )
  where
    none_gone : (alive (at h.current k) && (is_current (at h.current k) && gone (at h.current k).row)) ≡ false
        → (is_current (at h.current k) && gone (at h.current k).row) ≡ false
    none_gone e = by_bool (is_current (at h.current k))
        (λ c. sym (ap (λ (b : Bool). b && (is_current (at h.current k) && gone (at h.current k).row))
        (alive-current m h t k l c)) ∙ e)
        (λ c. ap (λ (b : Bool). b && gone (at h.current k).row) c)

-- ---- the number of current versions

abbrev pub shows : Version → ℕ
shows v = cond {A = ℕ} (is_current v) 1 0

abbrev pub opens : Version → ℕ
opens v = cond {A = ℕ} (alive v) (shows v) 0

count-filter : (vs : List Version) → length (filter is_current vs) ≡ sum_by shows vs
count-filter [] = refl
count-filter (v ∷ vs) = chosen (is_current v) refl (count-filter vs)
  where
    chosen : (b : Bool) → is_current v ≡ b → length (filter is_current vs) ≡ sum_by shows vs
        → length (cond b (v ∷ filter is_current vs) (filter is_current vs)) ≡ sum_by shows (v ∷ vs)
    chosen true e r = let one : shows v ≡ 1 =
        ap (λ (b : Bool). cond {A = ℕ} b 1 0) e in omega (arith, r, one, sum_by-cons shows v vs)
    chosen false e r = let none : shows v ≡ 0 =
        ap (λ (b : Bool). cond {A = ℕ} b 1 0) e in omega (arith, r, none, sum_by-cons shows v vs)

length-close_at : (m : ℤ) (i : ℕ) (vs : List Version) → length (close_at m i vs) ≡ length vs
length-close_at m i [] = refl
length-close_at m zero (v ∷ vs) = refl
length-close_at m (suc i) (v ∷ vs) = ap suc (length-close_at m i vs)

at-closed : (m : ℤ) (i j : ℕ) (vs : List Version) → j ≢ i → at (close_at m i vs) j ≡ at vs j
at-closed m i j [] d = refl
at-closed m zero zero (v ∷ vs) d = absurd (d refl)
at-closed m zero (suc j) (v ∷ vs) d = refl
at-closed m (suc i) zero (v ∷ vs) d = refl
at-closed m (suc i) (suc j) (v ∷ vs) d = at-closed m i j vs (λ e. d (ap suc e))

close-one : (m : ℤ) (i : ℕ) (vs : List Version) → m <ℤ high → i < length vs → opens (at vs i) ≡ 1
    → sum_by opens (close_at m i vs) + 1 ≡ sum_by opens vs
close-one m i [] below l e = absurd (omega (arith, l))
close-one m zero (v ∷ vs) below l e = let n =
    none in omega (arith, e, n, sum_by-cons opens v vs, sum_by-cons opens (ended m v) vs)
  where
    never : (b : Bool) → cond {A = ℕ} b 0 0 ≡ 0
    never true = refl
    never false = refl

    none : opens (ended m v) ≡ 0
    none = ap (λ (b : Bool). cond {A = ℕ} (alive (ended m v)) (cond {A = ℕ} b 1 0) 0)
        (eq_false {a = m} {b = high} below) ∙ never (alive (ended m v))
close-one m (suc i) (v ∷ vs) below l e = let r =
    close-one m i vs below (omega (arith, l)) e in omega
    (arith, r, sum_by-cons opens v vs, sum_by-cons opens v (close_at m i vs))

count-closing : (m : ℤ) (removed : List ℕ) (vs : List Version) → m <ℤ high
    → ((k d : ℕ) → k < length removed
    → (slice_index_or removed k d < length vs) × (opens (at vs (slice_index_or removed k d)) ≡ 1))
    → ((id : ℕ) → count_by (λ j. nat_eq j id) removed ≤ 1)
    → sum_by opens (closing m removed vs) + length removed ≡ sum_by opens vs
count-closing m [] vs below h once = omega arith
count-closing m (i ∷ is) vs below h once =
    let first = h 0 0 (omega arith) in
    let rest = count-closing m is (close_at m i vs) below after (λ id. once-tail i is id (once id)) in
    let one = close-one m i vs below first.0 first.1 in
    omega (arith, rest, one)
  where
    after : (k d : ℕ) → k < length is
        → (slice_index_or is k d < length (close_at m i vs)) ×
        (opens (at (close_at m i vs) (slice_index_or is k d)) ≡ 1)
    after k d l =
        let s = h (suc k) d (omega (arith, l)) in (
          (let e = length-close_at m i vs in let p = s.0 in omega (arith, e, p)),
          ap opens (at-closed m i (slice_index_or is k d) vs (once-first i is (once i) k d l)) ∙ s.1,
        )

count-fresh : (m : ℤ) (rs : List Row) → sum_by shows (map (fresh m) rs) ≡ length rs
count-fresh m [] = refl
count-fresh m (r ∷ rs) = let k = count-fresh m rs in let one : shows (fresh m r) ≡ 1 =
    refl in omega (arith, k, one, sum_by-cons shows (fresh m r) (map (fresh m) rs))

-- the count of current versions changes by the rows added and removed
pub counted-rows : (m : ℤ) (rs : List Row) (removed : List ℕ)
    (h n : rows.TableModel)
    → InTurn m h → rows.AreRemovable h removed
    → SameBag (live n) (filter alive (closing m removed h.current ++ h.closed) ++ map (fresh m) rs)
    → length (filter is_current (live n)) + length removed ≡ length (filter is_current (live h)) + length rs
counted-rows m rs removed h n t r bag =
    let W = closing m removed h.current ++ h.closed in
    let F = map (fresh m) rs in
    let e1 = count-filter (live n) in
    let e2 = bag.totals shows in
    let e3 = sum_by-append shows (filter alive W) F in
    let e4 = sum-filter alive shows W in
    let e5 = sum_by-append opens (closing m removed h.current) h.closed in
    let e6 = count-closing m removed h.current t.below each r.once in
    let e7 = sum_by-append opens h.current h.closed in
    let e8 = sum-filter alive shows (versions h) in
    let e9 = count-filter (live h) in
    let e10 = count-fresh m rs in
    omega (arith, e1, e2, e3, e4, e5, e6, e7, e8, e9, e10)
  where
    one : (v : Version) → alive v ≡ true → is_current v ≡ true → opens v ≡ 1
    one v a c = rw (a, c) refl

    each : (k d : ℕ) → k < length removed
        → (slice_index_or removed k d < length h.current) × (opens (at h.current (slice_index_or removed k d)) ≡ 1)
    each k d l =
        let w = r.within k d l in
        let o = both_of _ _ (r.current k d l) in
        let f = front-at h.current h.closed (slice_index_or removed k d) w in
        (w, one (at h.current (slice_index_or removed k d)) (sym (ap alive f) ∙ o.0) (sym (ap is_current f) ∙ o.1))
