-- The results of the walks of History, stated by spans and membership.
use Rattle.std.proofs.Common.{◌≡◌, ℕ, ◌+◌, Bool, true, false, cond, List, [], ◌∷◌, ◌++◌, filter, refl, sym, ap, ◌∙◌}
use Rattle.std.proofs.Common.{arith, inl, inr, subst, append_assoc, append-nil}
use Rattle.std.specs.Prelude.{◌⊎◌, ◌&&◌, ◌||◌, not, ℤ, pos, ◌+ℤ◌, ◌≤ℤ◌, ◌<ℤ◌, int_le, int_lt, if◌then◌else◌}
use Rattle.std.specs.Int.{int_max}
use Rattle.std.proofs.lemmas.Int.{ints, clamps}
use Rattle.std.proofs.lemmas.List.{map-append}
use Rattle.tql_spec.specs.Bag.{In}
use Rattle.tql_spec.specs.Calendar.{high}
use Rattle.tql_spec.specs.Definition.{Stamped, Version, same_stamped}
use Rattle.tql_spec.specs.History.{Entry, TableEntry, FallingFrom, Falling, rows_in, table_history, has_row, still}
use Rattle.tql_spec.specs.History.{ends_before, with_end, completed, current, as_of_from, as_of, meets, has_version}
use Rattle.tql_spec.specs.History.{found_from, from_to}
use Rattle.tql_spec.specs.Spans.{SpanHolds, InEach, EndsAt, found_rows, AreRowsOf, NowIsTheNewest, StandsAt}
use Rattle.tql_spec.specs.Spans.{AsOfIsTheCopyThen, IsFromTo, IsBetween, times, MetWith, AreOfCopiesMet}
use Rattle.tql_spec.specs.Spans.{RangesAreCopiesMet, ReadsBySpans}
use Rattle.tql_spec.proofs.Members.{by_bool, lt_tells, le_tells}
use Rattle.tql_spec.proofs.MemberLists.{in_left, in_right, in_either, in_image, in_kept, has_tells, times_none}
use Rattle.tql_spec.proofs.MemberLists.{times_some, there_if, times_append, times_kept}

-- ---- the state of a walk after some copies

-- a moment is before `until` exactly if it is before each newer copy and before the highest moment
record IsUntil (newer : List Entry) (until : ℤ) : Type 0 where
  gives : (p : ℤ) → p <ℤ until → (c : Entry) → In c newer → p <ℤ c.moment
  below : (p : ℤ) → p <ℤ until → p <ℤ high
  from : (p : ℤ) → ((c : Entry) → In c newer → p <ℤ c.moment) → p <ℤ high → p <ℤ until

-- the bound before any copy
until_high : IsUntil [] high
until_high = record { gives = λ p h c m. absurd m; below = λ p h. h; from = λ p f h. h }

-- the bound after one more copy
until_next : (newer : List Entry) (until : ℤ) (e : Entry) → IsUntil newer until → e.moment <ℤ until
    → IsUntil (newer ++ e ∷ []) e.moment
until_next newer until e u h = record {
  gives = λ p l c m. elim (in_either c newer (e ∷ []) m) [
    | inl n ↦ u.gives p (omega (arith, ints, l, h)) c n
    | inr n ↦ elim n [ inl q ↦ subst (λ (x : Entry). p <ℤ x.moment) (sym q) l | inr z ↦ absurd z ]
  ];
  below = λ p l. u.below p (omega (arith, ints, l, h));
  from = λ p f l. f e (in_right e newer (e ∷ []) (inl refl));
}

-- `ends` gives the ends of all rows, given the newer copies
abbrev AreEnds : ℕ → List Entry → (Stamped → ℤ) → Type 0
AreEnds t newer ends = (r : Stamped) → EndsAt t newer r (ends r)

-- rows of the newest copy end at the highest moment
ends_still : (t : ℕ) → AreEnds t [] still
ends_still t r = inl ((λ c m. absurd m), refl)

-- a row is in each of these copies with one more copy that has it
one_more : (t : ℕ) (copies : List Entry) (e : Entry) (r : Stamped) → InEach t copies r → In r (rows_in e.copy t)
    → InEach t (copies ++ e ∷ []) r
one_more t copies e r k h c m = elim (in_either c copies (e ∷ []) m) [
  | inl n ↦ k c n
  | inr n ↦ elim n [ inl q ↦ subst (λ (x : Entry). In r (rows_in x.copy t)) (sym q) h | inr z ↦ absurd z ]
]

-- the end of a row does not change with one more copy that has it
pub ends_later : (t : ℕ) (newer : List Entry) (e : Entry) (r : Stamped) (end : ℤ) → EndsAt t newer r end
    → In r (rows_in e.copy t) → EndsAt t (newer ++ e ∷ []) r end
ends_later t newer e r end (inl (k, q)) h = inl (one_more t newer e r k h, q)
ends_later t newer e r end (inr i) h = inr (record {
  newer = i.newer;
  lacking = i.lacking;
  between = i.between ++ e ∷ [];
  parts = ap (λ (xs : List Entry). xs ++ e ∷ []) i.parts ∙ append_assoc i.newer (i.lacking ∷ i.between) (e ∷ []);
  kept = one_more t i.between e r i.kept h;
  lacks = i.lacks;
  ends = i.ends;
})

-- a row that one more copy lacks ends at the moment of that copy
ends_here : (t : ℕ) (newer : List Entry) (e : Entry) (r : Stamped) → (In r (rows_in e.copy t) → ⊥)
    → EndsAt t (newer ++ e ∷ []) r e.moment
ends_here t newer e r n =
    inr (record {
      newer = newer;
      lacking = e;
      between = [];
      parts = refl;
      kept = λ c m. absurd m;
      lacks = n;
      ends = refl;
    })

-- one table in one copy
abbrev at : ℕ → Entry → TableEntry
at t e = record { moment = e.moment; rows = rows_in e.copy t }

-- the ends of all rows after one more copy
ends_next : (t : ℕ) (newer : List Entry) (ends : Stamped → ℤ) (e : Entry) → AreEnds t newer ends
    → AreEnds t (newer ++ e ∷ []) (ends_before (at t e) ends)
ends_next t newer ends e k r = elim (has_tells (rows_in e.copy t) r) [
  | inl y ↦ subst (EndsAt t (newer ++ e ∷ []) r) (sym (ap (λ b. if b then ends r else e.moment) y.0))
      (ends_later t newer e r (ends r) (k r) y.1)
  | inr n ↦ subst (EndsAt t (newer ++ e ∷ []) r) (sym (ap (λ b. if b then ends r else e.moment) n.0))
      (ends_here t newer e r n.1)
]

-- ---- rows with their ends

-- the rows of versions made from rows are these rows
rows_completed : (ends : Stamped → ℤ) (rows : List Stamped) → found_rows (completed ends rows) ≡ rows
rows_completed ends [] = refl
rows_completed ends (r ∷ rows) = ap {B = List Stamped} (λ xs. r ∷ xs) (rows_completed ends rows)

-- the ends of these versions are right
completed_ends : (t : ℕ) (newer : List Entry) (ends : Stamped → ℤ) (rows : List Stamped) → AreEnds t newer ends
    → (v : Version) → In v (completed ends rows) → EndsAt t newer v.row v.end
completed_ends t newer ends rows k v m =
    let i = in_image (with_end ends) v rows m in subst (λ (x : Version). EndsAt t newer x.row x.end) (sym i.2) (k i.0)

-- each of these versions is a version of one of the rows
completed_in : (ends : Stamped → ℤ) (rows : List Stamped) (v : Version) → In v (completed ends rows) → In v.row rows
completed_in ends rows v m =
    let i = in_image (with_end ends) v rows m in subst (λ (x : Version). In x.row rows) (sym i.2) i.1

-- ---- the newest copy, and the copy at a moment

-- a query without a clause finds the newest copy
pub now_is_the_newest : (t : ℕ) (entries : List Entry) → NowIsTheNewest t entries
now_is_the_newest t entries = record {
  there = λ e older q. subst (λ es. AreRowsOf t [] e (current (table_history t es))) (sym q) (record {
    rows = rows_completed still (rows_in e.copy t);
    ends = completed_ends t [] still (rows_in e.copy t) (ends_still t);
  });
  none = λ q. subst (λ es. current (table_history t es) ≡ []) (sym q) refl;
}

-- the value of a conditional whose test is true
yes : (b : Bool) → b ≡ true → {X : Type 0} → (x y : X) → (if b then x else y) ≡ x
yes b e x y = ap (λ c. if c then x else y) e

-- the value of a conditional whose test is false
no : (b : Bool) → b ≡ false → {X : Type 0} → (x y : X) → (if b then x else y) ≡ y
no b e x y = ap (λ c. if c then x else y) e

-- a moment in the span of a copy passes the test
stands : (s until m : ℤ) → s ≤ℤ m → m <ℤ until → int_le s m && int_lt m until ≡ true
stands s until m h k = grind (arith, ints)

-- a moment before the copy fails the test
too_early : (s until m : ℤ) → m <ℤ s → int_le s m && int_lt m until ≡ false
too_early s until m h = grind (arith, ints)

-- a moment after the span of the copy fails the test
too_late : (s until m : ℤ) → until ≤ℤ m → int_le s m && int_lt m until ≡ false
too_late s until m h = grind (arith, ints)

-- the walk stops at the copy whose span holds the moment
as_of_there : (t : ℕ) (m : ℤ) (newer rest : List Entry) (e : Entry) (older : List Entry) (until : ℤ)
    (ends : Stamped → ℤ)
    → IsUntil newer until → AreEnds t newer ends → FallingFrom until (rest ++ e ∷ older)
    → SpanHolds (newer ++ rest) e m
    → AreRowsOf t (newer ++ rest) e (as_of_from until ends m (table_history t (rest ++ e ∷ older)))
as_of_there t m newer [] e older until ends u k f h =
    let plain : newer ++ [] ≡ newer = append-nil newer in
    let l : m <ℤ until = u.from m (λ c n. h.before_later c (in_left c newer [] n)) h.before_end in
    subst (AreRowsOf t (newer ++ []) e) (sym (yes _ (stands e.moment until m h.begun l) _ _)) (record {
      rows = rows_completed ends (rows_in e.copy t);
      ends = completed_ends t (newer ++ []) ends (rows_in e.copy t) (subst (λ ls. AreEnds t ls ends) (sym plain) k);
    })
as_of_there t m newer (g ∷ rest) e older until ends u k f h =
    let moved : (newer ++ g ∷ []) ++ rest ≡ newer ++ g ∷ rest = append_assoc newer (g ∷ []) rest in
    let early : m <ℤ g.moment = h.before_later g (in_right g newer (g ∷ rest) (inl refl)) in
    subst (AreRowsOf t (newer ++ g ∷ rest) e) (sym (no _ (too_early g.moment until m early) _ _))
    (subst (λ ls. AreRowsOf t ls e
    (as_of_from g.moment (ends_before (at t g) ends) m (table_history t (rest ++ e ∷ older)))) moved
    (as_of_there t m (newer ++ g ∷ []) rest e older g.moment (ends_before (at t g) ends)
    (until_next newer until g u f.0) (ends_next t newer ends g k) f.1 (subst (λ ls. SpanHolds ls e m) (sym moved) h)))

-- the walk finds nothing at a moment before all copies
none_before : (t : ℕ) (m : ℤ) (es : List Entry) (until : ℤ) (ends : Stamped → ℤ)
    → ((e : Entry) → In e es → m <ℤ e.moment) → as_of_from until ends m (table_history t es) ≡ []
none_before t m [] until ends h = refl
none_before t m (e ∷ es) until ends h =
    no _ (too_early e.moment until m (h e (inl refl))) _ _
    ∙ none_before t m es e.moment (ends_before (at t e) ends) (λ c n. h c (inr n))

-- the walk finds nothing at or after `until`
pub none_after : (t : ℕ) (m : ℤ) (es : List Entry) (until : ℤ) (ends : Stamped → ℤ) → FallingFrom until es → until ≤ℤ m
    → as_of_from until ends m (table_history t es) ≡ []
none_after t m [] until ends f h = refl
none_after t m (e ∷ es) until ends f h =
    no _ (too_late e.moment until m h) _ _
    ∙ none_after t m es e.moment (ends_before (at t e) ends) f.1 (omega (arith, ints, f.0, h))

-- a moment before the bound is in the span of some copy, or before every copy
stands_or_before : (m : ℤ) (newer : List Entry) (until : ℤ) (es : List Entry) → IsUntil newer until
    → FallingFrom until es → m <ℤ until
    → ((passed : List Entry) × (e : Entry) × (older : List Entry) × (es ≡ passed ++ e ∷ older) × SpanHolds
    (newer ++ passed) e m) ⊎ ((e : Entry) → In e es → m <ℤ e.moment)
stands_or_before m newer until [] u f h = inr (λ e n. absurd n)
stands_or_before m newer until (e ∷ es) u f h = elim (le_tells e.moment m) [
  | inl y ↦ inl (
    [],
    e,
    es,
    refl,
    subst (λ ls. SpanHolds ls e m) (sym (append-nil newer))
        (record { begun = y.1; before_later = u.gives m h; before_end = u.below m h }),
  )
  | inr n ↦ elim (stands_or_before m (newer ++ e ∷ []) e.moment es (until_next newer until e u f.0) f.1 n.1) [
    | inl w ↦ inl (
      e ∷ w.0,
      w.1,
      w.2,
      ap {B = List Entry} (λ xs. e ∷ xs) w.3,
      subst (λ ls. SpanHolds ls w.1 m) (append_assoc newer (e ∷ []) w.0) w.4,
    )
    | inr k ↦ inr (λ c i. elim i [ inl q ↦ subst (λ (x : Entry). m <ℤ x.moment) (sym q) n.1 | inr j ↦ k c j ])
  ]
]

-- each moment is in the span of some copy, before every copy, or not before the highest
no_other_case : (m : ℤ) (entries : List Entry) → Falling entries
    → StandsAt m entries ⊎ ((e : Entry) → In e entries → m <ℤ e.moment) ⊎ (high ≤ℤ m)
no_other_case m entries f = elim (lt_tells m high) [
  | inl l ↦ elim (stands_or_before m [] high entries until_high f l.1) [
    | inl w ↦ inl (record { later = w.0; copy = w.1; older = w.2; whole = w.3; held = w.4 })
    | inr k ↦ inr (inl k)
  ]
  | inr g ↦ inr (inr g.1)
]

-- AS OF finds the rows of the copy whose span holds the moment
pub as_of_is_the_copy_then : (t : ℕ) (m : ℤ) (entries : List Entry) → Falling entries → AsOfIsTheCopyThen t m entries
as_of_is_the_copy_then t m entries f = record {
  there = λ later e older q h.
      subst (λ es. AreRowsOf t later e (as_of m (table_history t es))) (sym q)
      (as_of_there t m [] later e older high still until_high (ends_still t) (subst Falling q f) h);
  before_all = λ h. none_before t m entries high still h;
  at_highest = λ h. none_after t m entries high still f h;
  no_other = no_other_case m entries f;
}

-- ---- ranges

-- a copy that is met and has the row, among those after the copies that a walk has passed
record Walked (t : ℕ) (Asked : ℤ → Type 0) (newer es : List Entry) (r : Stamped) : Type 0 where
  passed : List Entry
  copy : Entry
  older : List Entry
  whole : es ≡ passed ++ copy ∷ older
  moment : ℤ
  asked : Asked moment
  held : SpanHolds (newer ++ passed) copy moment
  there : In r (rows_in copy.copy t)

-- the next copy is met and has the row
record Here (t : ℕ) (Asked : ℤ → Type 0) (newer : List Entry) (e : Entry) (r : Stamped) : Type 0 where
  moment : ℤ
  asked : Asked moment
  held : SpanHolds newer e moment
  there : In r (rows_in e.copy t)

abbrev from_here : (t : ℕ) (Asked : ℤ → Type 0) (newer : List Entry) (e : Entry) (older : List Entry) (r : Stamped)
    → Here t Asked newer e r → Walked t Asked newer (e ∷ older) r
from_here t Asked newer e older r h = record {
  passed = [];
  copy = e;
  older = older;
  whole = refl;
  moment = h.moment;
  asked = h.asked;
  held = subst (λ ls. SpanHolds ls e h.moment) (sym (append-nil newer)) h.held;
  there = h.there;
}

abbrev from_later : (t : ℕ) (Asked : ℤ → Type 0) (newer : List Entry) (e : Entry) (older : List Entry) (r : Stamped)
    → Walked t Asked (newer ++ e ∷ []) older r → Walked t Asked newer (e ∷ older) r
from_later t Asked newer e older r w = record {
  passed = e ∷ w.passed;
  copy = w.copy;
  older = w.older;
  whole = ap {B = List Entry} (λ xs. e ∷ xs) w.whole;
  moment = w.moment;
  asked = w.asked;
  held = subst (λ ls. SpanHolds ls w.copy w.moment) (append_assoc newer (e ∷ []) w.passed) w.held;
  there = w.there;
}

-- a copy that is met is the next one or one of the older ones
here_or_later : (t : ℕ) (Asked : ℤ → Type 0) (newer : List Entry) (e : Entry) (older : List Entry) (r : Stamped)
    → Walked t Asked newer (e ∷ older) r
    → Here t Asked newer e r ⊎ Walked t Asked (newer ++ e ∷ []) older r
here_or_later t Asked newer e older r w = parted w.passed w.copy w.older w.whole w.moment w.asked w.held w.there
  where
    parted : (passed : List Entry) (copy : Entry) (rest : List Entry) → e ∷ older ≡ passed ++ copy ∷ rest → (p : ℤ)
        → Asked p → SpanHolds (newer ++ passed) copy p → In r (rows_in copy.copy t)
        → Here t Asked newer e r ⊎ Walked t Asked (newer ++ e ∷ []) older r
    parted [] copy rest q p a h m =
        let same : copy ≡ e = cc in
        inl (record {
          moment = p;
          asked = a;
          held = subst (λ ls. SpanHolds ls e p) (append-nil newer)
              (subst (λ (x : Entry). SpanHolds (newer ++ []) x p) same h);
          there = subst (λ (x : Entry). In r (rows_in x.copy t)) same m;
        })
    parted (f ∷ passed) copy rest q p a h m =
        let same : f ≡ e = cc in
        inr (record {
          passed = passed;
          copy = copy;
          older = rest;
          whole = cc;
          moment = p;
          asked = a;
          held = subst (λ ls. SpanHolds ls copy p) (sym (append_assoc newer (e ∷ []) passed))
              (subst (λ (x : Entry). SpanHolds (newer ++ x ∷ passed) copy p) same h);
          there = m;
        })

-- a span that passes the test contains a moment asked for
met_gives : (a b s until : ℤ) → meets a b s until ≡ true → (p : ℤ) × IsFromTo a b p × (s ≤ℤ p) × (p <ℤ until)
met_gives a b s until h = (
  int_max a s,
  (grind (arith, ints, clamps), grind (arith, ints, clamps)),
  grind (arith, ints, clamps),
  grind (arith, ints, clamps),
)

-- the converse: a span that contains a moment asked for passes the test
met_from : (a b s until p : ℤ) → IsFromTo a b p → s ≤ℤ p → p <ℤ until → meets a b s until ≡ true
met_from a b s until p h k l = let x = h.0 in let y = h.1 in grind (arith, ints)

-- whether no version is of the row
abbrev fresh : List Version → Stamped → Bool
fresh vs r = not (has_row (found_rows vs) r)

-- the test for a version of a row is the membership test for the row
has_version_is : (vs : List Version) (r : Stamped) → has_version vs r ≡ has_row (found_rows vs) r
has_version_is [] r = refl
has_version_is (v ∷ vs) r = ap (λ b. same_stamped r v.row || b) (has_version_is vs r)

-- the rows of the versions that are added
rows_fresh : (earlier : List Version) (ends : Stamped → ℤ) (rows : List Stamped)
    → found_rows (filter (λ v. not (has_version earlier v.row)) (completed ends rows)) ≡ filter (fresh earlier) rows
rows_fresh earlier ends [] = refl
rows_fresh earlier ends (r ∷ rows) =
    let later = rows_fresh earlier ends rows in
    rw (has_version_is earlier r)
    (by_bool (has_row (found_rows earlier) r) (λ e. rw e later)
    (λ e. rw e (ap {B = List Stamped} (λ xs. r ∷ xs) later)))

-- the same for a copy that is met or not
rows_met : (earlier : List Version) (ends : Stamped → ℤ) (rows : List Stamped) (b : Bool)
    → found_rows (filter (λ v. not (has_version earlier v.row)) (if b then completed ends rows else [])) ≡ filter
    (fresh earlier) (if b then rows else [])
rows_met earlier ends rows true = rows_fresh earlier ends rows
rows_met earlier ends rows false = refl

module _ (t : ℕ) (Asked : ℤ → Type 0) (a b : ℤ) (asks : (p : ℤ) → Asked p → IsFromTo a b p)
    (asked : (p : ℤ) → IsFromTo a b p → Asked p) where
  -- the versions that a walk finds
  abbrev walk : ℤ → (Stamped → ℤ) → List Entry → List Version
  walk until ends es = found_from until ends a b (table_history t es)

  -- the versions that the next copy adds
  abbrev added : ℤ → (Stamped → ℤ) → Entry → List Version → List Version
  added until ends e earlier =
      filter (λ v. not (has_version earlier v.row))
      (if meets a b e.moment until then completed ends (rows_in e.copy t) else [])

  here_met : (newer : List Entry) (until : ℤ) (e : Entry) (r : Stamped) → IsUntil newer until
      → meets a b e.moment until ≡ true → In r (rows_in e.copy t) → Here t Asked newer e r
  here_met newer until e r u h m =
      let g = met_gives a b e.moment until h in
      record {
        moment = g.0;
        asked = asked g.0 g.1;
        held = record { begun = g.2; before_later = u.gives g.0 g.3; before_end = u.below g.0 g.3 };
        there = m;
      }

  met_here : (newer : List Entry) (until : ℤ) (e : Entry) (r : Stamped) → IsUntil newer until → Here t Asked newer e r
      → meets a b e.moment until ≡ true
  met_here newer until e r u h =
      met_from a b e.moment until h.moment (asks h.moment h.asked) h.held.begun
      (u.from h.moment h.held.before_later h.held.before_end)

  -- the version ends as its row does in some copy met
  abbrev Stands : List Entry → List Entry → Version → Type 0
  Stands newer es v = (w : Walked t Asked newer es v.row) × EndsAt t (newer ++ w.passed) v.row v.end

  stands_here : (newer : List Entry) (until : ℤ) (ends : Stamped → ℤ) (e : Entry) (older : List Entry) (v : Version)
      → IsUntil newer until → AreEnds t newer ends
      → meets a b e.moment until ≡ true → In v (completed ends (rows_in e.copy t)) → Stands newer (e ∷ older) v
  stands_here newer until ends e older v u k h m = (
    from_here t Asked newer e older v.row (here_met newer until e v.row u h (completed_in ends (rows_in e.copy t) v m)),
    subst (λ ls. EndsAt t ls v.row v.end) (sym (append-nil newer))
        (completed_ends t newer ends (rows_in e.copy t) k v m),
  )

  walk_only : (newer : List Entry) (until : ℤ) (ends : Stamped → ℤ) (es : List Entry) → IsUntil newer until
      → AreEnds t newer ends → FallingFrom until es
      → (v : Version) → In v (walk until ends es) → Stands newer es v
  walk_only newer until ends [] u k f v m = absurd m
  walk_only newer until ends (e ∷ older) u k f v m =
      let earlier : List Version = walk e.moment (ends_before (at t e) ends) older in
      elim (in_either v (added until ends e earlier) earlier m) [
        | inl n ↦ by_bool (meets a b e.moment until)
            (λ h. stands_here newer until ends e older v u k h
            (subst (λ (xs : List Version). In v xs) (yes _ h _ _) (in_kept _ v _ n).0))
            (λ h. absurd (subst (λ (xs : List Version). In v xs) (no _ h (completed ends (rows_in e.copy t)) [])
            (in_kept _ v _ n).0))
        | inr n ↦
            let w = walk_only (newer ++ e ∷ []) e.moment (ends_before (at t e) ends) older
            (until_next newer until e u f.0) (ends_next t newer ends e k) f.1 v n in (
              from_later t Asked newer e older v.row w.0,
              subst (λ ls. EndsAt t ls v.row v.end) (append_assoc newer (e ∷ []) w.0.passed) w.1,
            )
      ]

  -- the multiplicity of a row in a walk: in the versions that the next copy adds, and in the rest
  times_found : (until : ℤ) (ends : Stamped → ℤ) (e : Entry) (older : List Entry) (r : Stamped)
      → times r (found_rows (walk until ends (e ∷ older)))
      ≡ cond (fresh (walk e.moment (ends_before (at t e) ends) older) r)
      (times r (if meets a b e.moment until then rows_in e.copy t else [])) 0
      + times r (found_rows (walk e.moment (ends_before (at t e) ends) older))
  times_found until ends e older r =
      let earlier : List Version = walk e.moment (ends_before (at t e) ends) older in
      let rows : List Stamped = if meets a b e.moment until then rows_in e.copy t else [] in
      ap (times r) (map-append (λ (v : Version). v.row) (added until ends e earlier) earlier)
      ∙ times_append r (found_rows (added until ends e earlier)) (found_rows earlier)
      ∙ ap (λ n. n + times r (found_rows earlier))
      (ap (times r) (rows_met earlier ends (rows_in e.copy t) (meets a b e.moment until))
      ∙ times_kept (fresh earlier) r rows)

  -- n is the multiplicity of the row in some copy met
  abbrev StandsAsIn : List Entry → List Entry → Stamped → ℕ → Type 0
  StandsAsIn newer es r n = (w : Walked t Asked newer es r) × (n ≡ times r (rows_in w.copy.copy t))

  -- the step of a walk by one copy, if the law holds for the older ones
  each_step : (newer : List Entry) (until : ℤ) (ends : Stamped → ℤ) (e : Entry) (older : List Entry)
      → IsUntil newer until → AreEnds t newer ends → FallingFrom until (e ∷ older)
      → (r : Stamped)
      → (Walked t Asked (newer ++ e ∷ []) older r
      → StandsAsIn (newer ++ e ∷ []) older r (times r (found_rows (walk e.moment (ends_before (at t e) ends) older))))
      → Walked t Asked newer (e ∷ older) r
      → StandsAsIn newer (e ∷ older) r (times r (found_rows (walk until ends (e ∷ older))))
  each_step newer until ends e older u k f r later w = elim (has_tells (found_rows earlier) r) [
    | inl y ↦ (
      from_later t Asked newer e older r (again y.1).0,
      times_found until ends e older r ∙ ap (λ b. cond (not b) here 0 + times r (found_rows earlier)) y.0
          ∙ zero_plus (again y.1).1,
    )
    | inr n ↦ elim (here_or_later t Asked newer e older r w) [
      | inl h ↦ (
        from_here t Asked newer e older r h,
        times_found until ends e older r ∙ ap (λ b. cond (not b) here 0 + times r (found_rows earlier)) n.0
            ∙ only_here n.1 (ap (times r) (yes _ (met_here newer until e r u h) (rows_in e.copy t) [])),
      )
      | inr l ↦ absurd (n.1 (found_later (later l)))
    ]
  ]
    where
      earlier : List Version
      earlier = walk e.moment (ends_before (at t e) ends) older

      here : ℕ
      here = times r (if meets a b e.moment until then rows_in e.copy t else [])

      again : In r (found_rows earlier) → StandsAsIn (newer ++ e ∷ []) older r (times r (found_rows earlier))
      again m =
          let i = in_image (λ (v : Version). v.row) r earlier m in
          let s = walk_only (newer ++ e ∷ []) e.moment (ends_before (at t e) ends) older
          (until_next newer until e u f.0) (ends_next t newer ends e k) f.1 i.0 i.1 in
          later (subst (λ x. Walked t Asked (newer ++ e ∷ []) older x) (sym i.2) s.0)

      found_later : StandsAsIn (newer ++ e ∷ []) older r (times r (found_rows earlier)) → In r (found_rows earlier)
      found_later s = there_if r (found_rows earlier)
          (omega (arith, s.1, times_some r (rows_in s.0.copy.copy t) s.0.there))

      zero_plus : {n m : ℕ} → n ≡ m → 0 + n ≡ m
      zero_plus q = omega arith

      only_here : (In r (found_rows earlier) → ⊥) → {n m : ℕ} → n ≡ m → n + times r (found_rows earlier) ≡ m
      only_here h q = omega (arith, times_none r (found_rows earlier) h)

  walk_each : (newer : List Entry) (until : ℤ) (ends : Stamped → ℤ) (es : List Entry) → IsUntil newer until
      → AreEnds t newer ends → FallingFrom until es
      → (r : Stamped) → Walked t Asked newer es r → StandsAsIn newer es r (times r (found_rows (walk until ends es)))
  walk_each newer until ends [] u k f r w = absurd (nowhere w.passed w.whole)
    where
      nowhere : (passed : List Entry) → [] ≡ passed ++ w.copy ∷ w.older → ⊥
      nowhere [] q = cc
      nowhere (x ∷ xs) q = cc
  walk_each newer until ends (e ∷ older) u k f r w =
      each_step newer until ends e older u k f r
      (walk_each (newer ++ e ∷ []) e.moment (ends_before (at t e) ends) older (until_next newer until e u f.0)
      (ends_next t newer ends e k) f.1 r) w

  abbrev given : (entries : List Entry) (r : Stamped) → Walked t Asked [] entries r → MetWith t Asked entries r
  given entries r w = record {
    later = w.passed;
    copy = w.copy;
    older = w.older;
    whole = w.whole;
    moment = w.moment;
    asked = w.asked;
    held = w.held;
    there = w.there;
  }

  abbrev taken : (entries : List Entry) (r : Stamped) → MetWith t Asked entries r → Walked t Asked [] entries r
  taken entries r c = record {
    passed = c.later;
    copy = c.copy;
    older = c.older;
    whole = c.whole;
    moment = c.moment;
    asked = c.asked;
    held = c.held;
    there = c.there;
  }

  of_copies_met : (entries : List Entry) → Falling entries
      → AreOfCopiesMet t Asked entries (from_to a b (table_history t entries))
  of_copies_met entries f = record {
    only = λ v m. let s = walk_only [] high still entries until_high (ends_still t) f v m in
        (given entries v.row s.0, s.1);
    each = λ r c. let s = walk_each [] high still entries until_high (ends_still t) f r (taken entries r c) in
        (given entries r s.0, s.1);
  }

-- a moment up to b is before b + 1
up_to : (a b p : ℤ) → IsBetween a b p → IsFromTo a (b +ℤ pos 1) p
up_to a b p h = (h.0, omega (arith, ints, h.1))

-- a moment before b + 1 is at most b
not_past : (a b p : ℤ) → IsFromTo a (b +ℤ pos 1) p → IsBetween a b p
not_past a b p h = (h.0, omega (arith, ints, h.1))

-- both forms of a range find the rows of the copies that they meet
pub ranges_are_copies_met : (t : ℕ) (a b : ℤ) (entries : List Entry) → Falling entries
    → RangesAreCopiesMet t a b entries
ranges_are_copies_met t a b entries f = record {
  from_to = of_copies_met t (IsFromTo a b) a b (λ p h. h) (λ p h. h) entries f;
  between = of_copies_met t (IsBetween a b) a (b +ℤ pos 1) (up_to a b) (not_past a b) entries f;
}

-- the law: each form of a query reads the copies by their spans
pub reads_by_spans : ReadsBySpans
reads_by_spans t entries f = record {
  now = now_is_the_newest t entries;
  as_of = λ m. as_of_is_the_copy_then t m entries f;
  ranges = λ a b. ranges_are_copies_met t a b entries f;
}
