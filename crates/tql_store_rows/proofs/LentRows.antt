-- Lent row slots through changes and commits.
use Rattle.std.proofs.Common.{◌≡◌, ℕ, ◌<◌, ◌≤◌, Bool, true, false, List, [], ◌∷◌, ◌++◌, length, refl, sym}
use Rattle.std.proofs.Common.{ap, subst, ◌∙◌, arith, inl, inr, take, drop, map, append-nil, append_assoc}
use Rattle.std.specs.Prelude.{◌⊎◌, All, Contains, ℤ, ◌<ℤ◌}
use Rattle.std.specs.Ordering.{int_eq}
use Rattle.std.proofs.lemmas.Bool.{cases_lt}
use Rattle.std.proofs.lemmas.Int.{ints}
use Rattle.std.proofs.lemmas.List.{get_or_append_left, take-append-drop}
use Rattle.tql_spec.proofs.MemberLists.{in_either, in_left}
use Rattle.tql_spec.specs.Bag.{In}
use Rattle.tql_spec.specs.Calendar.{high}
use Rattle.tql_spec.specs.Datum.{Row}
use Rattle.tql_spec.specs.Definition.{Version}
use Rattle.tql_store_index.specs.Basis.{Basis}
use Rattle.tql_store_index.specs.Seating.{Seating, seat_at}
use Rattle.tql_store_index.specs.Standing.{stands}
use Rattle.tql_store_index.specs.ValueIndexes.{ValueIndex, index_at, Each, IsLinked}
use Rattle.tql_store_rows.proofs.Loans.{lent_none}
use Rattle.tql_standing.proofs.RowsStanding.{IsTold, all-length, all_held, at_all, at_held, held-length, kept-rows}
use Rattle.tql_standing.proofs.RowsStanding.{none_held, past_end, rows-length}
use Rattle.tql_store_rows.proofs.Turns.{at-closing, length-closing}
use Rattle.tql_store_rows.specs.Loans.{AllStand, AreLent, AreListed, AreMore, AreShut, IsFront}
use Rattle.tql_standing.specs.RowsStanding.{AreHeld, AreStanding, IsShut, IsShutAt, all_of, held_of, past_rows}
use Rattle.tql_standing.specs.RowsStanding.{rows_of}
use Rattle.tql_store_rows.specs.declared.borrowing.Loan.{Loan}
use Rattle.tql_versions.specs.Heap.{AreInHeap}
use Rattle.tql_versions.specs.Changes.{closing, ended, fresh, is_current, nothing}
use Rattle.tql_versions.specs.Places.{version_at}
use Rattle.tql_versions.specs.Views.{versions_of}
use Rattle.tql_versions.specs.declared.kept.Kept.{Kept}

neither : (b : Bool) → b ≡ true → b ≡ false → ⊥
neither b p q = absurd (cc)

-- a version that ended is closed
pub not_open : (v : Version) → v.end <ℤ high → is_current v ≡ false
not_open v l = below_high v.end l
  where
    below_high : (n : ℤ) → n <ℤ high → int_eq n high ≡ false
    below_high n l = grind (arith, ints)

-- with an index, each row has a row slot
pub lent_room : (base : ℕ) (loans : List Loan) (s : Seating) (indexes after : List ValueIndex) (ks : List Kept)
    → length after ≡ length indexes → AreLent base loans s indexes (rows_of (versions_of ks)) → 0 < length after
    → length ks ≤ length s.seats
lent_room base loans s indexes after ks e h l =
    let r = (h.each 0 (omega (arith, e, l))).room in
    omega (arith, r, all-length (index_at indexes 0).basis (rows_of (versions_of ks)), kept-rows ks)

-- the rows of closed versions have been removed, at the lenders' row slots too
pub lent_left : (base : ℕ) (loans : List Loan) (s : Seating) (indexes new : List ValueIndex) (vs : List Version)
    (is : List ℕ) → Each (IsShut vs s is) indexes new → ((k : ℕ) → k < length vs → IsTold is_current vs is k)
    → AreShut loans vs → AreLent base loans s indexes (rows_of vs) → AreHeld is_current s new vs
lent_left base loans s indexes new vs is shut told none h = record {
  each = λ i l.
      let n : i < length indexes = let e = shut.0 in omega (arith, e, l) in
      let basis = (index_at indexes i).basis in
      let x = shut.1 i n in
      let g = h.each i n in
      subst (λ (b : Basis). IsLinked (held_of is_current b vs) s (index_at new i).standing) (sym x.basis)
      (record {
        room = let r = g.room in omega
            (arith, r, all-length basis (rows_of vs), rows-length vs, held-length is_current basis vs);
        wide = let a = g.wide in let b = x.even in omega (arith, a, b);
        each = λ k o. elim (cases_lt k (length vs)) [
          | inl a ↦ elim (told k a) [
            | inl t ↦ same i k x o (λ c z. neither (is_current (version_at vs k)) (t.1 c) z.1)
                ∙ g.full k o (λ z. neither (is_current (version_at vs k)) t.0
                (ap (λ j. is_current (version_at vs j)) (sym z.2) ∙ not_open (version_at vs z.0.lender) (none z.0 z.1)))
                ∙ at_all basis vs k a
                ∙ sym (at_held is_current basis vs k a ∙ all_held is_current basis (version_at vs k) t.0)
            | inr t ↦ x.gone k t.1.1 t.1.0
                ∙ sym (at_held is_current basis vs k a ∙ none_held is_current basis (version_at vs k) t.0)
          ]
          | inr a ↦ same i k x o (λ c z. let w = z.0 in omega (arith, w, a))
              ∙ g.full k o (λ z. let p = h.pairs.lower z.0 z.1 in let q = h.pairs.upper z.0 z.1 in
              let r = h.pairs.within z.0 z.1 in let y = z.2 in omega (arith, p, q, r, y, a, rows-length vs))
              ∙ past_end (all_of basis (rows_of vs)) k (omega
              (arith, a, all-length basis (rows_of vs), rows-length vs))
              ∙ sym (past_end (held_of is_current basis vs) k (omega (arith, a, held-length is_current basis vs)))
        ];
        beyond = λ seat o. x.beyond seat o ∙ g.beyond seat o;
      });
}
  where
    same : (i k : ℕ) → IsShut vs s is (index_at indexes i) (index_at new i) → k < length s.seats
        → (Contains is k → IsShutAt vs k → ⊥)
        → stands (index_at new i).standing (seat_at s k) ≡ stands (index_at indexes i).standing (seat_at s k)
    same i k x o f = elim (x.kept k o) [ inl e ↦ e | inr e ↦ absurd (f e.0 e.1.0) ]

-- ---- fewer and more loans

pub shut_front : (loans fewer : List Loan) (vs : List Version) → IsFront fewer loans → AreShut loans vs
    → AreShut fewer vs
shut_front loans fewer vs e h = λ l m. h l (subst (In l) (sym e.is) (in_left l fewer e.rest m))

pub listed_front : (loans fewer : List Loan) (ended : List ℕ) → IsFront fewer loans → AreListed loans ended
    → AreListed fewer ended
listed_front loans fewer ended e h = λ l m. h l (subst (In l) (sym e.is) (in_left l fewer e.rest m))

pub none_front : (loans fewer : List Loan) → IsFront fewer loans → loans ≡ [] → fewer ≡ []
none_front loans fewer e f = none fewer e.rest (sym e.is ∙ f)
  where
    none : (xs ys : List Loan) → xs ++ ys ≡ [] → xs ≡ []
    none [] ys q = refl
    none (x ∷ xs) ys q = absurd (let n = ap length q in omega (arith, n))

pub front_all : (loans new : List Loan) → new ≡ loans → IsFront new loans
front_all loans new e = record { rest = []; is = sym (append-nil new ∙ e) }

pub front_none : (loans new : List Loan) → new ≡ [] → IsFront new loans
front_none loans new e = record { rest = loans; is = sym (ap (λ ls. ls ++ loans) e) }

pub front_fewer : (loans now new : List Loan) (n : ℕ) → IsFront now loans → new ≡ take n now → IsFront new loans
front_fewer loans now new n h e = record {
  rest = drop n now ++ h.rest;
  is = h.is ∙ ap (λ ls. ls ++ h.rest) (sym (take-append-drop n now))
      ∙ append_assoc (take n now) (drop n now) h.rest ∙ ap (λ ls. ls ++ (drop n now ++ h.rest)) (sym e);
}

-- no loan has been added if no position may lend
pub more_none : (from : ℕ) (places : List ℕ) (old new : List Loan) → AreMore from places old new → places ≡ []
    → old ≡ [] → new ≡ []
more_none from places old new h e f = h.is ∙ ap (λ ls. ls ++ h.more) f ∙ none h.more h.listed
  where
    nowhere : (k : ℕ) → Contains places k → ⊥
    nowhere k c = absent (subst (λ is. Contains is k) e c)
      where
        absent : Contains [] k → ⊥
        absent (i, l, q) = omega (arith, l)

    none : (ls : List Loan) → ((l : Loan) → In l ls → Contains places l.lender) → ls ≡ []
    none [] g = refl
    none (l ∷ ls) g = absurd (nowhere l.lender (g l (inl refl)))

-- the lenders are closed after a change
pub shut_changed : (m : ℤ) (removed places : List ℕ) (from : ℕ) (old loans : List Loan) (vs new : List Version)
    (rows : List Row) → m <ℤ high → new ≡ closing m removed vs ++ map (fresh m) rows → AreShut old vs
    → AreMore from places old loans → ((k : ℕ) → Contains places k → Contains removed k)
    → ((l : Loan) → In l loans → l.lender < length vs) → AreShut loans new
shut_changed m removed places from old loans vs new rows low made shut more listed within = λ l i.
    let w = within l i in
    subst (λ (v : Version). v.end <ℤ high) (sym (here l.lender w)) (elim (at-closing m removed vs l.lender w) [
      | inl x ↦ subst (λ (v : Version). v.end <ℤ high) (sym x.0) low
      | inr x ↦ elim (in_either l old more.more (subst (In l) more.is i)) [
        | inl a ↦ subst (λ (v : Version). v.end <ℤ high) (sym x.0) (shut l a)
        | inr a ↦ absurd (x.1 (listed l.lender (more.listed l a)))
      ]
    ])
  where
    here : (k : ℕ) → k < length vs → version_at new k ≡ version_at (closing m removed vs) k
    here k l = ap (λ us. version_at us k) made
        ∙ get_or_append_left (closing m removed vs) (map (fresh m) rows) nothing k
        (let n = length-closing m removed vs in omega (arith, n, l))

-- ---- the invariant

-- nothing is lent
pub free_stand : (keeps : Bool) (s t : Seating) (indexes past : List ValueIndex) (current : List Version)
    (ended : List ℕ) (closed : List Version) (base : ℕ) (dead : List ℕ) (loans : List Loan) → loans ≡ []
    → AreStanding s indexes (rows_of current) → AreStanding t past (past_rows keeps current ended closed)
    → All (λ k. base ≤ k) dead → AreInHeap closed → AllStand keeps s indexes t past current ended closed base dead loans
free_stand keeps s t indexes past current ended closed base dead loans free h i low heap = record {
  current_ones = subst (λ (ls : List Loan). AreLent base ls s indexes (rows_of current)) (sym free)
      (lent_none base s indexes (rows_of current) h);
  past_ones = i;
  behind = low;
  shut = λ l m. absurd (subst (In l) free m);
  listed = λ l m. absurd (subst (In l) free m);
  settled = inr free;
  in_heap = heap;
}

-- nothing is lent while versions are recorded as dead
pub free_if : (dead : List ℕ) (loans : List Loan) → (dead ≡ [] → ⊥) → (dead ≡ []) ⊎ (loans ≡ []) → loans ≡ []
free_if dead loans some settled = elim settled [ inl e ↦ absurd (some e) | inr e ↦ e ]
