-- Row slots that are given back to the versions that lent them.
use Rattle.std.proofs.Common.{◌≡◌, ℕ, zero, suc, ◌+◌, ◌-◌, ◌<◌, ◌≤◌, List, [], ◌∷◌, ◌++◌, length, length-append, refl}
use Rattle.std.proofs.Common.{sym, ap, subst, ◌∙◌, arith, inl, inr, take, drop, get_or}
use Rattle.std.proofs.Math.Seq.{drop-append_seam, take-append_seam}
use Rattle.std.specs.Prelude.{◌⊎◌, ◌≢◌, None}
use Rattle.std.proofs.lemmas.Bool.{cases_lt}
use Rattle.std.proofs.lemmas.List.{drop_more, get_or_default, get_or-map, get_or_append_left, length-drop, length-map}
use Rattle.std.proofs.lemmas.List.{map-append, take_more}
use Rattle.tql_spec.proofs.MemberLists.{in_either, in_left, in_right}
use Rattle.tql_spec.specs.Bag.{In}
use Rattle.tql_store_index.proofs.Seated.{apart}
use Rattle.tql_spec.specs.Definition.{Version}
use Rattle.tql_store_index.specs.Basis.{Basis, Filed, filed, stands_by}
use Rattle.tql_store_index.specs.Places.{whole}
use Rattle.tql_store_rows.proofs.Naming.{in_at}
use Rattle.tql_versions.specs.Changes.{nothing}
use Rattle.tql_store_index.specs.Seating.{Seating, seat_at, AreSwapped}
use Rattle.tql_store_index.specs.Standing.{stands}
use Rattle.tql_store_index.specs.ValueIndexes.{ValueIndex, index_at, Each, AreLoose, IsCleared, IsTurned, nowhere}
use Rattle.tql_store_rows.proofs.Loans.{apart_parts, paired_front}
use Rattle.tql_store_index.proofs.Linking.{same_turned}
use Rattle.tql_standing.proofs.RowsStanding.{all-length, at_all, front-length, kept-rows, past_end, rows-parts}
use Rattle.tql_standing.proofs.RowsStanding.{standing_none}
use Rattle.tql_store_rows.specs.Loans.{AreApart, AreLent, AreMore, AreOwing, ArePaired, IsEntry, IsLent, IsOwing, Lends}
use Rattle.tql_standing.specs.RowsStanding.{AreStanding, all_of, rows_of, stands_ever}
use Rattle.tql_versions.specs.Views.{version_of, versions_of}
use Rattle.tql_versions.specs.declared.kept.Kept.{Kept}
use Rattle.tql_store_rows.specs.declared.borrowing.Loan.{Loan}

-- the spans of the first rows
front_span : (b : Basis) (rows more : List Filed) (n k : ℕ) → length rows ≡ n → k < n
    → stands (all_of b (rows ++ more)) k ≡ stands (all_of b rows) k
front_span b rows more n k e l =
    ap (λ xs. stands xs k) (map-append (stands_by b) rows more)
    ∙ get_or_append_left (all_of b rows) (all_of b more) None k (let q = all-length b rows in omega (arith, e, l, q))

-- the loans of a list become due, if only positions from a number on have changed
pub owing_from : (base from cut to : ℕ) (kept owed : List Loan) (s : Seating) (old new : List ValueIndex)
    (rows more : List Filed) → length rows ≡ from → base ≤ from → length (rows ++ more) ≡ cut → cut ≤ to
    → ((i : ℕ) → i < length old → to ≤ length s.seats) → Each (IsTurned cut to s) old new
    → ((l : Loan) → In l kept → l.borrower < from) → ((l : Loan) → In l owed → from ≤ l.borrower)
    → AreLent base (kept ++ owed) s old (rows ++ more) → AreOwing base from to kept owed s new rows
owing_from base from cut to kept owed s old new rows more e low size within room turned near far h = record {
  size = e;
  based = low;
  rises = omega (arith, e, size, within, length-append rows more);
  pairs = record {
    lower = λ l m. h.pairs.lower l (in_left l kept owed m);
    upper = λ l m. h.pairs.upper l (in_left l kept owed m);
    within = near;
    apart = parts.0.0;
  };
  lower = λ l m. h.pairs.lower l (in_right l kept owed m);
  upper = far;
  within = λ l m. let a = h.pairs.within l (in_right l kept owed m) in omega (arith, a, size, within);
  apart = parts.0.1;
  clear = λ l o m n z. (parts.1 l o m n).0 (sym z);
  each = λ i l.
      let m : i < length old = let q = turned.0 in omega (arith, q, l) in
      let x = h.each i m in
      let t = turned.1 i m in
      let b = (index_at old i).basis in
      subst (λ (c : Basis). IsOwing from to kept owed (all_of c rows) s (index_at new i).standing) (sym t.basis)
      (record {
        room = room i m;
        wide = let a = x.wide in let c = t.differs.even in omega (arith, a, c);
        full = λ k o f g.
            let w : k < length s.seats = let a = room i m in omega (arith, a, o, under) in
            t.differs.others k w (inl (omega (arith, o, under)))
            ∙ x.full k w (λ z. elim (in_either z.0 kept owed z.1) [
              | inl a ↦ f (z.0, a, z.2)
              | inr a ↦ g (z.0, a, z.2)
            ])
            ∙ front_span b rows more from k e o;
        gone = λ k o z.
            let w : k < length s.seats = let a = room i m in omega (arith, a, o, under) in
            t.differs.others k w (inl (omega (arith, o, under)))
            ∙ x.gone k w (z.0, in_left z.0 kept owed z.1, z.2);
        alike = λ z n.
            let a = near z n in
            let c = h.pairs.lower z (in_left z kept owed n) in
            sym (front_span b rows more from z.borrower e a) ∙ x.alike z (in_left z kept owed n)
            ∙ front_span b rows more from z.lender e (omega (arith, c, low));
        dues = λ z n.
            let p = in_right z kept owed n in
            let a = h.pairs.within z p in
            let c = h.pairs.lower z p in
            let d = far z n in
            let w : z.borrower < length s.seats = let r = room i m in omega (arith, r, a, size, within) in
            t.differs.others z.borrower w (inl (omega (arith, a, size)))
            ∙ x.full z.borrower w (unlent z.borrower (omega (arith, d, low)))
            ∙ x.alike z p ∙ front_span b rows more from z.lender e (omega (arith, c, low));
        after = λ k o w.
            t.differs.others k w (inr o) ∙ x.full k w (unlent k (omega (arith, o, under, low)))
            ∙ past_end (all_of b (rows ++ more)) k (let q = all-length b (rows ++ more) in omega
            (arith, q, o, size, within));
        beyond = λ seat o. t.differs.beyond seat o ∙ x.beyond seat o;
      });
}
  where
    under : from ≤ cut × (cut ≤ to)
    under = (omega (arith, e, size, length-append rows more), within)

    parts : (AreApart kept × AreApart owed)
        × ((l o : Loan) → In l kept → In o owed → (o.lender ≢ l.lender) × (o.borrower ≢ l.borrower))
    parts = apart_parts kept owed h.pairs.apart

    unlent : (k : ℕ) → base ≤ k → Lends (kept ++ owed) k → ⊥
    unlent k o z = let a = h.pairs.lower z.0 z.1 in let c = z.2 in omega (arith, a, c, o)

-- the loans after the first ones become due
pub owing_after : (base from cut to n : ℕ) (places : List ℕ) (old loans : List Loan) (s : Seating)
    (was new : List ValueIndex) (rows more : List Filed) → n ≡ length old → length rows ≡ from → base ≤ from
    → length (rows ++ more) ≡ cut → cut ≤ to → ((i : ℕ) → i < length was → to ≤ length s.seats)
    → Each (IsTurned cut to s) was new → ((l : Loan) → In l old → l.borrower < from) → AreMore from places old loans
    → AreLent base loans s was (rows ++ more)
    → AreOwing base from to (take n loans) (drop n loans) s new rows
owing_after base from cut to n places old loans s was new rows more count e low size within room turned near added h =
    subst (λ (ls : List Loan). AreOwing base from to ls (drop n loans) s new rows)
    (sym (ap (λ k. take k loans) count ∙ ap (take (length old)) added.is ∙ take-append_seam old added.more))
    (subst (λ (ls : List Loan). AreOwing base from to old ls s new rows)
    (sym (ap (λ k. drop k loans) count ∙ ap (drop (length old)) added.is ∙ drop-append_seam old added.more))
    (owing_from base from cut to old added.more s was new rows more e low size within room turned near added.after
    (subst (λ (ls : List Loan). AreLent base ls s was (rows ++ more)) added.is h)))

-- the loans that the code reads after the first ones
pub rest_is : (loans ls : List Loan) (n : ℕ) → ls ≡ loans → drop n loans ≡ take (length ls - n) (drop n ls)
rest_is loans ls n e =
    all (drop n loans) (length ls - n) (let q = ap length e in let m = length-drop n loans in omega (arith, q, m))
    ∙ ap (λ (ks : List Loan). take (length ls - n) (drop n ks)) (sym e)
  where
    all : (ks : List Loan) (k : ℕ) → length ks ≤ k → ks ≡ take k ks
    all [] zero l = refl
    all [] (suc k) l = refl
    all (x ∷ ks) zero l = absurd (omega (arith, l))
    all (x ∷ ks) (suc k) l = ap (λ xs. x ∷ xs) (all ks k (omega (arith, l)))

-- all loans of a table become due
pub owing_cut : (base to : ℕ) (loans : List Loan) (s : Seating) (indexes : List ValueIndex) (ks : List Kept)
    → base ≤ length ks → to ≡ length ks → AreLent base loans s indexes (rows_of (versions_of ks))
    → AreOwing base base to [] loans s indexes (rows_of (versions_of (take base ks)))
owing_cut base to loans s indexes ks low e h =
    owing_from base base (length ks) to [] loans s indexes indexes (rows_of (versions_of (take base ks)))
    (rows_of (versions_of (drop base ks))) (front-length base ks low) (omega arith)
    (sym (ap length (rows-parts base ks)) ∙ kept-rows ks) (omega (arith, e))
    (λ i l. let r = (h.each i l).room in omega (
      arith,
      r,
      e,
      all-length (index_at indexes i).basis
          (rows_of (versions_of ks)),
      kept-rows ks,
    ))
    (refl, λ i l. same_turned (length ks) to s (index_at indexes i)) (λ l m. absurd m) h.pairs.upper
    (subst (AreLent base loans s indexes) (rows-parts base ks) h)

-- one row slot is given back
pub owing_given : (base from to : ℕ) (kept : List Loan) (o : Loan) (owed : List Loan) (s t : Seating)
    (indexes : List ValueIndex) (rows : List Filed)
    → (o.lender < length s.seats → o.borrower < length s.seats → AreSwapped o.lender o.borrower s t)
    → AreOwing base from to kept (o ∷ owed) s indexes rows → AreOwing base from to kept owed t indexes rows
owing_given base from to kept o owed s t indexes rows swaps h = record {
  size = h.size;
  based = h.based;
  rises = h.rises;
  pairs = h.pairs;
  lower = λ l m. h.lower l (inr m);
  upper = λ l m. h.upper l (inr m);
  within = λ l m. h.within l (inr m);
  apart = h.apart.1;
  clear = λ l x m n. h.clear l x m (inr n);
  each = λ i l.
      let x = h.each i l in
      let standing = (index_at indexes i).standing in
      let w = swaps (let r = x.room in omega (arith, r, low, up)) (let r = x.room in omega (arith, r, up)) in
      record {
        room = let r = x.room in let e = w.even in omega (arith, r, e);
        wide = let r = x.wide in let e = w.even in omega (arith, r, e);
        full = λ k n f g. elim (apart k o.lender) [
          | inl e ↦ ap (λ j. stands standing (seat_at t j)) e ∙ ap (λ j. stands standing j) w.first
              ∙ x.dues o (inl refl)
              ∙ ap (λ j. stands (all_of (index_at indexes i).basis rows) j) (sym e)
          | inr e ↦ ap (λ j. stands standing j) (w.others k e (λ q. omega (arith, q, n, up)))
              ∙ x.full k n f (λ z. elim (z.1) [
                | inl q ↦ e (sym z.2 ∙ ap (λ (y : Loan). y.lender) q)
                | inr q ↦ g (z.0, q, z.2)
              ])
        ];
        gone = λ k n z.
            ap (λ j. stands standing j) (w.others k
            (λ q. h.clear z.0 o z.1 (inl refl) (z.2 ∙ q))
            (λ q. omega (arith, q, n, up)))
            ∙ x.gone k n z;
        alike = x.alike;
        dues = λ z n.
            let a = h.upper z (inr n) in
            ap (λ j. stands standing j) (w.others z.borrower (λ q. omega (arith, q, a, low)) ((h.apart.0 z n).1))
            ∙ x.dues z (inr n);
        after = λ k n m.
            ap (λ j. stands standing j) (w.others k (λ q. omega (arith, q, n, low, up))
            (λ q. omega (arith, q, n, up)))
            ∙ x.after k n (let e = w.even in omega (arith, m, e));
        beyond = λ seat n. x.beyond seat (let e = w.even in omega (arith, n, e));
      };
}
  where
    low : (o.lender < from) × (from ≤ to)
    low = (let a = h.lower o (inl refl) in let b = h.based in omega (arith, a, b), h.rises)

    up : (from ≤ o.borrower) × (o.borrower < to)
    up = (h.upper o (inl refl), h.within o (inl refl))

pub owing_step : (loans : List Loan) (j : ℕ) (o : Loan) (s t : Seating) → j < length loans
    → ((get_or loans j o).lender < length s.seats → (get_or loans j o).borrower < length s.seats
    → AreSwapped (get_or loans j o).lender (get_or loans j o).borrower s t)
    → (base from to : ℕ) (kept : List Loan) (indexes : List ValueIndex) (rows : List Filed)
    → AreOwing base from to kept (drop j loans) s indexes rows
    → AreOwing base from to kept (drop (j + 1) loans) t indexes rows
owing_step loans j o s t l swaps base from to kept indexes rows h =
    owing_given base from to kept (get_or loans j o) (drop (j + 1) loans) s t indexes rows swaps
    (subst (λ (ls : List Loan). AreOwing base from to kept ls s indexes rows) (drop_more loans j o l) h)

-- row slots are swapped or not, and stay as many
pub swap_even : (a b : ℕ) (s t : Seating)
    → (a < length s.seats → b < length s.seats → AreSwapped a b s t)
    → ((length s.seats ≤ a) ⊎ (length s.seats ≤ b) → t ≡ s) → length t.seats ≡ length s.seats
swap_even a b s t swaps same = elim (cases_lt a (length s.seats)) [
  | inl l ↦ elim (cases_lt b (length s.seats)) [
    | inl m ↦ (swaps l m).even
    | inr m ↦ ap (λ (x : Seating). length x.seats) (same (inr m))
  ]
  | inr l ↦ ap (λ (x : Seating). length x.seats) (same (inl l))
]

-- nothing is owed beyond the list
pub owing_end : (loans : List Loan) (j base from to : ℕ) (kept : List Loan) (s : Seating) (indexes : List ValueIndex)
    (rows : List Filed) → length loans ≤ j → AreOwing base from to kept (drop j loans) s indexes rows
    → AreOwing base from to kept [] s indexes rows
owing_end loans j base from to kept s indexes rows l h =
    subst (λ (ls : List Loan). AreOwing base from to kept ls s indexes rows) (none loans j l) h
  where
    none : (ls : List Loan) (k : ℕ) → length ls ≤ k → drop k ls ≡ []
    none [] zero m = refl
    none [] (suc k) m = refl
    none (x ∷ ls) zero m = absurd (omega (arith, m))
    none (x ∷ ls) (suc k) m = none ls k (omega (arith, m))

-- all have been given back, and the rows from the position on have been removed
pub owing_done : (base from to : ℕ) (kept : List Loan) (s : Seating) (old new : List ValueIndex) (rows : List Filed)
    → Each (IsTurned from to s) old new
    → ((i : ℕ) → i < length old → AreLoose from to s (index_at new i).standing)
    → AreOwing base from to kept [] s old rows → AreLent base kept s new rows
owing_done base from to kept s old new rows turned loose h = record {
  pairs = subst (λ n. ArePaired base n kept) (sym h.size) h.pairs;
  each = λ i l.
      let m : i < length old = let q = turned.0 in omega (arith, q, l) in
      let x = h.each i m in
      let t = turned.1 i m in
      let b = (index_at old i).basis in
      let n : length (all_of b rows) ≡ from = all-length b rows ∙ h.size in
      subst (λ (c : Basis). IsLent kept (all_of c rows) s (index_at new i).standing) (sym t.basis)
      (record {
        room = let r = x.room in let q = h.rises in omega (arith, r, q, n);
        wide = let r = x.wide in let q = t.differs.even in omega (arith, r, q);
        full = λ k o f. elim (cases_lt k from) [
          | inl a ↦ t.differs.others k o (inl a) ∙ x.full k a f (λ z. absurd z.1)
          | inr a ↦ elim (cases_lt k to) [
            | inl c ↦ loose i m k a c ∙ sym (past_end (all_of b rows) k (omega (arith, a, n)))
            | inr c ↦ t.differs.others k o (inr c) ∙ x.after k c o
                ∙ sym (past_end (all_of b rows) k (omega (arith, a, n)))
          ]
        ];
        gone = λ k o z.
            let p = h.pairs.lower z.0 z.1 in
            let q = z.2 in
            let r : k < from = let w = h.based in omega (arith, p, q, w) in
            t.differs.others k o (inl r) ∙ x.gone k r z;
        alike = x.alike;
        beyond = λ seat o. t.differs.beyond seat o ∙ x.beyond seat o;
      });
}

-- there were no indexes
pub owing_nowhere : (base from to : ℕ) (kept : List Loan) (s : Seating) (indexes : List ValueIndex)
    (rows : List Filed) → length indexes ≡ 0 → AreOwing base from to kept [] s indexes rows
    → AreLent base kept s indexes rows
owing_nowhere base from to kept s indexes rows e h = record {
  pairs = subst (λ n. ArePaired base n kept) (sym h.size) h.pairs;
  each = λ i l. absurd (omega (arith, e, l));
}

-- all rows have been removed, with the indexes and the row slots
pub owing_cleared : (base all : ℕ) (loans : List Loan) (s t : Seating) (old new : List ValueIndex)
    (rows : List Filed) → base ≡ 0 → t ≡ record { seats = []; places = [] } → Each IsCleared old new
    → AreOwing base base all [] loans s old rows → AreStanding t new rows
owing_cleared base all loans s t old new rows e f cleared h =
    subst (AreStanding t new) (sym (none rows (let n = h.size in omega (arith, n, e))))
    (standing_none t new f (λ i d l.
    subst (λ (k : ValueIndex). k.standing ≡ []) (sym (get_or_default new i d nowhere l))
    (cleared.1 i (let n = cleared.0 in omega (arith, n, l))).empty))
  where
    none : (xs : List Filed) → length xs ≡ 0 → xs ≡ []
    none [] q = refl
    none (x ∷ xs) q = absurd (omega (arith, q))

-- ---- a loan is settled

-- the lender has its row slot again, and the borrower has been entered
pub settled_last : (base : ℕ) (loans : List Loan) (o : Loan) (s t : Seating) (old new : List ValueIndex)
    (rows : List Filed) (row : Filed) → AreSwapped o.lender o.borrower s t → IsEntry o.borrower row t old new
    → ((i : ℕ) → i < length old → stands_by (index_at old i).basis row
    ≡ stands (all_of (index_at old i).basis rows) o.borrower)
    → AreLent base (loans ++ o ∷ []) s old rows → AreLent base loans t new rows
settled_last base loans o s t old new rows row w h read g = record {
  pairs = paired_front base (length rows) loans (o ∷ []) g.pairs;
  each = λ i l.
      let m : i < length old = let q = h.each.0 in omega (arith, q, l) in
      let x = g.each i m in
      let d = (h.each.1 i m).differs in
      let b = (index_at old i).basis in
      subst (λ (c : Basis). IsLent loans (all_of c rows) t (index_at new i).standing) (sym (h.each.1 i m).basis)
      (record {
        room = let r = x.room in let e = w.even in omega (arith, r, e);
        wide = let r = x.wide in let e = w.even in let f = d.even in omega (arith, r, e, f);
        full = λ k n f.
            let n' : k < length s.seats = let e = w.even in omega (arith, n, e) in
            elim (apart k o.borrower) [
              | inl q ↦ ap (λ j. stands (index_at new i).standing (seat_at t j)) q ∙ h.came i m ∙ read i m
                  ∙ ap (λ j. stands (all_of b rows) j) (sym q)
              | inr q ↦ d.others k n (aside k o.borrower q) ∙ elim (apart k o.lender) [
                | inl r ↦ ap (λ j. stands (index_at old i).standing (seat_at t j)) r
                    ∙ ap (λ j. stands (index_at old i).standing j) w.first
                    ∙ x.full o.borrower (seated i m) unlent ∙ x.alike o last
                    ∙ ap (λ j. stands (all_of b rows) j) (sym r)
                | inr r ↦ ap (λ j. stands (index_at old i).standing j) (w.others k r q)
                    ∙ x.full k n' (λ z. elim (in_either z.0 loans (o ∷ []) z.1) [
                      | inl a ↦ f (z.0, a, z.2)
                      | inr a ↦ elim a [
                        | inl e ↦ r (sym z.2 ∙ ap (λ (y : Loan). y.lender) e)
                        | inr e ↦ e
                      ]
                    ])
              ]
            ];
        gone = λ k n z.
            let n' : k < length s.seats = let e = w.even in omega (arith, n, e) in
            let low = g.pairs.lower z.0 (in_left z.0 loans (o ∷ []) z.1) in
            let up = g.pairs.upper o last in
            let at = z.2 in
            let q : k ≢ o.borrower = λ e. omega (arith, e, low, up, at) in
            d.others k n (aside k o.borrower q)
            ∙ ap (λ j. stands (index_at old i).standing j) (w.others k
            (λ e. ((parts.1 z.0 o z.1 (inl refl)).0) (sym e ∙ sym z.2)) q)
            ∙ x.gone k n' (z.0, in_left z.0 loans (o ∷ []) z.1, z.2);
        alike = λ z n. x.alike z (in_left z loans (o ∷ []) n);
        beyond = λ seat n. d.beyond seat n ∙ x.beyond seat (let e = w.even in omega (arith, n, e));
      });
}
  where
    last : In o (loans ++ o ∷ [])
    last = in_right o loans (o ∷ []) (inl refl)

    parts : (AreApart loans × AreApart (o ∷ []))
        × ((l p : Loan) → In l loans → In p (o ∷ []) → (p.lender ≢ l.lender) × (p.borrower ≢ l.borrower))
    parts = apart_parts loans (o ∷ []) g.pairs.apart

    aside : (k p : ℕ) → k ≢ p → (k < p) ⊎ (p + 1 ≤ k)
    aside k p f = elim (cases_lt k p) [
      | inl a ↦ inl a
      | inr a ↦ elim (cases_lt p k) [ inl c ↦ inr (omega (arith, c)) | inr c ↦ absurd (f (omega (arith, a, c))) ]
    ]

    unlent : Lends (loans ++ o ∷ []) o.borrower → ⊥
    unlent z =
        let a = g.pairs.lower z.0 z.1 in
        let c = g.pairs.upper o last in
        let d = z.2 in omega (arith, a, c, d)

    seated : (i : ℕ) → i < length old → o.borrower < length s.seats
    seated i l =
        let r = (g.each i l).room in
        let q = g.pairs.within o last in omega (arith, r, q, all-length (index_at old i).basis rows)

-- the borrower could not be entered, and has its row slot again
pub settled_not : (base : ℕ) (loans : List Loan) (o : Loan) (s t u : Seating) (old now new : List ValueIndex)
    (rows : List Filed) → AreSwapped o.lender o.borrower s t → AreSwapped o.lender o.borrower t u
    → Each (IsTurned o.borrower (o.borrower + 1) t) old now → Each (IsTurned o.borrower (o.borrower + 1) t) now new
    → ((i : ℕ) → i < length now → AreLoose o.borrower (o.borrower + 1) t (index_at new i).standing)
    → In o loans → AreLent base loans s old rows → AreLent base loans u new rows
settled_not base loans o s t u old now new rows w v one two loose last g = record {
  pairs = g.pairs;
  each = λ i l.
      let n : i < length now = let q = two.0 in omega (arith, q, l) in
      let m : i < length old = let q = one.0 in omega (arith, q, n) in
      let x = g.each i m in
      let d = (one.1 i m).differs in
      let e = (two.1 i n).differs in
      let b = (index_at old i).basis in
      let seated : (o.lender < length s.seats) × (o.borrower < length s.seats) = (
        let r = x.room in let p = g.pairs.lower o last in let q = g.pairs.upper o last in
            let c = g.pairs.within o last in omega (arith, r, p, q, c, all-length b rows),
        let r = x.room in let c = g.pairs.within o last in omega (arith, r, c, all-length b rows),
      ) in
      let same : (k : ℕ) → k < length s.seats → seat_at u k ≡ seat_at s k
      = λ k c. back s t u o.lender o.borrower k w v in
      -- the periods of the row slots have not changed
      let kept : (k : ℕ) → k < length s.seats
      → stands (index_at new i).standing (seat_at s k) ≡ stands (index_at old i).standing (seat_at s k) =
      λ k c. elim (apart k o.lender) [
        | inl q ↦ ap (λ j. stands (index_at new i).standing (seat_at s j)) q
            ∙ ap (λ j. stands (index_at new i).standing j) (sym w.second)
            ∙ loose i n o.borrower (omega arith) (omega arith)
            ∙ sym (x.gone o.lender seated.0 (o, last, refl))
            ∙ ap (λ j. stands (index_at old i).standing (seat_at s j)) (sym q)
        | inr q ↦ elim (apart k o.borrower) [
          | inl r ↦ ap (λ j. stands (index_at new i).standing (seat_at s j)) r
              ∙ ap (λ j. stands (index_at new i).standing j) (sym w.first)
              ∙ e.others o.lender (let z = w.even in omega (arith, z, seated)) (inl (lower m))
              ∙ d.others o.lender (let z = w.even in omega (arith, z, seated)) (inl (lower m))
              ∙ ap (λ j. stands (index_at old i).standing j) w.first
              ∙ ap (λ j. stands (index_at old i).standing (seat_at s j)) (sym r)
          | inr r ↦ ap (λ j. stands (index_at new i).standing j) (sym (w.others k q r))
              ∙ e.others k (let z = w.even in omega (arith, z, c)) (aside k o.borrower r)
              ∙ d.others k (let z = w.even in omega (arith, z, c)) (aside k o.borrower r)
              ∙ ap (λ j. stands (index_at old i).standing j) (w.others k q r)
        ]
      ] in
      let size : length u.seats ≡ length s.seats = v.even ∙ w.even in
      subst (λ (c : Basis). IsLent loans (all_of c rows) u (index_at new i).standing)
      (sym ((two.1 i n).basis ∙ (one.1 i m).basis))
      (record {
        room = let r = x.room in omega (arith, r, size);
        wide = let r = x.wide in let p = d.even in let q = e.even in omega (arith, r, p, q, size);
        full = λ k c f.
            let k' : k < length s.seats = omega (arith, c, size) in
            ap (λ j. stands (index_at new i).standing j) (same k k') ∙ kept k k' ∙ x.full k k' f;
        gone = λ k c z.
            let k' : k < length s.seats = omega (arith, c, size) in
            ap (λ j. stands (index_at new i).standing j) (same k k') ∙ kept k k' ∙ x.gone k k' z;
        alike = x.alike;
        beyond = λ seat c.
            let p = w.even in
            e.beyond seat (omega (arith, c, size, p)) ∙ d.beyond seat (omega (arith, c, size, p))
            ∙ x.beyond seat (omega (arith, c, size));
      });
}
  where
    aside : (k p : ℕ) → k ≢ p → (k < p) ⊎ (p + 1 ≤ k)
    aside k p f = elim (cases_lt k p) [
      | inl a ↦ inl a
      | inr a ↦ elim (cases_lt p k) [ inl c ↦ inr (omega (arith, c)) | inr c ↦ absurd (f (omega (arith, a, c))) ]
    ]

    lower : {i : ℕ} → i < length old → o.lender < o.borrower
    lower m = let p = g.pairs.lower o last in let q = g.pairs.upper o last in omega (arith, p, q)

    back : (s t u : Seating) (a b k : ℕ) → AreSwapped a b s t → AreSwapped a b t u → seat_at u k ≡ seat_at s k
    back s t u a b k w v = elim (apart k a) [
      | inl q ↦ ap (seat_at u) q ∙ v.first ∙ w.second ∙ ap (seat_at s) (sym q)
      | inr q ↦ elim (apart k b) [
        | inl r ↦ ap (seat_at u) r ∙ v.second ∙ w.first ∙ ap (seat_at s) (sym r)
        | inr r ↦ v.others k q r ∙ w.others k q r
      ]
    ]

-- ---- the last loan

pub record IsLast (loans : List Loan) (o : Loan) : Type 0 where
  pub member : In o loans
  pub parts : loans ≡ take (length loans - 1) loans ++ o ∷ []

pub is_last : (loans : List Loan) (n : ℕ) (o : Loan) → 0 < length loans → n ≡ length loans - 1 → o ≡ get_or loans n o
    → IsLast loans o
is_last loans n o l e read = record {
  member = subst (λ (x : Loan). In x loans) (sym read) (in_at loans n o (omega (arith, l, e)));
  parts = sym (all loans) ∙ ap (λ k. take k loans) (let q : length loans ≡ n + 1 = omega (arith, l, e) in q)
      ∙ take_more loans n o (omega (arith, l, e)) ∙ ap (λ (x : Loan). take n loans ++ x ∷ []) (sym read)
      ∙ ap (λ k. take k loans ++ o ∷ []) e;
}
  where
    all : (ls : List Loan) → take (length ls) ls ≡ ls
    all [] = refl
    all (x ∷ ls) = ap (λ ks. x ∷ ks) (all ls)

-- its positions have row slots
pub last_seated : (base : ℕ) (loans : List Loan) (o : Loan) (s : Seating) (indexes : List ValueIndex)
    (rows : List Filed) → 0 < length indexes → In o loans → AreLent base loans s indexes rows
    → (o.lender < length s.seats) × (o.borrower < length s.seats)
last_seated base loans o s indexes rows l m h =
    let r = (h.each 0 l).room in
    let a = h.pairs.lower o m in
    let b = h.pairs.upper o m in
    let c = h.pairs.within o m in
    let n = all-length (index_at indexes 0).basis rows in
    (omega (arith, r, a, b, c, n), omega (arith, r, c, n))

-- the lender's row slot has no period
pub last_loose : (base : ℕ) (loans : List Loan) (o : Loan) (s t : Seating) (indexes : List ValueIndex)
    (rows : List Filed) → 0 < length indexes → In o loans → AreSwapped o.lender o.borrower s t
    → AreLent base loans s indexes rows → (i : ℕ) → i < length indexes
    → stands (index_at indexes i).standing (seat_at t o.borrower) ≡ None
last_loose base loans o s t indexes rows some m w h i l =
    ap (λ j. stands (index_at indexes i).standing j) w.second
    ∙ (h.each i l).gone o.lender (last_seated base loans o s indexes rows some m h).0 (o, m, refl)

-- the row that the code reads
pub row_read : (ks : List Kept) (q : ℕ) (v : Kept) → q < length ks → v ≡ get_or ks q v → (b : Basis)
    → stands_by b (filed v.row whole) ≡ stands (all_of b (rows_of (versions_of ks))) q
row_read ks q v l read b =
    ap (λ (x : Version). stands_ever b x.row.cells) (sym (get_or-map version_of ks q v nothing l
    ∙ ap version_of (sym read)))
    ∙ sym (at_all b (versions_of ks) q (omega (arith, l, length-map ks version_of)))

pub record HasLast (loans : List Loan) (o : Loan) (s t : Seating) (indexes : List ValueIndex) (ks : List Kept) :
    Type 0 where
  pub last : IsLast loans o
  pub lender : o.lender < length s.seats
  pub borrower : o.borrower < length s.seats
  pub within : o.borrower < length ks
  pub swapped : AreSwapped o.lender o.borrower s t
  pub even : length t.seats ≡ length s.seats
  pub loose : (i : ℕ) → i < length indexes → stands (index_at indexes i).standing (seat_at t o.borrower) ≡ None

pub has_last : (base : ℕ) (loans : List Loan) (n : ℕ) (o : Loan) (s t : Seating) (indexes : List ValueIndex)
    (ks : List Kept) → 0 < length loans → n ≡ length loans - 1 → o ≡ get_or loans n o → 0 < length indexes
    → (o.lender < length s.seats → o.borrower < length s.seats → AreSwapped o.lender o.borrower s t)
    → AreLent base loans s indexes (rows_of (versions_of ks)) → HasLast loans o s t indexes ks
has_last base loans n o s t indexes ks l e read some swaps h = record {
  last = last;
  lender = seated.0;
  borrower = seated.1;
  within = let w = h.pairs.within o last.member in omega (arith, w, kept-rows ks);
  swapped = swapped;
  even = swapped.even;
  loose = last_loose base loans o s t indexes (rows_of (versions_of ks)) some last.member swapped h;
}
  where
    last : IsLast loans o
    last = is_last loans n o l e read

    seated : (o.lender < length s.seats) × (o.borrower < length s.seats)
    seated = last_seated base loans o s indexes (rows_of (versions_of ks)) some last.member h

    swapped : AreSwapped o.lender o.borrower s t
    swapped = swaps seated.0 seated.1
