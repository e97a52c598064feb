-- New rows that are entered or take over row slots, one after another.
use Rattle.std.proofs.Common.{◌≡◌, ℕ, ◌+◌, ◌<◌, ◌≤◌, List, [], ◌∷◌, ◌++◌, length, length-append, refl, sym, ap, subst}
use Rattle.std.proofs.Common.{◌∙◌, arith, inl, inr, take, drop, get_or, append-nil, append_assoc}
use Rattle.std.specs.Prelude.{Option, None, IfSome, Contains, Result, Ok, Err, OnErr}
use Rattle.std.proofs.lemmas.List.{map-append, take_more, length-take}
use Rattle.tql_spec.proofs.MemberLists.{in_either}
use Rattle.tql_spec.specs.Bag.{In}
use Rattle.tql_spec.specs.Datum.{Row}
use Rattle.tql_spec.specs.Definition.{Version}
use Rattle.tql_store_index.specs.Basis.{filed}
use Rattle.tql_store_index.specs.Places.{whole}
use Rattle.tql_store_index.specs.Seating.{Seating, seat_at}
use Rattle.tql_store_index.specs.Standing.{stands}
use Rattle.tql_store_index.specs.ValueIndexes.{ValueIndex, index_at, Each, IsTurned}
use Rattle.tql_store_rows.proofs.Loans.{lent_entered, lent_more}
use Rattle.tql_store_rows.proofs.Owing.{owing_after}
use Rattle.tql_standing.proofs.RowsStanding.{all-length, cells-length, past_end, rows-length}
use Rattle.tql_store_rows.specs.Loans.{AreLent, AreMore, AreOwing, IsEntered, IsEntry, IsLoan}
use Rattle.tql_standing.specs.RowsStanding.{all_of, cells_of, rows_of}
use Rattle.tql_store_rows.specs.declared.borrowing.Loan.{Loan}

-- the first `j` rows have been entered after those of versions
pub record AreEntered (base j : ℕ) (places : List ℕ) (vs : List Version) (rows : List Row) (was loans : List Loan)
    (s t : Seating) (old new : List ValueIndex) : Type 0 where
  pub even : length t.seats ≡ length s.seats
  pub indexes : length new ≡ length old
  pub more : AreMore (length vs) places was loans
  pub standing : AreLent base loans t new (rows_of vs ++ cells_of (take j rows))

pub entered_none : (base : ℕ) (places : List ℕ) (vs : List Version) (rows : List Row) (loans : List Loan)
    (s : Seating) (indexes : List ValueIndex) → AreLent base loans s indexes (rows_of vs)
    → AreEntered base 0 places vs rows loans loans s s indexes indexes
entered_none base places vs rows loans s indexes h = record {
  even = refl;
  indexes = refl;
  more = record { more = []; is = sym (append-nil loans); listed = λ l m. absurd m; after = λ l m. absurd m };
  standing = subst (AreLent base loans s indexes) (sym (append-nil (rows_of vs))) h;
}

cells_more : (rows : List Row) (j : ℕ) (d : Row) → j < length rows
    → cells_of (take (j + 1) rows) ≡ cells_of (take j rows) ++ filed (get_or rows j d) whole ∷ []
cells_more rows j d l = ap cells_of (take_more rows j d l)
    ∙ map-append (λ row. filed row whole) (take j rows) (get_or rows j d ∷ [])

pub entered-size : (vs : List Version) (rows : List Row) (j : ℕ) → j ≤ length rows
    → length (rows_of vs ++ cells_of (take j rows)) ≡ length vs + j
entered-size vs rows j l = omega (
  arith,
  length-append (rows_of vs) (cells_of (take j rows)),
  rows-length vs,
  cells-length (take j rows),
  length-take j rows,
  l,
)

-- more loans follow more loans
more_twice : (from place : ℕ) (places : List ℕ) (a b : List Loan) (c : Loan) → from ≤ c.borrower
    → Contains places c.lender → AreMore from places a b → AreMore from places a (b ++ c ∷ [])
more_twice from place places a b c low listed h = record {
  more = h.more ++ c ∷ [];
  is = ap (λ ls. ls ++ c ∷ []) h.is ∙ append_assoc a h.more (c ∷ []);
  listed = λ l m. elim (in_either l h.more (c ∷ []) m) [
    | inl i ↦ h.listed l i
    | inr i ↦ elim i [
      | inl e ↦ subst (λ (x : Loan). Contains places x.lender) (sym e) listed
      | inr z ↦ absurd z
    ]
  ];
  after = λ l m. elim (in_either l h.more (c ∷ []) m) [
    | inl i ↦ h.after l i
    | inr i ↦ elim i [ inl e ↦ subst (λ (x : Loan). from ≤ x.borrower) (sym e) low | inr z ↦ absurd z ]
  ];
}

-- the row that the code reads
pub row_seen : (rows items : List Row) (j : ℕ) (row : Row) → items ≡ rows → row ≡ get_or items j row
    → row ≡ get_or rows j row
row_seen rows items j row e read = read ∙ ap (λ rs. get_or rs j row) e

pub on_err : {A E P : Type 0} (r : Result A E) → P → OnErr r P
on_err (Ok a) p = tt
on_err (Err e) p = p

-- one more row
pub entered_step : (base j place : ℕ) (places : List ℕ) (vs : List Version) (rows : List Row) (row : Row)
    (lender : Option ℕ) (was loans after : List Loan) (s t u : Seating) (old now new : List ValueIndex)
    → j < length rows → row ≡ get_or rows j row → place ≡ length vs + j → base ≤ length vs
    → length vs + length rows ≤ length s.seats → IfSome lender (λ p. (p < base) × Contains places p)
    → IsEntered lender place (filed row whole) loans after t u now new
    → AreEntered base j places vs rows was loans s t old now
    → AreEntered base (j + 1) places vs rows was after s u old new
entered_step base j place places vs rows row lender was loans after s t u old now new l read at low room allowed done
    h =
    elim done [
      | inl d ↦
          let may : (d.0 < base) × Contains places d.0 =
          subst (λ (o : Option ℕ). IfSome o (λ p. (p < base) × Contains places p)) d.1 allowed in
          let loan : IsLoan d.0 place (filed row whole) loans after t u now = d.3 in
          record {
            even = loan.swapped.even ∙ h.even;
            indexes = ap length d.2 ∙ h.indexes;
            more = subst (λ (ls : List Loan). AreMore (length vs) places was ls) (sym loan.is)
                (more_twice (length vs) place places was loans (record { lender = d.0; borrower = place })
                (omega (arith, at)) may.1 h.more);
            standing = subst (λ (xs : List ValueIndex). AreLent base after u xs
                (rows_of vs ++ cells_of (take (j + 1) rows))) (sym d.2)
                (subst (AreLent base after u now) (sym next)
                (lent_more base place d.0 loans after t u now (rows_of vs ++ cells_of (take j rows)) (filed row whole)
                size may.0 (omega (arith, at, low)) seated loan h.standing));
          }
      | inr d ↦
          let e : after ≡ loans = d.0 in
          let f : u ≡ t = d.1 in
          let entry : IsEntry place (filed row whole) t now new = d.2 in
          record {
            even = ap (λ (x : Seating). length x.seats) f ∙ h.even;
            indexes = entry.each.0 ∙ h.indexes;
            more = subst (λ (ls : List Loan). AreMore (length vs) places was ls) (sym e) h.more;
            standing = subst (λ (ls : List Loan). AreLent base ls u new (rows_of vs ++ cells_of (take (j + 1) rows)))
                (sym e) (subst (λ (x : Seating). AreLent base loans x new
                (rows_of vs ++ cells_of (take (j + 1) rows))) (sym f)
                (subst (AreLent base loans t new) (sym next)
                (lent_entered base place loans t now new (rows_of vs ++ cells_of (take j rows)) (filed row whole) size
                seated entry h.standing)));
          }
    ]
  where
    size : length (rows_of vs ++ cells_of (take j rows)) ≡ place
    size = entered-size vs rows j (omega (arith, l)) ∙ sym at

    seated : place < length t.seats
    seated = let e = h.even in omega (arith, e, at, room, l)

    next : rows_of vs ++ cells_of (take (j + 1) rows)
        ≡ (rows_of vs ++ cells_of (take j rows)) ++ filed row whole ∷ []
    next = ap (λ xs. rows_of vs ++ xs) (cells_more rows j row l
        ∙ ap (λ (r : Row). cells_of (take j rows) ++ filed r whole ∷ []) (sym read))
        ∙ sym (append_assoc (rows_of vs) (cells_of (take j rows)) (filed row whole ∷ []))

-- the row slot of the next position has no period
pub entered_loose : (base j place : ℕ) (places : List ℕ) (vs : List Version) (rows : List Row)
    (was loans : List Loan) (s t : Seating) (old now : List ValueIndex) → j < length rows → place ≡ length vs + j
    → base ≤ length vs → length vs + length rows ≤ length s.seats
    → AreEntered base j places vs rows was loans s t old now → (i : ℕ) → i < length now
    → stands (index_at now i).standing (seat_at t place) ≡ None
entered_loose base j place places vs rows was loans s t old now l at low room h i m =
    (h.standing.each i m).full place (let e = h.even in omega (arith, e, at, room, l)) (λ z.
    let p = h.standing.pairs.lower z.0 z.1 in let q = z.2 in omega (arith, p, q, at, low))
    ∙ past_end (all_of (index_at now i).basis (rows_of vs ++ cells_of (take j rows))) place
    (let n = all-length (index_at now i).basis (rows_of vs ++ cells_of (take j rows)) in
    let e = entered-size vs rows j (omega (arith, l)) in omega (arith, n, e, at))

pub entered_wide : (base j : ℕ) (places : List ℕ) (vs : List Version) (rows : List Row)
    (was loans : List Loan) (s t : Seating) (old now : List ValueIndex)
    → AreEntered base j places vs rows was loans s t old now → (i : ℕ) → i < length now
    → length t.seats ≤ length (index_at now i).standing
entered_wide base j places vs rows was loans s t old now h i l = (h.standing.each i l).wide

-- the next row could not be entered
pub entered_not : (base j place to n : ℕ) (places : List ℕ) (vs : List Version) (rows : List Row)
    (was loans after : List Loan) (s t u : Seating) (old now new : List ValueIndex) → j < length rows
    → place ≡ length vs + j → base ≤ length vs → to ≡ length vs + length rows → to ≤ length s.seats
    → n ≡ length was → ((l : Loan) → In l was → l.borrower < length vs)
    → (after ≡ loans) × ((u ≡ t) × Each (IsTurned place (place + 1) t) now new)
    → AreEntered base j places vs rows was loans s t old now
    → AreOwing base (length vs) to (take n after) (drop n after) u new (rows_of vs)
entered_not base j place to n places vs rows was loans after s t u old now new l at low end room count near d h =
    subst (λ (ls : List Loan). AreOwing base (length vs) to (take n ls) (drop n ls) u new (rows_of vs)) (sym d.0)
    (subst (λ (x : Seating). AreOwing base (length vs) to (take n loans) (drop n loans) x new (rows_of vs)) (sym d.1.0)
    (owing_after base (length vs) place to n places was loans t now new (rows_of vs) (cells_of (take j rows)) count
    (rows-length vs) low (entered-size vs rows j (omega (arith, l)) ∙ sym at) (omega (arith, at, l, end))
    (λ i m. let e = h.even in omega (arith, e, room))
    (d.1.1.0, λ i m. wider (d.1.1.1 i m)) near h.more h.standing))
  where
    wider : {a b : ValueIndex} → IsTurned place (place + 1) t a b → IsTurned place to t a b
    wider x = record {
      basis = x.basis;
      differs = record {
        even = x.differs.even;
        others = λ k m o. elim o [
          | inl p ↦ x.differs.others k m (inl p)
          | inr p ↦ x.differs.others k m (inr (omega (arith, p, at, l, end)))
        ];
        beyond = x.differs.beyond;
      };
    }
