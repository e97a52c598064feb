-- Row slots that ended versions have lent to the versions that replaced them.
use Rattle.std.specs.Prelude.{◌≡◌, ◌≢◌, ℕ, ◌+◌, ◌<◌, ◌≤◌, ◌⊎◌, Bool, List, [], ◌∷◌, ◌++◌, length, Option, Some}
use Rattle.std.specs.Prelude.{None, Vec, Contains, All, map, count_by, nat_eq, ◌<ℤ◌}
use Rattle.tql_spec.specs.Bag.{In, SameBag}
use Rattle.tql_spec.specs.Calendar.{high}
use Rattle.tql_spec.specs.Definition.{Version}
use Rattle.tql_store_index.specs.Basis.{Filed, Sought, stands_by}
use Rattle.tql_store_index.specs.Seating.{AreSwapped, Seating, seat_at}
use Rattle.tql_store_index.specs.Standing.{stands}
use Rattle.tql_store_index.specs.ValueIndexes.{Each, IsTurned, StandsAs, ValueIndex, index_at}
use Rattle.tql_spec.specs.Period.{Period}
use Rattle.tql_standing.specs.RowsStanding.{AreStanding, all_of, past_rows, rows_of}
use Rattle.tql_store_rows.specs.Wanted.{chosen_at, chosen_of}
use Rattle.tql_store_rows.specs.declared.borrowing.Loan.{Loan}
use Rattle.tql_value.specs.declared.when.When.{When}
use Rattle.tql_versions.specs.Heap.{AreInHeap}
use Rattle.tql_versions.specs.Places.{version_at}
use Rattle.tql_versions.specs.Readings.{numbered}

-- a version at a position has lent its row slot
abbrev pub Lends : List Loan → ℕ → Type 0
Lends loans k = (l : Loan) × In l loans × (l.lender ≡ k)

-- the positions of the versions that have lent their row slots
abbrev pub lending_places : List Loan → List ℕ
lending_places loans = map (λ (l : Loan). l.lender) loans

-- no two loans have a position in common
abbrev pub AreApart : List Loan → Type 0
AreApart [] = Unit {0}
AreApart (l ∷ loans) = ((o : Loan) → In o loans → (o.lender ≢ l.lender) × (o.borrower ≢ l.borrower)) × AreApart loans

-- the lenders are below the base, the borrowers from there on, among so many positions
pub record ArePaired (base count : ℕ) (loans : List Loan) : Type 0 where
  pub lower : (l : Loan) → In l loans → l.lender < base
  pub upper : (l : Loan) → In l loans → base ≤ l.borrower
  pub within : (l : Loan) → In l loans → l.borrower < count
  pub apart : AreApart loans

-- the row slot at each position has the period listed for the position, or none if it is that of a lender; the periods
-- listed for a lender and its borrower are the same
pub record IsLent (loans : List Loan) (what : List (Option Period)) (s : Seating) (standing : List (Option Period)) :
    Type 0 where
  pub room : length what ≤ length s.seats
  pub wide : length s.seats ≤ length standing
  pub full : (k : ℕ) → k < length s.seats → (Lends loans k → ⊥) → stands standing (seat_at s k) ≡ stands what k
  pub gone : (k : ℕ) → k < length s.seats → Lends loans k → stands standing (seat_at s k) ≡ None
  pub alike : (l : Loan) → In l loans → stands what l.borrower ≡ stands what l.lender
  pub beyond : (seat : ℕ) → length s.seats ≤ seat → stands standing seat ≡ None

-- each row is entered, at its row slot, under the span that each index definition gives, but for the lenders
pub record AreLent (base : ℕ) (loans : List Loan) (s : Seating) (indexes : List ValueIndex) (rows : List Filed) :
    Type 0 where
  pub pairs : ArePaired base (length rows) loans
  pub each : (i : ℕ) → i < length indexes
      → IsLent loans (all_of (index_at indexes i).basis rows) s (index_at indexes i).standing

-- the same of the positions before one, while the row slots of some borrowers after them are still owed to the lenders
pub record IsOwing (from to : ℕ) (kept owed : List Loan) (what : List (Option Period)) (s : Seating)
    (standing : List (Option Period)) : Type 0 where
  pub room : to ≤ length s.seats
  pub wide : length s.seats ≤ length standing
  pub full : (k : ℕ) → k < from → (Lends kept k → ⊥) → (Lends owed k → ⊥)
      → stands standing (seat_at s k) ≡ stands what k
  pub gone : (k : ℕ) → k < from → Lends kept k → stands standing (seat_at s k) ≡ None
  pub alike : (l : Loan) → In l kept → stands what l.borrower ≡ stands what l.lender
  pub dues : (l : Loan) → In l owed → stands standing (seat_at s l.borrower) ≡ stands what l.lender
  pub after : (k : ℕ) → to ≤ k → k < length s.seats → stands standing (seat_at s k) ≡ None
  pub beyond : (seat : ℕ) → length s.seats ≤ seat → stands standing seat ≡ None

pub record AreOwing (base from to : ℕ) (kept owed : List Loan) (s : Seating) (indexes : List ValueIndex)
    (rows : List Filed) : Type 0 where
  pub size : length rows ≡ from
  pub based : base ≤ from
  pub rises : from ≤ to
  pub pairs : ArePaired base from kept
  pub lower : (l : Loan) → In l owed → l.lender < base
  pub upper : (l : Loan) → In l owed → from ≤ l.borrower
  pub within : (l : Loan) → In l owed → l.borrower < to
  pub apart : AreApart owed
  pub clear : (l o : Loan) → In l kept → In o owed → l.lender ≢ o.lender
  pub each : (i : ℕ) → i < length indexes
      → IsOwing from to kept owed (all_of (index_at indexes i).basis rows) s (index_at indexes i).standing

-- some loans at the end of a list have been settled
pub record IsFront (front all : List Loan) : Type 0 where
  pub rest : List Loan
  pub is : all ≡ front ++ rest

-- loans have been added: the lenders are among the listed positions, the borrowers at or after a position
pub record AreMore (from : ℕ) (places : List ℕ) (old new : List Loan) : Type 0 where
  pub more : List Loan
  pub is : new ≡ old ++ more
  pub listed : (l : Loan) → In l more → Contains places l.lender
  pub after : (l : Loan) → In l more → from ≤ l.borrower

-- a new row has been entered at a position, or has taken over the row slot of the version at the position given
pub record IsLoan (p place : ℕ) (row : Filed) (old new : List Loan) (s t : Seating) (indexes : List ValueIndex) :
    Type 0 where
  pub alike : StandsAs s p indexes row
  pub is : new ≡ old ++ record { lender = p; borrower = place } ∷ []
  pub swapped : AreSwapped p place s t

pub record IsEntry (place : ℕ) (row : Filed) (s : Seating) (old new : List ValueIndex) : Type 0 where
  pub each : Each (IsTurned place (place + 1) s) old new
  pub came : (i : ℕ) → i < length old
      → stands (index_at new i).standing (seat_at s place) ≡ stands_by (index_at old i).basis row

abbrev pub IsEntered : Option ℕ → ℕ → Filed → List Loan → List Loan → Seating → Seating → List ValueIndex
    → List ValueIndex → Type 0
IsEntered lender place row old new s t indexes after =
    ((p : ℕ) × (lender ≡ Some p) × (after ≡ indexes) × IsLoan p place row old new s t indexes)
    ⊎ ((new ≡ old) × (t ≡ s) × IsEntry place row s indexes after)

-- each lender is closed
abbrev pub AreShut : List Loan → List Version → Type 0
AreShut loans vs = (l : Loan) → In l loans → (version_at vs l.lender).end <ℤ high

-- each lender is recorded as ended, once
abbrev pub AreListed : List Loan → List ℕ → Type 0
AreListed loans ended = (l : Loan) → In l loans → count_by (λ j. nat_eq j l.lender) ended ≡ 1

-- every current row is entered, but for the lenders, and every past one; the positions of versions that the open
-- transaction added and ended are not below the base, and there are none while there are lenders; the closed versions
-- are a heap
pub record AllStand (keeps : Bool) (s : Seating) (indexes : List ValueIndex) (t : Seating) (past : List ValueIndex)
    (current : List Version) (ended : List ℕ) (closed : List Version) (base : ℕ) (dead : List ℕ)
    (loans : List Loan) : Type 0 where
  pub current_ones : AreLent base loans s indexes (rows_of current)
  pub past_ones : AreStanding t past (past_rows keeps current ended closed)
  pub behind : All (λ k. base ≤ k) dead
  pub shut : AreShut loans current
  pub listed : AreListed loans ended
  pub settled : (dead ≡ []) ⊎ (loans ≡ [])
  pub in_heap : AreInHeap closed

-- the versions chosen among those at the positions found, or among all if there are none, are all that are chosen
abbrev pub FindsAll : {A : Type 0} → When → Option Sought → List Version → Option (Vec ℕ A) → Type 0
FindsAll when s vs places = SameBag (chosen_at when s 0 vs places) (chosen_of when s (numbered 0 vs))

-- positions have been added, if there are any
abbrev pub AreAdded : {A B : Type 0} → List ℕ → Option (Vec ℕ A) → Option (Vec ℕ B) → Type 0
AreAdded more None None = Unit {0}
AreAdded more (Some old) (Some new) = new.items ≡ old.items ++ more
AreAdded more _ _ = ⊥
