-- Which lenders a lookup of past rows finds.
use Rattle.std.specs.Prelude.{ℕ, ◌-◌, Bool, false, ◌&&◌, ◌||◌, if◌then◌else◌, List, [], ◌∷◌, length, nat_lt, flat_map}
use Rattle.std.specs.Prelude.{Option, Some, None, Vec, is_some, slice_index_or}
use Rattle.tql_store_index.specs.Seating.{Seating, seat_at}
use Rattle.tql_store_index.specs.Standing.{stands}
use Rattle.tql_store_index.specs.ValueIndexes.{ValueIndex}
use Rattle.tql_store_rows.specs.Loans.{lending_places}
use Rattle.tql_store_rows.specs.declared.borrowing.Loan.{Loan}

-- whether some index has a period for a row slot
abbrev pub is_linked : ℕ → List ValueIndex → Bool
is_linked seat [] = false
is_linked seat (k ∷ indexes) = is_some (stands k.standing seat) || is_linked seat indexes

-- whether some index has a period for the row slot at a position
abbrev pub stands_at : Seating → List ValueIndex → ℕ → Bool
stands_at s indexes place = nat_lt place (length s.seats) && is_linked (seat_at s place) indexes

-- the position of an ended version, found at a position among the past rows, of which the first `n` are those of closed
-- versions; none if its row slot has a period
abbrev pub picked : ℕ → List ℕ → (ℕ → Bool) → ℕ → List ℕ
picked n ended linked place = if nat_lt place n then [] else (if nat_lt (place - n) (length ended) then (if linked
    (slice_index_or ended (place - n) 0) then [] else slice_index_or ended (place - n) 0 ∷ []) else [])

-- those of the past rows found; the positions of all lenders if no index was asked for the past rows
abbrev pub lenders_among : {A : Type 0} → Option (Vec ℕ A) → ℕ → List ℕ → List Loan → (ℕ → Bool) → List ℕ
lenders_among None n ended loans linked = lending_places loans
lenders_among (Some past) n ended loans linked = flat_map (picked n ended linked) past.items
