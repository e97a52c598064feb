-- Where the rows of a table are entered in each of its indexes.
use Rattle.std.specs.Prelude.{◌≡◌, ℕ, ◌+◌, ◌<◌, ◌≤◌, ◌⊎◌, false, if◌then◌else◌, List, [], ◌++◌, map, length}
use Rattle.std.specs.Prelude.{Bool, Option, Some, None, filter, ℤ, ◌<ℤ◌}
use Rattle.std.specs.Prelude.{Contains}
use Rattle.tql_spec.specs.Bag.{SameBag}
use Rattle.tql_spec.specs.Datum.{Row}
use Rattle.tql_spec.specs.Definition.{Version}
use Rattle.tql_spec.specs.Period.{Period}
use Rattle.tql_store_index.specs.Basis.{Basis, Filed, filed, stands_by}
use Rattle.tql_store_index.specs.Places.{whole}
use Rattle.tql_store_index.specs.Seating.{Seating, seat_at}
use Rattle.tql_store_index.specs.Standing.{stands}
use Rattle.tql_store_index.specs.ValueIndexes.{ValueIndex, index_at, IsLinked, IsTurned}
use Rattle.tql_versions.specs.Changes.{ended, is_current}
use Rattle.tql_versions.specs.Places.{version_at}

-- the rows of versions, each with the period of all moments attached
abbrev pub rows_of : List Version → List Filed
rows_of vs = map (λ (v : Version). filed v.row.cells whole) vs

-- new rows, each with the period of all moments attached
abbrev pub cells_of : List Row → List Filed
cells_of rows = map (λ row. filed row whole) rows

-- the row of a version, with its period attached
abbrev pub past_of : Version → Filed
past_of v = filed v.row.cells (record { start = v.row.start; end = v.end })

abbrev pub pasts_of : List Version → List Filed
pasts_of vs = map past_of vs

-- a version with its end set to a moment, if one is given
abbrev pub ending : Option ℤ → Version → Version
ending None v = v
ending (Some m) v = ended m v

-- the rows of the versions at these positions, once they have ended
abbrev pub pasts_at : Option ℤ → List ℕ → List Version → List Filed
pasts_at until is vs = map (λ i. past_of (ending until (version_at vs i))) is

-- a version is non-empty
abbrev pub Rises : Version → Type 0
Rises v = v.row.start <ℤ v.end

-- the index span of a row with the period of all moments attached
abbrev pub stands_ever : Basis → Row → Option Period
stands_ever basis row = stands_by basis (filed row whole)

-- the index spans of rows, by position
abbrev pub all_of : Basis → List Filed → List (Option Period)
all_of basis rows = map (stands_by basis) rows

-- the index span of a version that passes a test; none if it does not
abbrev pub held_in : (Version → Bool) → Basis → Version → Option Period
held_in test basis v = if test v then stands_ever basis v.row.cells else None

-- the index spans of versions, none for versions that fail the test
abbrev pub held_of : (Version → Bool) → Basis → List Version → List (Option Period)
held_of test basis vs = map (held_in test basis) vs

-- each row is entered, at its row slot, under the span that each index definition gives
pub record AreStanding (s : Seating) (indexes : List ValueIndex) (rows : List Filed) : Type 0 where
  pub each : (i : ℕ) → i < length indexes
      → IsLinked (all_of (index_at indexes i).basis rows) s (index_at indexes i).standing

-- `n` rows are entered
pub record IsFilled (n : ℕ) (s : Seating) (indexes : List ValueIndex) : Type 0 where
  pub rows : List Filed
  pub size : length rows ≡ n
  pub standing : AreStanding s indexes rows

-- the rows of closed versions, then, if the history is kept, of versions ended by the open transaction; each row has
-- the period of its version attached
abbrev pub past_rows : Bool → List Version → List ℕ → List Version → List Filed
past_rows keeps current ended closed = pasts_of closed ++ (if keeps then pasts_at None ended current else [])

-- only the versions that pass a test are entered
pub record AreHeld (test : Version → Bool) (s : Seating) (indexes : List ValueIndex) (vs : List Version) : Type 0 where
  pub each : (i : ℕ) → i < length indexes
      → IsLinked (held_of test (index_at indexes i).basis vs) s (index_at indexes i).standing

-- the first `j` of the rows have been entered, the first at position `from`
pub record IsComing (from j : ℕ) (rows : List Filed) (s : Seating) (old new : ValueIndex) : Type 0 where
  pub turned : IsTurned from (from + j) s old new
  pub came : (i : ℕ) → i < j → stands new.standing (seat_at s (from + i)) ≡ stands (all_of old.basis rows) i

-- there is a closed version at a position
abbrev pub IsShutAt : List Version → ℕ → Type 0
IsShutAt vs k = (k < length vs) × (is_current (version_at vs k) ≡ false)

-- the rows of closed versions at the listed positions have been removed from the index; all other slots are unchanged
pub record IsShut (vs : List Version) (s : Seating) (places : List ℕ) (old new : ValueIndex) : Type 0 where
  pub basis : new.basis ≡ old.basis
  pub even : length new.standing ≡ length old.standing
  pub beyond : (seat : ℕ) → length s.seats ≤ seat → stands new.standing seat ≡ stands old.standing seat
  pub kept : (k : ℕ) → k < length s.seats
      → (stands new.standing (seat_at s k) ≡ stands old.standing (seat_at s k))
      ⊎ (Contains places k × (IsShutAt vs k × (stands new.standing (seat_at s k) ≡ None)))
  pub gone : (k : ℕ) → Contains places k → IsShutAt vs k → stands new.standing (seat_at s k) ≡ None

-- a version is at some position from a number on
pub record StandsFrom (n : ℕ) (vs : List Version) (v : Version) : Type 0 where
  pub place : ℕ
  pub from : n ≤ place
  pub within : place < length vs
  pub here : v ≡ version_at vs place

-- no closed version at or after a position passes a test
abbrev pub FailsShut : ℕ → (Version → Bool) → List Version → Type 0
FailsShut n test vs = (k : ℕ) → n ≤ k → IsShutAt vs k → test (version_at vs k) ≡ false

-- some closed versions at or after position `n` have been removed, and others from there on were moved into their
-- positions with their row slots. For a test that no closed one passes, all passing versions are still there, with
-- their index spans.
pub record IsLess (n : ℕ) (old new : List Version) (s t : Seating) : Type 0 where
  pub shorter : length new ≤ length old
  pub based : n ≤ length old → n ≤ length new
  pub front : (k : ℕ) → k < n → version_at new k ≡ version_at old k
  pub back : (k : ℕ) → n ≤ k → k < length new → StandsFrom n old (version_at new k)
  pub bag : (test : Version → Bool) → FailsShut n test old → SameBag (filter test new) (filter test old)
  pub linked : (test : Version → Bool) → FailsShut n test old → (basis : Basis) (standing : List (Option Period))
      → IsLinked (held_of test basis old) s standing → IsLinked (held_of test basis new) t standing
