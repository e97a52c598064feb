use Rattle.std.proofs.Common.{◌≡◌, ◌≢◌, ◌≤◌, ◌<◌, ℕ, length, get_or}
use Rattle.tql_standing.specs.RowsStanding.{IsLess}
use Rattle.tql_versions.specs.declared.kept.Kept.{Kept}
use Rattle.tql_versions.specs.Views.{versions_of}
use Rattle.tql_store_rows.proofs.clearing.clear_place.Given as goal

abbrev pub invariant-loop-versions : goal.invariant-loop-versions
invariant-loop-versions l = record {
  shorter : length l.versions.items ≤ length l.fn.versions.items;
  others : (k : ℕ) → k ≢ l.place → k < length l.versions.items → (d : Kept)
      → get_or l.versions.items k d ≡ get_or l.fn.versions.items k d;
  less : (n : ℕ) → n ≤ l.place
      → IsLess n (versions_of l.fn.versions.items) (versions_of l.versions.items) l.fn.seats l.seats;
}

abbrev pub decreases-loop-versions : goal.decreases-loop-versions
decreases-loop-versions l = length l.versions.items
