use Rattle.std.proofs.Common.{◌≡◌, ◌≤◌, ◌<◌, ℕ, length, get_or}
use Rattle.std.specs.Prelude.{All}
use Rattle.tql_standing.specs.RowsStanding.{IsLess}
use Rattle.tql_versions.specs.Views.{versions_of, open_at}
use Rattle.tql_store_rows.proofs.clearing.sweep.Given as goal

abbrev pub invariant-loop-place : goal.invariant-loop-place
invariant-loop-place l = record {
  shorter : length l.versions.items ≤ length l.initial.versions.items;
  listed : (k : ℕ) → k < length l.versions.items → (j : ℕ) → j < l.place-index → get_or l.places j 0 ≡ k
      → open_at l.versions.items k;
  kept : (k : ℕ) → k < length l.versions.items → open_at l.initial.versions.items k → open_at l.versions.items k;
  less : (n : ℕ) → All (λ k. n ≤ k) l.places
      → IsLess n (versions_of l.initial.versions.items) (versions_of l.versions.items) l.initial.seats l.seats;
}
