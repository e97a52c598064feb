use Rattle.std.proofs.Common.{◌≡◌, ℕ, ◌-◌, ◌<◌, length}
use Rattle.std.specs.Prelude.{slice_get, Some, true}
use Rattle.tql_spec.specs.Datum.{Row}
use Rattle.tql_exec_join.specs.Digest.{spread_digest}
use Rattle.tql_exec_numbered.specs.Runs.{numbers_in, AreRuns}
use Rattle.tql_exec_numbered.specs.Slots.{first_place, is_kept}
use Rattle.tql_exec_numbered.proofs.numbered.file_all.Given as goal

-- invariant: the rows so far are filed, and the runs are sorted
abbrev pub invariant-loop-digest : goal.invariant-loop-digest
invariant-loop-digest l = AreRuns l.rows (numbers_in l.runs.items)
    × ((n : ℕ) (row : Row) → n < l.number → slice_get l.rows n ≡ Some row
    → is_kept l.slots.items (numbers_in l.runs.items) (first_place (length l.slots.items) (spread_digest row)) n ≡ true)

abbrev pub decreases-loop-digest : goal.decreases-loop-digest
decreases-loop-digest l = length l.rows - l.number
