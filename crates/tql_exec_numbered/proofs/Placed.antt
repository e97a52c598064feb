-- One number in an empty slot, or in a run.
use Rattle.std.specs.Prelude.{◌≡◌, ℕ, suc, true, List, Some}
use Rattle.std.proofs.Common.{set, ⊎_elim}
use Rattle.std.proofs.lemmas.Bool.{or_cases, or_left, or_right}
use Rattle.tql_exec_numbered.specs.Runs.{is_in_runs}
use Rattle.tql_exec_numbered.specs.Slots.{free_from, is_kept, is_reached}
use Rattle.tql_exec_numbered.proofs.Slots.{free_is_empty, now_reached, still_reached}

pub kept_more : (os ns : List ℕ) (before after : List (List ℕ)) (at n : ℕ)
    → (is_reached 32 os at n ≡ true → is_reached 32 ns at n ≡ true)
    → (is_in_runs n before ≡ true → is_in_runs n after ≡ true)
    → is_kept os before at n ≡ true → is_kept ns after at n ≡ true
kept_more os ns before after at n slots runs e = ⊎_elim
    (λ k. or_left (is_reached 32 ns at n) (is_in_runs n after) (slots k))
    (λ k. or_right (is_reached 32 ns at n) (is_in_runs n after) (runs k))
    (or_cases (is_reached 32 os at n) (is_in_runs n before) e)

pub kept_in_slot : (slots : List ℕ) (runs : List (List ℕ)) (from p number : ℕ) → free_from 32 slots from ≡ Some p
    → is_kept (set slots p (suc number)) runs from number ≡ true
kept_in_slot slots runs from p number found =
    or_left (is_reached 32 (set slots p (suc number)) from number) (is_in_runs number runs)
    (now_reached slots 32 from p number found)

pub still_kept : (slots : List ℕ) (runs : List (List ℕ)) (from p number : ℕ) → free_from 32 slots from ≡ Some p
    → (at n : ℕ) → is_kept slots runs at n ≡ true → is_kept (set slots p (suc number)) runs at n ≡ true
still_kept slots runs from p number found at n =
    kept_more slots (set slots p (suc number)) runs runs at n
    (still_reached slots p number (free_is_empty slots 32 from p found) 32 at n) (λ e. e)

pub kept_in_run : (slots : List ℕ) (runs : List (List ℕ)) (at number : ℕ) → is_in_runs number runs ≡ true
    → is_kept slots runs at number ≡ true
kept_in_run slots runs at number e = or_right (is_reached 32 slots at number) (is_in_runs number runs) e
