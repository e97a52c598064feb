-- The exit status.
use Rattle.std.specs.Prelude.{◌≡◌, ◌≢◌, ◌||◌, if◌then◌else◌, ℕ, Bool, Result, MatchResult}
use Rattle.tql_run.specs.declared.runner.Summary.{Summary}
use Rattle.tql_run.specs.declared.runner.Fault.{Fault}
use Rattle.clap.specs.declared.error.kind.ErrorKind.{ErrorKind}
use Rattle.clap.specs.declared.error.kind.ErrorKind.TheVariants as kind

-- the status after a run: 0 if nothing was refused, 1 if something was, 3 if the run stopped
abbrev pub IsExitStatus : Result Summary Fault → ℕ → Type 0
IsExitStatus r status = MatchResult r
    (λ summary. (summary.refused ≡ 0 → status ≡ 0) × (summary.refused ≢ 0 → status ≡ 1))
    (λ _. status ≡ 3)

-- the status of a command line that starts no run: 0 after help or version, 3 if memory ran out, 2 if it is wrong
abbrev pub status_of_line : ErrorKind → ℕ
status_of_line kind.DisplayHelp = 0
status_of_line kind.DisplayVersion = 0
status_of_line kind.OutOfMemory = 3
status_of_line _ = 2

-- the status of `--verify` of a file that was read: 1 if it is no journal or lacks the line that was looked up
abbrev pub status_of_journal : Bool → Bool → ℕ
status_of_journal is_damaged lacks_line = if is_damaged || lacks_line then 1 else 0
