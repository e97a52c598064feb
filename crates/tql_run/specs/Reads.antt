-- The part of a script that was read so far.
use Rattle.std.specs.Prelude.{◌≡◌, ◌≤◌, ◌<◌, ◌*◌, ℕ, List, [], length, take, IsTrue, IsFalse, Result, Ok, Err, is_err}
use Rattle.tql_result.specs.Devices.{Counts}
use Rattle.tql_run.specs.Runs.{SourceChange, Gives, IsAtEnd, is_end}

-- the bytes that a pull has put into its buffer
abbrev pub taken : {E : Type 0} → Result ℕ E → List ℕ → List ℕ
taken (Ok n) buffer = take n buffer
taken (Err e) buffer = []

-- a pull into a buffer of this length gave these bytes
pub record Pulls {E : Type 0} (result : Result ℕ E) (room : ℕ) (bytes : List ℕ) (source : SourceChange) : Type 0 where
  pub given : Gives source.left_old bytes source.left_new
  pub at_end : IsTrue source.ended → IsAtEnd source.left_new
  pub counted : Counts (is_err result) source.failures_old source.failures_new
  pub told : source.ended ≡ is_end result room

-- the source gave these bytes in `pulls` pulls, none of which failed or reported the end of the input
pub record ReadsSoFar (pulls : ℕ) (script : List ℕ) (source : SourceChange) : Type 0 where
  pub given : Gives source.left_old script source.left_new
  pub steady : source.failures_new ≡ source.failures_old
  pub unmet : 0 < pulls → IsFalse source.ended
  pub grown : pulls ≤ length script
  pub short : length script ≤ pulls * 65_536
