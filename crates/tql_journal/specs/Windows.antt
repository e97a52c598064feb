-- A window on a file.
use Rattle.std.specs.Prelude.{◌≡◌, ◌≤◌, ◌+◌, ◌^◌, ℕ, Bool, List, ◌++◌, length, Option, IsTrue, IsFalse}
use Rattle.std.specs.Io.KnownBytes.{Consumes, IsAtEnd}

-- the bytes that were read and not passed yet, and the number of bytes that were read
pub record Seen : Type 0 where
  pub bytes : List ℕ
  pub total : ℕ

-- More bytes were read: all to the end of the file, or some so that the window is full.
pub record Fills (before now : Option (List ℕ)) (is_ended : Bool) (old new : Seen) : Type 0 where
  pub more : List ℕ
  pub given : Consumes before now more
  pub bytes : new.bytes ≡ old.bytes ++ more
  pub total : new.total ≡ old.total + length more
  pub limit : new.total ≤ 2 ^ 63 + 1_114_182
  pub ended : IsTrue is_ended → IsAtEnd now
  pub full : IsFalse is_ended → length new.bytes ≡ 1_114_182
