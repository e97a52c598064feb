-- Texts that are copied into the memory of a host.
use Rattle.std.specs.Prelude.{ℕ, ◌+◌, ◌-◌, ◌^◌, min, List, ◌++◌, length, take, drop, ℤ, pos}

-- the room after it took as much of a text, from a byte on, as it has place for
abbrev pub copied : (text : List ℕ) (start : ℕ) (room : List ℕ) → List ℕ
copied text start room = take (length room) (drop start text) ++ drop (length text - start) room

-- the room with bytes in the place of those from `at` on
abbrev pub over : (bytes : List ℕ) (at : ℕ) (room : List ℕ) → List ℕ
over bytes at room = take at room ++ (bytes ++ drop (at + length bytes) room)

-- a count as a signed number, at most the greatest one
abbrev pub signed : ℕ → ℤ
signed n = pos (min n (2 ^ 63 - 1))

-- a count in 32 bits, at most the greatest one
abbrev pub narrow : ℕ → ℕ
narrow n = min n (2 ^ 32 - 1)
