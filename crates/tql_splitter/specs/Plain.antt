-- Bytes that open, close and end nothing.
use Rattle.std.specs.Prelude.{ℕ, ◌==◌, ◌||◌, ◌&&◌, nat_lt, not, Bool, true, false, List, take}
use Rattle.std.specs.List.{prefix_len}
use Rattle.tql_spec.specs.Script.{ScanState, AfterDash}

-- whether a byte is ASCII, opens and closes nothing, and ends neither a line nor a statement
abbrev pub is_plain : ℕ → Bool
is_plain b = nat_lt b 128 && not ((b == 59) || (b == 39) || (b == 34) || (b == 45) || (b == 10))

-- the plain bytes at the front
abbrev pub plain_front : List ℕ → List ℕ
plain_front bytes = take (prefix_len is_plain bytes) bytes

-- whether no plain byte changes the state
abbrev pub is_steady : ScanState → Bool
is_steady AfterDash = false
is_steady _ = true
