-- The numbers that literals spell.
use Rattle.std.specs.Prelude.{ℕ, ◌^◌, Bool, true, false, nat_le, List, pos, neg_ℤ, Option, Some, None, if◌then◌else◌}
use Rattle.tql_spec.specs.Calendar.{number_of}
use Rattle.tql_spec.specs.Datum.{Datum, Int}
use Rattle.tql_spec.specs.Names as names
use Rattle.tql_spec.specs.Names.{Checked, Typed}

-- a number literal with or without `-` before it, bound
abbrev pub number_literal : Bool → List ℕ → Checked Typed
number_literal true ds = names.number (2 ^ 63) (λ n. neg_ℤ (pos n)) ds
number_literal false ds = names.number 9223372036854775807 pos ds

-- the value of a number literal with or without `-` before it, if it fits in 64 bits
abbrev pub signed_value : Bool → List ℕ → Option Datum
signed_value true ds = let n = number_of ds in if nat_le n (2 ^ 63) then Some (Int (neg_ℤ (pos n))) else None
signed_value false ds = let n = number_of ds in if nat_le n 9223372036854775807 then Some (Int (pos n)) else None
