-- Lines of a journal on the command line.
use Rattle.std.specs.Prelude.{◌||◌, ◌&&◌, ◌==◌, ℕ, Bool, nat_le, length}
use Rattle.std.specs.List.{list_all}
use Rattle.clap.specs.Words.{Text}

-- a hexadecimal digit: 0 to 9, a to f
abbrev pub is_hex_digit : ℕ → Bool
is_hex_digit byte = (nat_le 48 byte && nat_le byte 57) || (nat_le 97 byte && nat_le byte 102)

-- the digits of a SHA-256
abbrev pub is_seal : Text → Bool
is_seal word = (length word == 64) && list_all is_hex_digit word
