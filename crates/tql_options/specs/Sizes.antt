-- Sizes in bytes.
use Rattle.std.specs.Prelude.{◌-◌, ◌*◌, ◌/◌, ◌^◌, ◌==◌, ◌||◌, ℕ, if◌then◌else◌, nat_lt, List, length, take, get_or}
use Rattle.std.specs.Prelude.{Option, Some, None}
use Rattle.std.specs.List.{list_all}
use Rattle.tql_spec.specs.Calendar.{is_digit, number_from}

-- a number if it fits into 64 bits
abbrev pub within_64_bits : ℕ → Option ℕ
within_64_bits n = if nat_lt n (2 ^ 64) then Some n else None

-- a number with more digits appended, if they all are digits and the result fits into 64 bits
abbrev pub number_behind : ℕ → List ℕ → Option ℕ
number_behind n ds = if list_all is_digit ds then within_64_bits (number_from n ds) else None

-- the number that digits spell; none if there is no digit
abbrev pub number_in : List ℕ → Option ℕ
number_in ds = if length ds == 0 then None else number_behind 0 ds

-- the number of bytes in a unit: K, M or G, in either case
abbrev pub unit_of : ℕ → Option ℕ
unit_of letter = if letter == 75 || letter == 107 then Some (2 ^ 10)
    else (if letter == 77 || letter == 109 then Some (2 ^ 20)
    else (if letter == 71 || letter == 103 then Some (2 ^ 30) else None))

-- the number of bytes in a number of units, if it fits into 64 bits
abbrev pub units : Option ℕ → ℕ → Option ℕ
units None unit = None
units (Some n) unit = within_64_bits (n * unit)

-- the number of bytes of a word: in the unit with which it ends, if it has one, and otherwise in bytes
abbrev pub sized : Option ℕ → List ℕ → List ℕ → Option ℕ
sized None rest word = number_in word
sized (Some unit) rest word = units (number_in rest) unit

-- the number of bytes that a word gives: digits, or digits and a unit; none if it has another form or does not fit into
-- 64 bits
abbrev pub bytes_told : List ℕ → Option ℕ
bytes_told word = if length word == 0 then None
    else sized (unit_of (get_or word (length word - 1) 0)) (take (length word - 1) word) word

-- the bytes of a limit that are kept back: a quarter of it; none if it is below 2 ^ 20, or if there is no limit
abbrev pub kept_back : ℕ → ℕ
kept_back most = if nat_lt most (2 ^ 20) || most == 2 ^ 64 - 1 then 0 else most / 4
