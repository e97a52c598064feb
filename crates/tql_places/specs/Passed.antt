-- Values that a host passes as bytes.
use Rattle.std.specs.Prelude.{◌≡◌, ℕ, zero, suc, ◌&&◌, ◌==◌, nat_lt, nat_le, int_le, neg_ℤ, ℤ, pos, Bool, if◌then◌else◌}
use Rattle.std.specs.Prelude.{List, [], ◌∷◌, length, map, take, drop, slice_index, Option, Some, None, option_map}
use Rattle.std.specs.Prelude.{option_and_then, Result, Ok, Err, Vec, All, ⊤}
use Rattle.std.specs.Int.{w64, cast_signed, from_le_bytes}
use Rattle.std.specs.Str.{is_utf8}
use Rattle.tql_spec.specs.Datum.{Datum, Null, Int, Text, Day, Moment}
use Rattle.tql_spec.specs.Calendar.{start_offset, first_moment, high}
use Rattle.tql_value.specs.Points.{IsPrintable}
use Rattle.tql_value.specs.Views.{datum_of_view}
use Rattle.tql_value.specs.declared.value.View.{View}
use Rattle.tql_places.specs.Places.{Fills}
use Rattle.tql_places.specs.declared.passed.First.{First}
use Rattle.tql_places.specs.declared.places.Unfilled.{Unfilled}
use Rattle.tql_places.specs.declared.places.Unfilled.TheVariants.{OutOfMemory, WrongNumber, NoValues}

-- a value and the bytes after it
abbrev pub Passed : Type 0
Passed = Datum × List ℕ

-- the number in the eight bytes after the first one, the lowest first
abbrev pub number_in : List ℕ → ℕ
number_in c = from_le_bytes w64 (slice_index c 1 ∷ slice_index c 2 ∷ slice_index c 3 ∷ slice_index c 4
    ∷ slice_index c 5 ∷ slice_index c 6 ∷ slice_index c 7 ∷ slice_index c 8 ∷ [])

-- whether a number is a date from 0001-01-01 to 9999-12-31
abbrev pub is_day : ℤ → Bool
is_day d = int_le (neg_ℤ (pos start_offset)) d && int_le d (pos 2_932_896)

-- whether a number is a timestamp in these years
abbrev pub is_moment : ℤ → Bool
is_moment m = int_le first_moment m && int_le m high

-- a text of this length
abbrev pub text_passed : ℕ → List ℕ → Option Passed
text_passed n rest =
    if nat_le n (length rest) && is_utf8 (take n rest) then Some (Text (take n rest), drop n rest) else None

-- a date, and a timestamp
abbrev pub day_passed : ℤ → List ℕ → Option Passed
day_passed d rest = if is_day d then Some (Day d, rest) else None

abbrev pub moment_passed : ℤ → List ℕ → Option Passed
moment_passed m rest = if is_moment m then Some (Moment m, rest) else None

-- a value of a kind with this number: 0 NULL, 1 a number, 2 a text of this length, 3 a date, 4 a timestamp
abbrev pub passed_as : (kind number : ℕ) → List ℕ → Option Passed
passed_as k n rest = if k == 0 then Some (Null, rest)
    else if k == 1 then Some (Int (cast_signed w64 n), rest)
    else if k == 2 then text_passed n rest
    else if k == 3 then day_passed (cast_signed w64 n) rest
    else if k == 4 then moment_passed (cast_signed w64 n) rest
    else None

-- the first value: a byte of its kind, eight bytes of its number, and the bytes of a text
abbrev pub first_passed : List ℕ → Option Passed
first_passed bytes =
    if nat_lt (length bytes) 9 then None else passed_as (slice_index bytes 0) (number_in bytes) (drop 9 bytes)

-- this many values, one after another; bytes after the last one are ignored
abbrev pub values_passed : ℕ → List ℕ → Option (List Datum)
values_passed zero bytes = Some []
values_passed (suc n) bytes =
    option_and_then (λ (p : Passed). option_map (λ vs. p.0 ∷ vs) (values_passed n p.1)) (first_passed bytes)

-- the first value that the code read
abbrev pub first_of : Option First → Option Passed
first_of None = None
first_of (Some f) = Some (datum_of_view f.value, f.rest.now)

-- the values are these, and have literals; or there is no memory
abbrev pub Reads : {A : Type 0} → Option (List Datum) → Result (Vec View A) Unfilled → Type 0
Reads found (Ok values) =
    (found ≡ Some (map datum_of_view values.items)) × All (λ v. IsPrintable (datum_of_view v)) values.items
Reads found (Err OutOfMemory) = ⊤
Reads found (Err WrongNumber) = ⊥
Reads found (Err NoValues) = found ≡ None

-- the text is filled with the values that were found, if they are as many as its places, and there is memory
abbrev pub FillsPassed : {A : Type 0} → List ℕ → Option (List Datum) → Result (Vec ℕ A) Unfilled → Type 0
FillsPassed text found (Err OutOfMemory) = ⊤
FillsPassed text (Some values) filled = Fills text values filled
FillsPassed text None (Err NoValues) = ⊤
FillsPassed text None _ = ⊥
