-- The cells of a column in a block of bytes.
use Rattle.std.specs.Prelude.{ℕ, ◌+◌, ◌^◌, List, [], ◌∷◌, ◌++◌, length, map, Option, Some, None, nat_lt, if◌then◌else◌}
use Rattle.std.specs.List.{flat_map}
use Rattle.std.specs.Int.{w64, to_le_bytes, cast_unsigned}
use Rattle.tql_spec.specs.Datum.{Datum, Row, Null, Int, Text, Day, Moment}
use Rattle.tql_host_cells.specs.Cells.{cell, kind_number, text_in}

-- the cells of a column
abbrev pub column_of : ℕ → List Row → List Datum
column_of column rows = map (λ r. cell r column) rows

-- the number of bytes of a cell's text
abbrev pub text_length : Datum → ℕ
text_length c = length (text_in c)

-- the number of a cell in 64 bits; for a text, where its bytes end among those of all texts
abbrev pub number_at : (end : ℕ) → Datum → ℕ
number_at end Null = 0
number_at end (Int n) = cast_unsigned w64 n
number_at end (Text t) = end
number_at end (Day d) = cast_unsigned w64 d
number_at end (Moment m) = cast_unsigned w64 m

-- the numbers of cells, 8 bytes each, the lowest byte first; the texts before them end at `end`
abbrev pub numbers : (end : ℕ) → List Datum → List ℕ
numbers end [] = []
numbers end (c ∷ cs) =
    to_le_bytes w64 (number_at (end + text_length c) c) ++ numbers (end + text_length c) cs

-- the kinds of cells, a byte each
abbrev pub kinds : List Datum → List ℕ
kinds cells = map kind_number cells

-- the bytes of the texts
abbrev pub texts : List Datum → List ℕ
texts cells = flat_map text_in cells

-- numbers, kinds and texts
abbrev pub block : List Datum → List ℕ
block cells = numbers 0 cells ++ (kinds cells ++ texts cells)

-- a count, if it is below 2^64
abbrev pub below_most : ℕ → Option ℕ
below_most n = if nat_lt n (2 ^ 64) then Some n else None
