-- What a host is told of a text and of a cell.
use Rattle.std.specs.Prelude.{ℕ, List, [], length, ℤ, pos, slice_index_or}
use Rattle.tql_spec.specs.Datum.{Datum, Row, Null, Int, Text, Day, Moment, Kind, Ints, Texts, Days, Moments}
use Rattle.tql_host_cells.specs.declared.requests.Told.{Told}

-- nothing
abbrev pub nothing : Told
nothing = record { kind = 0; code = 0; number = pos 0; length = 0 }

-- a text of this length
abbrev pub told_text : List ℕ → Told
told_text text = record { kind = 1; code = 0; number = pos 0; length = length text }

-- the number of a kind
abbrev pub number_of_kind : Kind → ℕ
number_of_kind Ints = 1
number_of_kind Texts = 2
number_of_kind Days = 3
number_of_kind Moments = 4

-- the number of the kind of a value, 0 for NULL
abbrev pub kind_number : Datum → ℕ
kind_number Null = 0
kind_number (Int n) = number_of_kind Ints
kind_number (Text t) = number_of_kind Texts
kind_number (Day d) = number_of_kind Days
kind_number (Moment m) = number_of_kind Moments

-- the number that a value is; 0 for a text and for NULL
abbrev pub number_in : Datum → ℤ
number_in Null = pos 0
number_in (Int n) = n
number_in (Text t) = pos 0
number_in (Day d) = d
number_in (Moment m) = m

-- the bytes of a text; none for any other value
abbrev pub text_in : Datum → List ℕ
text_in Null = []
text_in (Int n) = []
text_in (Text t) = t
text_in (Day d) = []
text_in (Moment m) = []

-- a cell
abbrev pub told_cell : Datum → Told
told_cell d = record { kind = kind_number d; code = 0; number = number_in d; length = length (text_in d) }

-- the value of a row in a column; NULL outside of the row
abbrev pub cell : Row → ℕ → Datum
cell row column = slice_index_or row column Null
