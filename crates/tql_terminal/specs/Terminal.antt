-- The text of a table at a terminal.
use Rattle.std.specs.Prelude.{◌≡◌, ◌⊎◌, ℕ, ◌+◌, max, Bool, false, List, [], ◌∷◌, ◌++◌, length, if◌then◌else◌}
use Rattle.std.specs.Prelude.{map, nat_lt, codes, decimal}
use Rattle.std.specs.List.{fold, sum_by}
use Rattle.tql_spec.specs.Answer.{Answer, Replied, Accepted}
use Rattle.tql_spec.specs.Datum.{Datum, Text, Row}
use Rattle.tql_spec.specs.Definition.{Name}
use Rattle.tql_spec.specs.Machine.{Done, Table, Refused}
use Rattle.tql_spec.specs.Text.{answer_text}
use Rattle.tql_result_box.specs.Box.{box_layouts, box_text, count_line, filled, shown, text_width}
use Rattle.tql_result_box.specs.declared.layout.Layout.{Layout}
use Rattle.tql_run.specs.Texts.{Texts}
use Rattle.tql_terminal.specs.Dashes.{dashed_rows}

-- ---- boxes

-- the columns that a box takes, without its left border
abbrev pub column_room : Layout → ℕ
column_room l = l.width + 3

-- whether a box is at most as wide as a terminal
abbrev pub has_room : ℕ → List Layout → Bool
has_room width layouts = nat_lt (sum_by column_room layouts) width

-- ---- records

-- a column of a record: its name with blanks up to a width, and its value
abbrev pub field : ℕ → Name → Datum → List ℕ
field width name d = filled width false (Text name) ++ (codes "  " ++ (shown d ++ codes "\n"))

-- the first name; an empty one if there is none
abbrev pub first_name : List Name → Name
first_name [] = []
first_name (h ∷ hs) = h

-- the columns of a record; one without a heading has an empty name
abbrev pub fields : ℕ → List Name → Row → List ℕ
fields width names [] = []
fields width [] (d ∷ ds) = field width [] d ++ fields width [] ds
fields width (h ∷ hs) (d ∷ ds) = field width h d ++ fields width hs ds

-- the line above a record
abbrev pub record_line : ℕ → List ℕ
record_line n = codes "-- row " ++ (decimal n ++ codes "\n")

abbrev pub record_text : ℕ → ℕ → List Name → Row → List ℕ
record_text n width names r = record_line n ++ fields width names r

-- records with numbers from n + 1 on
abbrev pub records_after : ℕ → ℕ → List Name → List Row → List ℕ
records_after n width names [] = []
records_after n width names (r ∷ rows) = record_text (n + 1) width names r ++ records_after (n + 1) width names rows

-- the width of the widest name
abbrev pub names_width : List Name → ℕ
names_width names = fold max 0 (map text_width names)

-- a table as records, with the number of its rows
abbrev pub records_text : List Name → List Row → List ℕ
records_text names rows = records_after 0 (names_width names) names rows ++ count_line (length rows)

-- ---- tables

-- a table that has these column layouts: in a box, or as records if a box is too wide
abbrev pub fitting : ℕ → List Layout → List Name → List Row → List ℕ
fitting width layouts headings rows =
    if has_room width layouts then box_text layouts headings rows else records_text headings rows

-- a table at a terminal of a width, with its columns laid out by its values, or with no layout at all
abbrev pub IsShown : ℕ → List Name → List Row → List ℕ → Type 0
IsShown width headings rows text =
    (text ≡ fitting width (box_layouts headings (dashed_rows rows)) headings (dashed_rows rows))
    ⊎ (text ≡ box_text [] headings (dashed_rows rows))

-- an answer at a terminal of a width: the text of a refusal is empty
abbrev pub IsShownAnswer : ℕ → Answer → List ℕ → Type 0
IsShownAnswer width (Replied (Table headings rows)) text = IsShown width headings rows text
IsShownAnswer width (Replied (Refused e)) text = text ≡ []
IsShownAnswer width (Replied (Done v n)) text = text ≡ answer_text (Replied (Done v n))
IsShownAnswer width Accepted text = text ≡ answer_text Accepted

-- the texts of a form, whose width may change between answers
abbrev pub terminal_texts : Texts
terminal_texts earlier number line answer text = (width : ℕ) × IsShownAnswer width answer text
