-- The text of a table in a box: aligned columns with a border.
use Rattle.std.specs.Prelude.{ℕ, ◌+◌, ◌-◌, ◌/◌, ◌%◌, ◌^◌, min, max, Bool, true, false, ◌==◌, List, [], ◌∷◌, ◌++◌, map}
use Rattle.std.specs.Prelude.{drop, length, replicate, codes, chars, decimal, encode_utf8_all, Option, Some, None}
use Rattle.std.specs.Prelude.{unwrap_or, if◌then◌else◌}
use Rattle.std.specs.Char.{encode_utf8, is_control}
use Rattle.std.specs.Fmt.{signed_decimal}
use Rattle.std.specs.List.{concat, flat_map, fold, sum_by}
use Rattle.unicode_width.specs.Width.{char_width}
use Rattle.tql_spec.specs.Datum.{Datum, Null, Int, Text, Day, Moment, Row}
use Rattle.tql_spec.specs.Definition.{Name}
use Rattle.tql_spec.specs.Text.{cell_text, line}
use Rattle.tql_result_laws.specs.Json.{hex_digit}
use Rattle.tql_result_box.specs.declared.layout.Layout.{Layout}

-- ---- values

-- a control character by its number, for example \u{1b}
abbrev pub control_escape : ℕ → List ℕ
control_escape c = codes "\\u{" ++ hex_digit (c / 16) ∷ hex_digit (c % 16) ∷ 125 ∷ []

-- a character as shown
abbrev pub shown_character : ℕ → List ℕ
shown_character c =
    if c == 10 then codes "\\n"
    else (if c == 13 then codes "\\r"
    else (if c == 9 then codes "\\t"
    else (if is_control c then control_escape c else encode_utf8 c)))

-- a text as shown
abbrev pub visible : List ℕ → List ℕ
visible t = flat_map shown_character (chars t)

-- a value as shown
abbrev pub shown : Datum → List ℕ
shown Null = codes "NULL"
shown (Int n) = signed_decimal n
shown (Text t) = visible t
shown (Day d) = cell_text (Day d)
shown (Moment m) = cell_text (Moment m)

-- ---- widths, in columns of a terminal

-- the width of a character as shown
abbrev pub character_width : ℕ → ℕ
character_width c = if is_control c then length (shown_character c) else unwrap_or (char_width false c) 0

-- the width of a text as shown, at most 2^64 - 1
abbrev pub text_width : List ℕ → ℕ
text_width t = min (sum_by character_width (chars t)) (2 ^ 64 - 1)

-- the width of a value as shown
abbrev pub value_width : Datum → ℕ
value_width (Text t) = text_width t
value_width d = length (shown d)

-- ---- layouts

-- the first known value in a list of options
abbrev pub first_known : List (Option Bool) → Option Bool
first_known [] = None
first_known (None ∷ os) = first_known os
first_known (Some b ∷ os) = Some b

-- whether a value is a number; None for NULL
abbrev pub is_number : Datum → Option Bool
is_number Null = None
is_number (Int n) = Some true
is_number d = Some false

-- the layout of a column with this heading and these values: as wide as the widest of them, and right-aligned if the
-- first value that is not NULL is a number
abbrev pub column_layout : Name → List Datum → Layout
column_layout h ds = record {
  width = fold max (text_width h) (map value_width ds);
  number = first_known (map is_number ds);
}

-- the first value of a row, if any, as a list
abbrev pub first_value : Row → List Datum
first_value [] = []
first_value (d ∷ ds) = d ∷ []

-- the layouts of the columns of a table
abbrev pub box_layouts : List Name → List Row → List Layout
box_layouts [] rows = []
box_layouts (h ∷ hs) rows = column_layout h (flat_map first_value rows) ∷ box_layouts hs (map (drop 1) rows)

-- ---- lines

-- the layout for a column without one: width zero
abbrev pub unknown : Layout
unknown = record { width = 0; number = None }

-- applies f to each element and the layout of its column
abbrev pub laid : {A B : Type 0} → (Layout → A → B) → List Layout → List A → List B
laid f layouts [] = []
laid f [] (x ∷ xs) = f unknown x ∷ laid f [] xs
laid f (l ∷ layouts) (x ∷ xs) = f l x ∷ laid f layouts xs

-- a text repeated n times
abbrev pub times : ℕ → List ℕ → List ℕ
times n t = concat (replicate n t)

-- a value padded to the width of its column: blanks precede a right-aligned value and follow any other
abbrev pub filled : ℕ → Bool → Datum → List ℕ
filled width is_right d =
    let blanks = times (width - value_width d) (codes " ") in
    if is_right then blanks ++ shown d else shown d ++ blanks

-- a value in its column, after the border
abbrev pub boxed : ℕ → Bool → Datum → List ℕ
boxed width is_right d = encode_utf8_all (codes "│ ") ++ filled width is_right d ++ codes " "

-- the line of boxed values
abbrev pub boxed_line : List (List ℕ) → List ℕ
boxed_line texts = concat texts ++ encode_utf8_all (codes "│\n")

-- a heading and a value in their columns
abbrev pub heading_box : Layout → Name → List ℕ
heading_box l h = boxed l.width false (Text h)

abbrev pub value_box : Layout → Datum → List ℕ
value_box l d = boxed l.width (unwrap_or l.number false) d

abbrev pub heading_line : List Layout → List Name → List ℕ
heading_line layouts headings = boxed_line (laid heading_box layouts headings)

abbrev pub row_line : List Layout → Row → List ℕ
row_line layouts r = boxed_line (laid value_box layouts r)

-- the border above or below a column
abbrev pub bar : ℕ → List ℕ
bar width = times (width + 2) (encode_utf8_all (codes "─"))

-- texts, with a separator between adjacent ones
abbrev pub joined : List ℕ → List (List ℕ) → List ℕ
joined between [] = []
joined between (t ∷ ts) = t ++ flat_map (λ u. between ++ u) ts

-- a line of the border, given its left end, its crosses and its right end
abbrev pub rule_line : List ℕ → List ℕ → List ℕ → List Layout → List Name → List ℕ
rule_line left cross right layouts headings =
    left ++ (joined cross (laid (λ l h. bar l.width) layouts headings) ++ line right)

-- the rest of the line after the number of rows
abbrev pub rows_end : ℕ → List ℕ
rows_end n = line (if n == 1 then codes " row)" else codes " rows)")

-- the line with the number of rows
abbrev pub count_line : ℕ → List ℕ
count_line n = 40 ∷ decimal n ++ rows_end n

-- the lines above, between and below the headings and the rows
abbrev pub top_line : List Layout → List Name → List ℕ
top_line =
    rule_line (encode_utf8_all (codes "┌")) (encode_utf8_all (codes "┬")) (encode_utf8_all (codes "┐"))

abbrev pub middle_line : List Layout → List Name → List ℕ
middle_line =
    rule_line (encode_utf8_all (codes "├")) (encode_utf8_all (codes "┼")) (encode_utf8_all (codes "┤"))

abbrev pub bottom_line : List Layout → List Name → List ℕ
bottom_line =
    rule_line (encode_utf8_all (codes "└")) (encode_utf8_all (codes "┴")) (encode_utf8_all (codes "┘"))

-- the line of the headings, between two lines of the border
abbrev pub head_lines : List Layout → List Name → List ℕ
head_lines layouts headings =
    top_line layouts headings ++ (heading_line layouts headings ++ middle_line layouts headings)

-- the bytes of a table with these column layouts
abbrev pub box_text : List Layout → List Name → List Row → List ℕ
box_text layouts headings rows =
    head_lines layouts headings
    ++ (flat_map (row_line layouts) rows ++ (bottom_line layouts headings ++ count_line (length rows)))
