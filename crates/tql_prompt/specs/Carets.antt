-- The line of a fault, with a caret below its place.
use Rattle.std.specs.Prelude.{ℕ, zero, suc, ◌+◌, ◌-◌, ◌/◌, ◌^◌, min, Bool, false, not, ◌==◌, if◌then◌else◌, nat_le}
use Rattle.std.specs.Prelude.{nat_lt, List, [], ◌∷◌, ◌++◌, length, take, drop, map, replicate, chars, codes, decimal}
use Rattle.std.specs.Prelude.{encode_utf8_all, unwrap_or}
use Rattle.std.specs.Char.{is_control}
use Rattle.std.specs.List.{after_first, before_first, sum_by}
use Rattle.unicode_width.specs.Width.{char_width}
use Rattle.tql_prompt.specs.declared.caret.Window.{Window}

-- ---- lines of a text

abbrev pub is_line_feed : ℕ → Bool
is_line_feed b = b == 10

-- a text without its first lines
abbrev pub drop_rows : ℕ → List ℕ → List ℕ
drop_rows zero t = t
drop_rows (suc n) t = drop_rows n (after_first is_line_feed t)

-- the line at an index
abbrev pub row_of : ℕ → List ℕ → List ℕ
row_of n t = before_first is_line_feed (drop_rows n t)

-- what stands before a line: its number if the text has several, and else blanks
abbrev pub head_of : List ℕ → ℕ → List ℕ
head_of t line =
    if length (before_first is_line_feed t) == length t then codes "    "
    else codes "line " ++ (decimal line ++ codes ": ")

-- ---- characters

-- a control character is shown as a blank
abbrev pub plain : ℕ → ℕ
plain c = if is_control c then 32 else c

-- the width of a character as shown
abbrev pub columns_of : ℕ → ℕ
columns_of c = unwrap_or (char_width false (plain c)) 0

-- the width of characters as shown, at most 2^64 - 1
abbrev pub width_in : List ℕ → ℕ
width_in cs = min (sum_by columns_of cs) (2 ^ 64 - 1)

abbrev pub blanks : ℕ → List ℕ
blanks n = replicate n 32

-- ---- the part of a line that is shown

-- all of it if there is room, and otherwise the characters around a place
abbrev pub window_of : ℕ → ℕ → ℕ → Window
window_of all place room =
    if nat_le all room then record { start = 0; count = all; all = all }
    else record { start = place - room / 2; count = room - 2; all = all }

-- whether characters before the part, and after it, are left out
abbrev pub cut_before : Window → Bool
cut_before w = not (w.start == 0)

abbrev pub cut_behind : Window → Bool
cut_behind w = nat_lt w.start (w.all - w.count)

-- characters that are left out
abbrev pub dots : Bool → List ℕ
dots is_cut = if is_cut then encode_utf8_all (codes "…") else []

-- the part of a line, given its characters
abbrev pub row_shown : List ℕ → Window → List ℕ
row_shown cs w =
    dots (cut_before w)
    ++ (encode_utf8_all (map plain (take w.count (drop w.start cs))) ++ dots (cut_behind w))

-- the width of what is shown of a line before a place
abbrev pub before_place : List ℕ → Window → ℕ → ℕ
before_place cs w place =
    let columns = width_in (take (place - w.start) (drop w.start cs)) in
    if cut_before w then min (columns + 1) (2 ^ 64 - 1) else columns

-- ---- the two lines

-- a line after `head` columns, and a caret below the place
abbrev pub pointed : ℕ → List ℕ → Window → ℕ → List ℕ
pointed head cs w place =
    row_shown cs w ++ (codes "\n" ++ (blanks (min (head + before_place cs w place) (2 ^ 64 - 1)) ++ codes "^"))

abbrev pub pointed_in : ℕ → List ℕ → ℕ → ℕ → List ℕ
pointed_in head cs place width = pointed head cs (window_of (length cs) place (width - head - 1)) place

-- the line of a text at a place, with what stands before it, and the caret
abbrev pub lines_at : List ℕ → ℕ → ℕ → ℕ → List ℕ
lines_at t line column width =
    let head = head_of t line in
    head ++ pointed_in (length head) (chars (row_of (line - 1) t)) (column - 1) width
