-- The text of a single statement, as a host writes it.
use Rattle.std.specs.Prelude.{ℕ, ◌-◌, ◌==◌, List, length, take, slice_index, if◌then◌else◌}
use Rattle.std.specs.List.{suffix_len}
use Rattle.std.specs.Char.{is_ascii_whitespace}

-- a text without the blanks at its end
abbrev pub without_blanks : List ℕ → List ℕ
without_blanks text = take (length text - suffix_len is_ascii_whitespace text) text

-- a text without the `;` that it may end with
abbrev pub without_last : List ℕ → List ℕ
without_last text = if slice_index text (length text - 1) == 59 then take (length text - 1) text else text

-- the text of a statement, without a `;` and blanks at its end
abbrev pub statement_text : List ℕ → List ℕ
statement_text text = without_last (without_blanks text)
