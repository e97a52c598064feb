-- The limits. They are this project's choice, not the standard's.
use Rattle.std.specs.Prelude.{ℕ}

-- the most columns of a table
abbrev pub most_columns : ℕ
most_columns = 64

-- the most table references of a FROM
abbrev pub most_references : ℕ
most_references = 8

-- the most parentheses that are open at once
abbrev pub most_open : ℕ
most_open = 64

-- the most tables that exist at once
abbrev pub most_tables : ℕ
most_tables = 1000

-- the most readers that are open at once
abbrev pub most_readers : ℕ
most_readers = 256

-- the most bytes of a statement's text
abbrev pub longest_text : ℕ
longest_text = 1_048_576
