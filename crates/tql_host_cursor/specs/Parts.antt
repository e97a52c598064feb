-- The parts of an answer that a host is told.
use Rattle.std.specs.Prelude.{ℕ, ◌+◌, ◌-◌, ◌^◌, ◌==◌, min, List, [], ◌++◌, map, length, take, drop, ℤ, pos, negsuc}
use Rattle.std.specs.Prelude.{Bool, true, false, Option, Some, None, string_bytes, slice_get, slice_index_or, nat_lt}
use Rattle.std.specs.Prelude.{nat_le, if◌then◌else◌, option_map}
use Rattle.tql_spec.specs.Datum.{Datum, Row, Null}
use Rattle.tql_spec.specs.Text.{number, verb_text, wording}
use Rattle.tql_detail.specs.declared.detail.Detail.{Detail}
use Rattle.tql_detail.specs.declared.place.Place.{Place}
use Rattle.tql_value.specs.Refusals.{refusal_of}
use Rattle.tql_value.specs.declared.refusal.Refusal.{Refusal}
use Rattle.tql_value.specs.declared.value.ResultTable.{ResultTable}
use Rattle.tql_result.specs.Replies.{headings_of, plain_verb, table_rows}
use Rattle.tql_result.specs.declared.reply.Reply.TheVariants.{Done, Table, Refused}
use Rattle.tql_result.specs.declared.answer.Answer.{Answer}
use Rattle.tql_result.specs.declared.answer.Answer.TheVariants.{Replied, Accepted}
use Rattle.tql_host_cells.specs.declared.requests.Told.{Told}
use Rattle.tql_host_cells.specs.declared.requests.Asked.{Asked}
use Rattle.tql_host_cells.specs.declared.requests.Asked.TheVariants as asked
use Rattle.tql_host_cells.specs.Texts.{signed, narrow, copied}
use Rattle.tql_host_cells.specs.Cells.{cell, nothing, told_text}
use Rattle.tql_host_cells.specs.Block.{block, column_of}
use Rattle.tql_host_cursor.specs.Cursors.{CursorModel}

-- ---- the answer

-- the number of rows that a statement changed, -1 if it counts none
abbrev pub changed : Option ℕ → ℤ
changed None = negsuc 0
changed (Some n) = signed n

-- an answer: 1 done, 2 a table, with its columns and rows counted, 3 refused; nothing without an answer
abbrev pub told_answer : (line : ℕ) → Option Answer → Told
told_answer line None = nothing
told_answer line (Some Accepted) = nothing
told_answer line (Some (Replied (Done v n))) = record { kind = 1; code = 0; number = changed n; length = 0 }
told_answer line (Some (Replied (Table t))) =
    record { kind = 2; code = 0; number = signed (length (headings_of t)); length = length (table_rows t) }
told_answer line (Some (Replied (Refused e))) =
    record { kind = 3; code = number (refusal_of e); number = signed line; length = 0 }

-- the answer that a statement is refused
abbrev pub refused_as : Refusal → Option Answer
refused_as e = Some (Replied (Refused e))

-- whether an answer is a refusal
abbrev pub is_refused : Option Answer → Bool
is_refused None = false
is_refused (Some Accepted) = false
is_refused (Some (Replied (Done v n))) = false
is_refused (Some (Replied (Table t))) = false
is_refused (Some (Replied (Refused e))) = true

-- ---- rows

-- the table of an answer
abbrev pub table_of : Option Answer → Option ResultTable
table_of None = None
table_of (Some Accepted) = None
table_of (Some (Replied (Done v n))) = None
table_of (Some (Replied (Table t))) = Some t
table_of (Some (Replied (Refused e))) = None

-- the rows of a table; none without one
abbrev pub rows_in : Option ResultTable → List Row
rows_in None = []
rows_in (Some t) = table_rows t

-- the rows of the answer
abbrev pub rows_shown : CursorModel → List Row
rows_shown c = rows_in (table_of c.answer)

-- the number of rows that were not gone to
abbrev pub rows_left : CursorModel → ℕ
rows_left c = length (rows_shown c) - c.gone

-- a cursor after rows that were gone to or left out
abbrev pub gone_over : ℕ → CursorModel → CursorModel
gone_over n c = record c { gone = c.gone + min n (rows_left c) }

-- whether there is a next row, and the number of those behind it
abbrev pub told_row : CursorModel → Told
told_row c = if nat_lt 0 (rows_left c)
    then record { kind = 1; code = 0; number = pos 0; length = rows_left c - 1 } else nothing

-- the number of rows that are left out, and of those that are left
abbrev pub told_skip : ℕ → CursorModel → Told
told_skip n c = record { kind = 1; code = 0; number = signed (min n (rows_left c)); length = rows_left c - n }

-- the value of the current row in a column; NULL outside of the answer
abbrev pub cell_shown : ℕ → CursorModel → Datum
cell_shown column c =
    if c.gone == 0 then Null else cell (slice_index_or (rows_shown c) (c.gone - 1) []) column

-- the rows behind the current one of which a host asks for a block
abbrev pub rows_asked : (start count : ℕ) → CursorModel → List Row
rows_asked start count c = take count (drop start (drop c.gone (rows_shown c)))

-- the number of rows of a block, and of the bytes that it needs
abbrev pub told_block : (column : ℕ) → List Row → Told
told_block column rows = record {
  kind = 1;
  code = 0;
  number = signed (length rows);
  length = min (2 ^ 64 - 1) (length (block (column_of column rows)));
}

-- the room with a block at its front, if it has room for the block
abbrev pub with_block : List ℕ → List ℕ → List ℕ
with_block b room = if nat_le (length b) (length room) then b ++ drop (length b) room else room

-- ---- texts

-- the words of what was done, or the number and the text of a refusal
abbrev pub verb_in : Option Answer → Option (List ℕ)
verb_in None = None
verb_in (Some Accepted) = None
verb_in (Some (Replied (Done v n))) = Some (verb_text (plain_verb v))
verb_in (Some (Replied (Table t))) = None
verb_in (Some (Replied (Refused e))) = Some (wording (refusal_of e))

-- the heading of a column
abbrev pub heading_in : ℕ → Option ResultTable → Option (List ℕ)
heading_in column None = None
heading_in column (Some t) = slice_get (headings_of t) column

-- a part of the detail of a refusal
abbrev pub detail_in : Asked → (place : ℕ) → Option Detail → Option (List ℕ)
detail_in a place None = None
detail_in asked.Words place (Some d) = Some (string_bytes d.words)
detail_in asked.Hint place (Some d) = option_map string_bytes d.hint
detail_in asked.Constraint place (Some d) = option_map string_bytes d.constraint
detail_in asked.FaultColumn place (Some d) = slice_get (map string_bytes d.columns.items) place
detail_in a place (Some d) = None

-- the detail of a refusal
abbrev pub detail_shown : CursorModel → Option Detail
detail_shown c = if is_refused c.answer then c.detail else None

-- a text of the answer
abbrev pub part_of : Asked → (place : ℕ) → CursorModel → Option (List ℕ)
part_of asked.Heading place c = heading_in place (table_of c.answer)
part_of asked.Verb place c = verb_in c.answer
part_of a place c = detail_in a place (detail_shown c)

-- ---- the place of a fault

-- the line and the character of a place; the line of the statement if the place is not known
abbrev pub told_at : (line row : ℕ) → Option Place → Told
told_at line row None = record { kind = 1; code = 0; number = signed line; length = row }
told_at line row (Some p) = record { kind = 1; code = narrow p.column; number = signed p.line; length = row }

-- a row, 0 if it is not known
abbrev pub row_or_none : Option ℕ → ℕ
row_or_none None = 0
row_or_none (Some n) = n

-- the line, the character and the row of a fault, as far as they are known
abbrev pub told_fault : (line : ℕ) → Option Detail → Told
told_fault line None = told_at line 0 None
told_fault line (Some d) = told_at line (row_or_none d.row) d.place

-- the same of a refusal; nothing of another answer
abbrev pub told_place : CursorModel → Told
told_place c = if is_refused c.answer then told_fault c.line c.detail else nothing

-- ---- what may be unknown

-- a text, if it is known
abbrev pub told_known : Option (List ℕ) → Told
told_known None = nothing
told_known (Some text) = told_text text

-- the room after the text, if it is known
abbrev pub copied_known : Option (List ℕ) → (start : ℕ) → (room : List ℕ) → List ℕ
copied_known None start room = room
copied_known (Some text) start room = copied text start room
