-- Columns of rows that are read one after the other.
use Rattle.std.proofs.Common.{◌≡◌, ℕ, ◌+◌, ◌*◌, ◌<◌, ◌≤◌, List, [], ◌∷◌, ◌++◌, length, get_or, drop, refl, sym, ap, ◌∙◌}
use Rattle.std.proofs.Common.{arith, Vec, length-append}
use Rattle.std.proofs.lemmas.List.{at_drop_more, at_drop_all, length-map}
use Rattle.std.specs.Int.{w64, to_le_bytes}
use Rattle.tql_spec.specs.Datum.{Datum}
use Rattle.tql_value.specs.Views.{row_of, rows_of}
use Rattle.tql_value.specs.declared.value.Value.{Value}
use Rattle.tql_host_cells.specs.Cells.{cell, kind_number}
use Rattle.tql_host_cells.specs.Block.{block, column_of, kinds, number_at, numbers, text_length, texts}

-- the cells of the rows from i on
abbrev pub cells_from : {A : Type 0} → ℕ → ℕ → List (Vec Value A) → List Datum
cells_from column i rows = column_of column (rows_of (drop i rows))

pub cells_next : {A : Type 0} (column i : ℕ) (rows : List (Vec Value A)) (row : Vec Value A) (d : Datum)
    → i < length rows → row ≡ get_or rows i row → d ≡ cell (row_of row.items) column
    → cells_from column i rows ≡ d ∷ cells_from column (i + 1) rows
cells_next {A} column i rows row d inside is its =
    at_drop_more (λ rs. column_of column (rows_of rs)) rows i row inside
    ∙ ap (λ (r : Vec Value A). cell (row_of r.items) column ∷ cells_from column (i + 1) rows) (sym is)
    ∙ ap (λ c. c ∷ cells_from column (i + 1) rows) (sym its)

pub cells_end : {A : Type 0} (column i : ℕ) (rows : List (Vec Value A)) → length rows ≤ i
    → cells_from column i rows ≡ []
cells_end column i rows outside = at_drop_all (λ rs. column_of column (rows_of rs)) rows i outside

-- the numbers of the next cell and of those behind it
pub numbers_next : (end long : ℕ) (cells rest : List Datum) (d : Datum) (bytes : List ℕ) → cells ≡ d ∷ rest
    → long ≡ text_length d → bytes ≡ to_le_bytes w64 (number_at (end + long) d)
    → numbers end cells ≡ bytes ++ numbers (end + long) rest
numbers_next end long cells rest d bytes next is its =
    ap (numbers end) next
    ∙ ap (λ n. to_le_bytes w64 (number_at (end + n) d) ++ numbers (end + n) rest) (sym is)
    ∙ ap (λ b. b ++ numbers (end + long) rest) (sym its)

pub length_of_numbers : (end : ℕ) (cells : List Datum) → length (numbers end cells) ≡ 8 * length cells
length_of_numbers end [] = refl
length_of_numbers end (c ∷ cs) =
    let h = length_of_numbers (end + text_length c) cs in
    let e : length (to_le_bytes w64 (number_at (end + text_length c) c)) ≡ 8 = refl in
    length-append (to_le_bytes w64 (number_at (end + text_length c) c)) (numbers (end + text_length c) cs)
    ∙ omega arith

pub length_of_block : (cells : List Datum) → length (block cells) ≡ 9 * length cells + length (texts cells)
length_of_block cells =
    let n = length_of_numbers 0 cells in
    let k : length (kinds cells) ≡ length cells = length-map cells kind_number in
    length-append (numbers 0 cells) (kinds cells ++ texts cells)
    ∙ ap (λ m. length (numbers 0 cells) + m) (length-append (kinds cells) (texts cells)) ∙ omega arith

pub length_of_column : {A : Type 0} (column : ℕ) (rows : List (Vec Value A))
    → length (column_of column (rows_of rows)) ≡ length rows
length_of_column {A} column rows =
    length-map (rows_of rows) (λ r. cell r column) ∙ length-map rows (λ (r : Vec Value A). row_of r.items)
