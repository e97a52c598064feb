-- The faults of new rows: those of the stored cells, and the first of them.
use Rattle.std.specs.Prelude.{◌≡◌, refl, ℕ, zero, suc, ◌+◌, ◌<◌, ◌≤◌, ◌≢◌, ℤ, pos, Bool, true, false, not, ◌&&◌, ◌||◌}
use Rattle.std.specs.Prelude.{nat_lt, List, [], ◌∷◌, ◌++◌, map, length, insert, remove, slice_index_or, Option}
use Rattle.std.specs.Prelude.{Some, None, min, if◌then◌else◌}
use Rattle.std.specs.List.{flat_map}
use Rattle.std.proofs.Common.{sym, ap, ◌∙◌, arith, append_assoc, append-nil, drop, get_or}
use Rattle.std.proofs.lemmas.List.{at_drop_more, drop_all, drop_more, length-drop}
use Rattle.std.proofs.lemmas.List.Edits.{length-insert, length-remove}
use borrow.Author.Tests.{ltb-true, ltb-false}
use Rattle.tql_spec.specs.Words.{listed}
use Rattle.tql_spec.specs.Datum.{Row, Null, Moment, is_null}
use Rattle.tql_spec.specs.Refusal.{Refusal, ValueOutOfRange, NullNotAllowed, PeriodNotRising, first, fault_if}
use Rattle.tql_spec.specs.Period.{rises}
use Rattle.tql_spec.specs.Definition.{Column, System, Application, TableDef, Stamped, with_generated, shown, cell}
use Rattle.tql_spec.specs.Definition.{period_by}
use Rattle.tql_spec.specs.Calendar.{high}
use Rattle.tql_spec.specs.Change.{is_too_long, cell_faults, row_faults, period_faults, period_faults_by}
use Rattle.tql_spec.proofs.FirstFaults.{sooner, first_append}
use Rattle.tql_catalog.specs.Defined.{IsDefinition}
use Rattle.tql_catalog.specs.Rows.{has_system}
use Rattle.tql_catalog.proofs.Definitions.{has_its_system}
use Rattle.tql_catalog.proofs.Kept.{kept, Within, within, two_less}
use Rattle.tql_dml.specs.Cells.{no_column, columns_at, has_long_text, lacks_a_value, falls, falls_by, unstamped}
use Rattle.tql_dml.specs.Cells.{faults_by}
use Rattle.tql_dml.proofs.CheckLaws.{checks_law}
use Rattle.tql_dml.proofs.Unstamped.{SameEnds, ends_stay}

-- ---- the generated cells have no fault

quiet : (limit : Option ℕ) (required : Bool) (m : ℤ)
    → fault_if (is_too_long limit (Moment m)) ValueOutOfRange ++ fault_if (required && is_null (Moment m))
    NullNotAllowed ≡ []
quiet None true m = refl
quiet None false m = refl
quiet (Some n) true m = refl
quiet (Some n) false m = refl

moment_in : (cs : List Column) (row : Row) (i : ℕ) (m : ℤ) → i < length cs → length row + 1 ≡ length cs
    → cell_faults cs (insert row i (Moment m)) ≡ cell_faults (remove cs i) row
moment_in [] row i m l e = absurd (omega arith)
moment_in (c ∷ cs) row zero m l e = ap (λ (fs : List Refusal). fs ++ cell_faults cs row) (quiet c.limit c.required m)
moment_in (c ∷ cs) [] (suc i) m l e = absurd (omega arith)
moment_in (c ∷ cs) (v ∷ vs) (suc i) m l e =
    ap (λ (fs : List Refusal). fault_if (is_too_long c.limit v) ValueOutOfRange ++ fault_if (c.required && is_null v)
    NullNotAllowed ++ fs) (moment_in cs vs i m (omega arith) (omega arith))

shown_by : (s : System) (cs : List Column) (cells : Row) (m e : ℤ) (b : Bool) → nat_lt s.start s.end ≡ b
    → Within s (length cs) → length cells + 2 ≡ length cs
    → cell_faults cs (if b then insert (insert cells s.start (Moment m)) s.end (Moment e) else insert
    (insert cells s.end (Moment e)) s.start (Moment m))
    ≡ cell_faults (if b then remove (remove cs s.end) s.start else remove (remove cs s.start) s.end) cells
shown_by s cs cells m e true h w k =
    let l : s.start < s.end = ltb-true s.start s.end h in
    let n = length-remove cs s.end w.end in
    let o = length-insert cells s.start (Moment m) (omega arith) in
    moment_in cs (insert cells s.start (Moment m)) s.end e w.end (omega arith)
    ∙ moment_in (remove cs s.end) cells s.start m (omega arith) (omega arith)
shown_by s cs cells m e false h w k =
    let most : s.end ≤ s.start = ltb-false s.start s.end h in
    let apart : s.start ≢ s.end = w.apart in
    let l : s.end < s.start = omega arith in
    let n = length-remove cs s.start w.start in
    let o = length-insert cells s.end (Moment e) (omega arith) in
    moment_in cs (insert cells s.end (Moment e)) s.start m w.start (omega arith)
    ∙ moment_in (remove cs s.start) cells s.end e (omega arith) (omega arith)

-- the faults of a full row are those of its stored cells
pub shown_law : (s : Option System) (cs : List Column) (cells : Row) (m e : ℤ) → has_system s (length cs) ≡ true
    → length cells ≡ length (kept s cs)
    → cell_faults cs (with_generated s cells m e) ≡ cell_faults (kept s cs) cells
shown_law None cs cells m e h k = refl
shown_law (Some s) cs cells m e h k =
    let w = within s (length cs) h in
    let n = two_less s cs (nat_lt s.start s.end) refl w in
    shown_by s cs cells m e (nat_lt s.start s.end) refl w (omega arith)

-- ---- the fault of an application period

falls_as : (o : Option Application) (d : TableDef) (row : Row) → d.application ≡ o
    → period_faults_by o d row ≡ fault_if (falls_by o row) PeriodNotRising
falls_as None d row e = refl
falls_as (Some a) d row e =
    λ i. fault_if (not (is_null (cell row a.start)) && not (is_null (cell row a.end)) && not
    (rises (period_by (e i) row))) PeriodNotRising

same_fall : (o : Option Application) (row other : Row) → SameEnds o row other → falls_by o row ≡ falls_by o other
same_fall None row other e = refl
same_fall (Some a) row other e = λ i. falls (e.start i) (e.end i)

-- the same, whatever the moments in the generated columns
period_law : (d : TableDef) (r : Stamped) → IsDefinition d → length r.cells ≡ length (kept d.system d.columns)
    → period_faults d (shown d r) ≡ fault_if (falls_by d.application (unstamped d r.cells)) PeriodNotRising
period_law d r h k =
    falls_as d.application d (shown d r) refl
    ∙ ap (λ b. fault_if b PeriodNotRising)
    (same_fall d.application (shown d r) (unstamped d r.cells) (ends_stay d r.cells r.start high (pos 0) high h k))

-- the faults of a row of a table are those of its stored cells
pub plain_faults : (d : TableDef) (r : Stamped) → IsDefinition d → length r.cells ≡ length (kept d.system d.columns)
    → row_faults d (shown d r) ≡ faults_by (kept d.system d.columns) d.checks d r.cells
plain_faults d r h k =
    let cells = shown_law d.system d.columns r.cells r.start high (has_its_system d h) k in
    λ i. cells i ++ period_law d r h k i ++ checks_law d r h k i

-- ---- the first fault of a row's cells

-- the fault, from whether a text is too long and whether a value is missing
abbrev pub verdict : Bool → Bool → Option Refusal
verdict true b = Some ValueOutOfRange
verdict false true = Some NullNotAllowed
verdict false false = None

one_cell : (p q a b : Bool)
    → sooner (first (fault_if p ValueOutOfRange ++ fault_if q NullNotAllowed)) (verdict a b)
    ≡ verdict (p || a) (q || b)
one_cell true true true b = refl
one_cell true true false true = refl
one_cell true true false false = refl
one_cell true false true b = refl
one_cell true false false true = refl
one_cell true false false false = refl
one_cell false true true b = refl
one_cell false true false true = refl
one_cell false true false false = refl
one_cell false false a b = refl

pub cells_first : (cs : List Column) (row : Row)
    → first (cell_faults cs row) ≡ verdict (has_long_text cs row) (lacks_a_value cs row)
cells_first [] row = refl
cells_first (k ∷ ks) [] = refl
cells_first (k ∷ ks) (v ∷ vs) =
    let p = is_too_long k.limit v in
    let q = k.required && is_null v in
    let here : List Refusal = fault_if p ValueOutOfRange ++ fault_if q NullNotAllowed in
    first_append here (cell_faults ks vs) ∙ ap (sooner (first here)) (cells_first ks vs)
    ∙ one_cell p q (has_long_text ks vs) (lacks_a_value ks vs)

-- the results of the two tests, with the columns as the code has them
pub verdict_is : (cs stored : List Column) (row : Row) (a b : Bool) → cs ≡ stored → a ≡ has_long_text cs row
    → b ≡ lacks_a_value cs row → verdict a b ≡ first (cell_faults stored row)
verdict_is cs stored row a b is e f =
    (λ i. verdict (e i) (f i)) ∙ sym (cells_first cs row) ∙ ap (λ ks. first (cell_faults ks row)) is

-- ---- the first fault of lists in order

first_listed : (o : Option Refusal) → first (listed o) ≡ o
first_listed None = refl
first_listed (Some e) = refl

-- the first fault of two lists is that of their first faults
pub first_of_both : (xs ys : List Refusal) (o p : Option Refusal) → o ≡ first xs → p ≡ first ys
    → first (listed o ++ listed p) ≡ first (xs ++ ys)
first_of_both xs ys o p e f =
    first_append (listed o) (listed p)
    ∙ (λ i. sooner ((first_listed o ∙ e) i) ((first_listed p ∙ f) i))
    ∙ sym (first_append xs ys)

-- the first fault so far, and those of the items left, give the first of all
abbrev pub Finds : {X Y : Type 0} → (Y → List Refusal) → (X → Y) → List X → Option Refusal → ℕ → Type 0
Finds f g xs found i =
    first (listed found ++ flat_map f (map g (drop i xs))) ≡ first (flat_map f (map g xs))

-- one more item, at an index
pub find_at : {X Y : Type 0} (f : Y
    → List Refusal) (g : X → Y) (xs : List X) (i : ℕ) (x : X) (found here next : Option Refusal)
    → i < length xs → here ≡ first (f (g (get_or xs i x))) → next ≡ first (listed found ++ listed here)
    → Finds f g xs found i → Finds f g xs next (i + 1)
find_at f g xs i x found here next inside h n l =
    let now : List Refusal = f (g (get_or xs i x)) in
    let rest : List Refusal = flat_map f (map g (drop (i + 1) xs)) in
    let both : first (listed found ++ listed here) ≡ first (listed found ++ now) =
    first_of_both (listed found) now found here (sym (first_listed found)) h in
    first_append (listed next) rest
    ∙ ap (λ o. sooner o (first rest)) (first_listed next ∙ n ∙ both)
    ∙ sym (first_append (listed found ++ now) rest)
    ∙ ap first (append_assoc (listed found) now rest)
    ∙ sym (at_drop_more (λ ys. first (listed found ++ flat_map f (map g ys))) xs i x inside)
    ∙ l

-- one more item, which is there
pub find_one : {X Y : Type 0} (f : Y
    → List Refusal) (g : X → Y) (xs : List X) (i : ℕ) (x : X) (found here next : Option Refusal)
    → i < length xs → x ≡ get_or xs i x → here ≡ first (f (g x)) → next ≡ first (listed found ++ listed here)
    → Finds f g xs found i → Finds f g xs next (i + 1)
find_one f g xs i x found here next inside is h n l =
    find_at f g xs i x found here next inside (h ∙ ap (λ y. first (f (g y))) is) n l

-- no item is left
pub found_all : {X Y : Type 0} (f : Y
    → List Refusal) (g : X → Y) (xs : List X) (i : ℕ) (found : Option Refusal) → length xs ≤ i
    → Finds f g xs found i → found ≡ first (flat_map f (map g xs))
found_all f g xs i found past l =
    sym (first_listed found) ∙ ap first (sym (append-nil (listed found)))
    ∙ ap (λ ys. first (listed found ++ flat_map f (map g ys))) (sym (drop_all i xs past)) ∙ l

-- ---- cells by their indexes, and the numbers of their columns

-- whether a text is too long, from an index on
abbrev pub long_from : List Column → List ℕ → Row → ℕ → Bool
long_from cs is row p = has_long_text (columns_at cs (drop p is)) (drop p row)

-- that of the cell at the index, or a later one
pub one_long : (cs : List Column) (is : List ℕ) (row : Row) (p : ℕ) → p < length is → p < length row
    → long_from cs is row p
    ≡ (is_too_long (slice_index_or cs (slice_index_or is p 0) no_column).limit (cell row p)
    || long_from cs is row (p + 1))
one_long cs is row p l k = λ j. has_long_text (columns_at cs (drop_more is p 0 l j)) (drop_more row p Null k j)

none_long : (cs : List Column) (is : List ℕ) (row : Row) → min (length is) (length row) ≤ 0
    → has_long_text (columns_at cs is) row ≡ false
none_long cs [] row h = refl
none_long cs (i ∷ is) [] h = refl
none_long cs (i ∷ is) (v ∷ vs) h = absurd (omega arith)

-- no cell or no column is left
pub past_long : (cs : List Column) (is : List ℕ) (row : Row) (p : ℕ) → min (length is) (length row) ≤ p
    → long_from cs is row p ≡ false
past_long cs is row p past =
    none_long cs (drop p is) (drop p row) (omega (arith, length-drop p is, length-drop p row))

-- whether a value is lacking, from an index on
abbrev pub lacking_from : List Column → List ℕ → Row → ℕ → Bool
lacking_from cs is row p = lacks_a_value (columns_at cs (drop p is)) (drop p row)

-- that of the cell at the index, or a later one
pub one_lacking : (cs : List Column) (is : List ℕ) (row : Row) (p : ℕ) → p < length is → p < length row
    → lacking_from cs is row p
    ≡ (((slice_index_or cs (slice_index_or is p 0) no_column).required && is_null (cell row p))
    || lacking_from cs is row (p + 1))
one_lacking cs is row p l k = λ j. lacks_a_value (columns_at cs (drop_more is p 0 l j)) (drop_more row p Null k j)

none_lacking : (cs : List Column) (is : List ℕ) (row : Row) → min (length is) (length row) ≤ 0
    → lacks_a_value (columns_at cs is) row ≡ false
none_lacking cs [] row h = refl
none_lacking cs (i ∷ is) [] h = refl
none_lacking cs (i ∷ is) (v ∷ vs) h = absurd (omega arith)

-- no cell or no column is left
pub past_lacking : (cs : List Column) (is : List ℕ) (row : Row) (p : ℕ) → min (length is) (length row) ≤ p
    → lacking_from cs is row p ≡ false
past_lacking cs is row p past =
    none_lacking cs (drop p is) (drop p row) (omega (arith, length-drop p is, length-drop p row))

-- a row as it is
abbrev pub itself : Row → Row
itself row = row

pub as_they_are : (rows : List Row) → map itself rows ≡ rows
as_they_are [] = refl
as_they_are (row ∷ rows) = ap {B = List Row} (λ rs. row ∷ rs) (as_they_are rows)
