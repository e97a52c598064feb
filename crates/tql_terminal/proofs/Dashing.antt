-- The values that a terminal shows, of values in memory.
use Rattle.std.proofs.Common.{◌≡◌, ℕ, ◌+◌, ◌<◌, ◌≤◌, List, [], ◌∷◌, ◌++◌, refl, sym, ap, ◌∙◌, map, drop, length, get_or}
use Rattle.std.proofs.lemmas.List.{drop_more, drop_all}
use Rattle.std.specs.Prelude.{Vec}
use Rattle.tql_spec.specs.Datum.{Datum, Row}
use Rattle.tql_spec.specs.Definition.{Name}
use Rattle.tql_value.specs.Views.{datum_of_value, row_of, rows_of}
use Rattle.tql_value.specs.declared.value.Value.{Value}
use Rattle.tql_result_box.specs.Box.{box_text}
use Rattle.tql_result_box.specs.declared.layout.Layout.{Layout}
use Rattle.tql_terminal.specs.Dashes.{dashed, dashed_row, dashed_rows, dashed_value}
use Rattle.tql_terminal.specs.Terminal.{field, fields, first_name, fitting, record_text, records_after}

row_dashed : (cells : List Value) → dashed_row cells ≡ map dashed (row_of cells)
row_dashed [] = refl
row_dashed (v ∷ vs) = ap (λ (r : Row). dashed_value v ∷ r) (row_dashed vs)

-- the rows that are shown are those of the table with each value as shown
pub all_dashed : {A : Type 0} (rows : List (Vec Value A))
    → map (λ r. dashed_row r.items) rows ≡ dashed_rows (rows_of rows)
all_dashed [] = refl
all_dashed (r ∷ rows) =
    ap (λ (row : Row). row ∷ map (λ q. dashed_row q.items) rows) (row_dashed r.items)
    ∙ ap (λ (l : List Row). map dashed (row_of r.items) ∷ l) (all_dashed rows)

fields_more : (width : ℕ) (names : List Name) (d : Datum) (ds : Row)
    → fields width names (d ∷ ds) ≡ field width (first_name names) d ++ fields width (drop 1 names) ds
fields_more width [] d ds = refl
fields_more width (h ∷ hs) d ds = refl

-- the columns of a record from one on are that column and the next ones
pub fields_next : {X : Type 0} (v : X → Datum) (width : ℕ) (names others : List Name) (xs : List X) (i : ℕ) (x : X)
    (piece : List ℕ) → i < length xs → x ≡ get_or xs i x → others ≡ drop 1 names
    → field width (first_name names) (v x) ≡ piece
    → fields width names (map v (drop i xs)) ≡ piece ++ fields width others (map v (drop (i + 1) xs))
fields_next v width names others xs i x piece h e d p =
    ap (λ l. fields width names (map v l)) (drop_more xs i x h ∙ ap (λ y. y ∷ drop (i + 1) xs) (sym e))
    ∙ fields_more width names (v x) (map v (drop (i + 1) xs))
    ∙ ap (λ t. t ++ fields width (drop 1 names) (map v (drop (i + 1) xs))) p
    ∙ ap (λ l. piece ++ fields width l (map v (drop (i + 1) xs))) (sym d)

fields_none : (width : ℕ) (names : List Name) → fields width names [] ≡ []
fields_none width [] = refl
fields_none width (h ∷ hs) = refl

pub fields_end : {X : Type 0} (v : X → Datum) (width : ℕ) (names : List Name) (xs : List X) (i : ℕ) → length xs ≤ i
    → fields width names (map v (drop i xs)) ≡ []
fields_end v width names xs i h =
    ap (λ l. fields width names (map v l)) (drop_all i xs h) ∙ fields_none width names

pub names_dropped : {X : Type 0} (v : X → Name) (xs : List X) → map v (drop 1 xs) ≡ drop 1 (map v xs)
names_dropped v [] = refl
names_dropped v (x ∷ xs) = refl

-- the records from one on are that record and the next ones
pub records_next : {X : Type 0} (f : X → Row) (n width : ℕ) (names : List Name) (xs : List X) (i : ℕ) (x : X)
    (piece : List ℕ) → i < length xs → x ≡ get_or xs i x → record_text (n + 1) width names (f x) ≡ piece
    → records_after n width names (map f (drop i xs))
    ≡ piece ++ records_after (n + 1) width names (map f (drop (i + 1) xs))
records_next f n width names xs i x piece h e p =
    ap (λ l. records_after n width names (map f l)) (drop_more xs i x h ∙ ap (λ y. y ∷ drop (i + 1) xs) (sym e))
    ∙ ap (λ t. t ++ records_after (n + 1) width names (map f (drop (i + 1) xs))) p

pub records_end : {X : Type 0} (f : X → Row) (n width : ℕ) (names : List Name) (xs : List X) (i : ℕ) → length xs ≤ i
    → records_after n width names (map f (drop i xs)) ≡ []
records_end f n width names xs i h = ap (λ l. records_after n width names (map f l)) (drop_all i xs h)

-- equal layouts, names and rows can be replaced
pub same_fitting : (width : ℕ) (ls ks : List Layout) (names hs : List Name) (shown rows : List Row) → ls ≡ ks
    → names ≡ hs → shown ≡ rows → fitting width ls names shown ≡ fitting width ks hs rows
same_fitting width ls ks names hs shown rows l n r =
    ap (λ (x : List Layout). fitting width x names shown) l ∙ ap (λ (x : List Name). fitting width ks x shown) n
    ∙ ap (λ (x : List Row). fitting width ks hs x) r

pub same_box : (ls : List Layout) (names hs : List Name) (shown rows : List Row) → names ≡ hs → shown ≡ rows
    → box_text ls names shown ≡ box_text ls hs rows
same_box ls names hs shown rows n r =
    ap (λ (x : List Name). box_text ls x shown) n ∙ ap (λ (x : List Row). box_text ls hs x) r
