-- The layouts of columns after one more row.
use Rattle.std.proofs.Common.{◌≡◌, ℕ, ◌≤◌, List, [], ◌∷◌, ◌++◌, refl, sym, ◌∙◌, ap, map, drop, take, length}
use Rattle.std.proofs.Common.{append_assoc, arith}
use Rattle.std.proofs.lemmas.Grind.{flat_map-append}
use Rattle.std.proofs.lemmas.List.{append-nil, map-append, drop_all, take_all, take-append-drop}
use Rattle.std.proofs.lemmas.List.Sums.{fold_push}
use Rattle.std.specs.Prelude.{Bool, max, Option, Some, None}
use Rattle.std.specs.List.{flat_map, fold}
use Rattle.tql_spec.specs.Datum.{Datum, Row}
use Rattle.tql_spec.specs.Definition.{Name}
use Rattle.tql_result_box.specs.declared.layout.Layout.{Layout}
use Rattle.tql_result_box.specs.Box.{text_width, value_width, is_number, first_known, column_layout, first_value}
use Rattle.tql_result_box.specs.Box.{box_layouts}
use Rattle.tql_result_box.specs.Layouts.{known, widened, with_row}

pub with_row_none : (ls : List Layout) → with_row ls [] ≡ ls
with_row_none [] = refl
with_row_none (l ∷ ls) = refl

first_known_more : (os : List (Option Bool)) (o : Option Bool) → first_known (os ++ (o ∷ [])) ≡ known (first_known os) o
first_known_more [] None = refl
first_known_more [] (Some b) = refl
first_known_more (None ∷ os) o = first_known_more os o
first_known_more (Some b ∷ os) o = refl

column_more : (h : Name) (ds : List Datum) (d : Datum)
    → column_layout h (ds ++ (d ∷ [])) ≡ widened (column_layout h ds) d
column_more h ds d =
    let make : ℕ → Option Bool → Layout = λ w n. record { width = w; number = n } in
    let widths : fold max (text_width h) (map value_width (ds ++ (d ∷ [])))
    ≡ max (fold max (text_width h) (map value_width ds)) (value_width d) =
    ap (fold max (text_width h)) (map-append value_width ds (d ∷ []))
    ∙ fold_push max (text_width h) (map value_width ds) (value_width d) in
    let kinds : first_known (map is_number (ds ++ (d ∷ []))) ≡ known (first_known (map is_number ds)) (is_number d) =
    ap first_known (map-append is_number ds (d ∷ [])) ∙ first_known_more (map is_number ds) (is_number d) in
    ap (λ (w : ℕ). make w (first_known (map is_number (ds ++ (d ∷ []))))) widths
    ∙ ap (λ (n : Option Bool). make (max (fold max (text_width h) (map value_width ds)) (value_width d)) n) kinds

pub layouts_more : (hs : List Name) (rows : List Row) (r : Row)
    → with_row (box_layouts hs rows) r ≡ box_layouts hs (rows ++ (r ∷ []))
layouts_more [] rows r = refl
layouts_more (h ∷ hs) rows [] =
    let none : List Row = [] ∷ [] in
    let firsts : flat_map first_value (rows ++ none) ≡ flat_map first_value rows =
    flat_map-append first_value rows none ∙ append-nil (flat_map first_value rows) in
    let others : box_layouts hs (map (drop 1) (rows ++ none)) ≡ box_layouts hs (map (drop 1) rows) =
    ap (box_layouts hs) (map-append (drop 1) rows none) ∙ sym (layouts_more hs (map (drop 1) rows) [])
    ∙ with_row_none (box_layouts hs (map (drop 1) rows)) in
    sym (ap (λ l. column_layout h l ∷ box_layouts hs (map (drop 1) (rows ++ none))) firsts
    ∙ ap (λ l. column_layout h (flat_map first_value rows) ∷ l) others)
layouts_more (h ∷ hs) rows (d ∷ ds) =
    let more : List Row = (d ∷ ds) ∷ [] in
    let firsts : flat_map first_value (rows ++ more) ≡ flat_map first_value rows ++ (d ∷ []) =
    flat_map-append first_value rows more in
    let others : box_layouts hs (map (drop 1) (rows ++ more)) ≡ with_row (box_layouts hs (map (drop 1) rows)) ds =
    ap (box_layouts hs) (map-append (drop 1) rows more) ∙ sym (layouts_more hs (map (drop 1) rows) ds) in
    sym (ap (λ l. column_layout h l ∷ box_layouts hs (map (drop 1) (rows ++ more))) firsts
    ∙ ap (λ l. l ∷ box_layouts hs (map (drop 1) (rows ++ more))) (column_more h (flat_map first_value rows) d)
    ∙ ap (λ l. widened (column_layout h (flat_map first_value rows)) d ∷ l) others)

pub layouts_from : (hs : List Name) (before rows : List Row)
    → fold with_row (box_layouts hs before) rows ≡ box_layouts hs (before ++ rows)
layouts_from hs before [] = ap (box_layouts hs) (sym (append-nil before))
layouts_from hs before (r ∷ rows) =
    ap (λ l. fold with_row l rows) (layouts_more hs before r) ∙ layouts_from hs (before ++ (r ∷ [])) rows
    ∙ ap (box_layouts hs) (append_assoc before (r ∷ []) rows)

-- the layouts before the first row
pub heading_layouts_are : {X : Type 0} (v : X → Name) (xs : List X)
    → map (λ x. column_layout (v x) []) xs ≡ box_layouts (map v xs) []
heading_layouts_are v [] = refl
heading_layouts_are v (x ∷ xs) = ap (λ l. column_layout (v x) [] ∷ l) (heading_layouts_are v xs)

-- a row with fewer values than columns leaves the other layouts unchanged
pub row_end : {X : Type 0} (v : X → Datum) (ls : List Layout) (cells : List X) (i : ℕ) → length cells ≤ i
    → take i ls ++ with_row (drop i ls) (map v (drop i cells)) ≡ ls
row_end v ls cells i h =
    ap (λ k. take i ls ++ with_row (drop i ls) (map v k)) (drop_all i cells h)
    ∙ ap (λ k. take i ls ++ k) (with_row_none (drop i ls)) ∙ take-append-drop i ls

-- replacing the first layouts of a list that is not longer
pub kept_whole : (new old : List Layout) (len : ℕ) → length new ≡ len → length old ≤ len
    → take len (new ++ drop (length new) old) ≡ new
kept_whole new old len e h =
    ap (λ (l : List Layout). take len (new ++ l)) (drop_all (length new) old (omega arith))
    ∙ ap (λ (l : List Layout). take len l) (append-nil new) ∙ take_all len new (omega arith)

-- the layouts of columns, from their headings and all rows
pub layouts_of_rows : (hs : List Name) (rows given : List Row) (start new : List Layout) → start ≡ box_layouts hs []
    → given ≡ rows → new ≡ fold with_row start given → new ≡ box_layouts hs rows
layouts_of_rows hs rows given start new headings same all =
    all ∙ ap (λ l. fold with_row l given) headings ∙ layouts_from hs [] given ∙ ap (box_layouts hs) same
