-- Lists of values that are packed one after another.
use Rattle.std.specs.Prelude.{◌≡◌, ℕ, ◌+◌, ◌<◌, List, [], ◌∷◌, ◌++◌, drop, length, slice_index_or, slice_set, Vec}
use Rattle.std.proofs.Common.{sym, ap, append_assoc, arith, ◌∙◌}
use Rattle.std.proofs.lemmas.List.{drop_more, drop-set-lt}
use Rattle.tql_spec.specs.Datum.{Row}
use Rattle.tql_value.specs.Views.{row_of, rows_of}
use Rattle.tql_value.specs.declared.value.Value.{Value}

-- this list, and those after it
this_list : {A : Type 0} (items : List (Vec Value A)) (i : ℕ) (x : Vec Value A) → i < length items
    → x ≡ slice_index_or items i x → drop i items ≡ x ∷ drop (i + 1) items
this_list {A} items i x l e = drop_more items i x l ∙ ap {B = List (Vec Value A)} (λ y. y ∷ drop (i + 1) items) (sym e)

-- one more row, from its list, which is taken
pub one_more_packed : {A : Type 0} (rows made : List Row) (items : List (Vec Value A)) (i : ℕ) (x y : Vec Value A)
    (row : Row) (all : List Row) → i < length items → x ≡ slice_index_or items i x → row ≡ row_of x.items
    → made ≡ rows ++ row ∷ [] → rows ++ rows_of (drop i items) ≡ all
    → made ++ rows_of (drop (i + 1) (slice_set items i y)) ≡ all
one_more_packed rows made items i x y row all l e m n h =
    let rest : List Row = rows_of (drop (i + 1) items) in
    (λ j. n j ++ rows_of (drop-set-lt (i + 1) items i y (omega arith) j))
    ∙ append_assoc rows (row ∷ []) rest
    ∙ (λ j. rows ++ m j ∷ rest)
    ∙ sym (λ j. rows ++ rows_of (this_list items i x l e j)) ∙ h
