-- The last of rows that stand one behind another, by the values and the marks that are left.
use Rattle.std.specs.Prelude.{◌≡◌, refl, ℕ, ◌+◌, List, [], ◌∷◌, ◌++◌, length}
use Rattle.std.proofs.Common.{sym, ap, subst, ◌∙◌, drop, take}
use Rattle.std.proofs.lemmas.List.{drop-map, take-map}
use Rattle.tql_spec.specs.Datum.{Row}
use Rattle.tql_value.specs.Views.{datum_of_value, row_of}
use Rattle.tql_value.specs.declared.value.Value.{Value}
use Rattle.tql_exec_numbered.specs.Rows.{parts, start_at, AreMarks}
use Rattle.tql_exec_numbered.specs.declared.rows.Mark.{Mark}
use Rattle.tql_exec_numbered.proofs.Parts.{marks_left, parts_left}

-- two lists with one row behind them
pub fronts : (xs ys : List Row) (a b : Row) → xs ++ a ∷ [] ≡ ys ++ b ∷ [] → xs ≡ ys
fronts [] [] a b e = refl
fronts [] (y ∷ []) a b e = cc
fronts [] (y ∷ z ∷ ys) a b e = cc
fronts (x ∷ []) [] a b e = cc
fronts (x ∷ z ∷ xs) [] a b e = cc
fronts (x ∷ xs) (y ∷ ys) a b e =
    let first : x ≡ y = cc in
    let others : xs ++ a ∷ [] ≡ ys ++ b ∷ [] = cc in
    let rest : xs ≡ ys = fronts xs ys a b others in
    cc

module _ (items values : List Value) (marks lefts : List Mark) (i start : ℕ) (last : i + 1 ≡ length marks)
    (is : AreMarks 0 marks (row_of items)) (at : start ≡ start_at 0 marks i) (left : values ≡ take start items)
    (others : lefts ≡ take i marks) where
  kept : take (start_at 0 marks i) (row_of items) ≡ row_of values
  kept = ap (λ s. take s (row_of items)) (sym at) ∙ take-map datum_of_value start items ∙ ap row_of (sym left)

  pub are_left : AreMarks 0 lefts (row_of values)
  are_left = subst (λ ms. AreMarks 0 ms (row_of values)) (sym others)
      (subst (AreMarks 0 (take i marks)) kept (marks_left (row_of items) 0 marks i last is))

  pub last_is : parts 0 marks (row_of items) ≡ parts 0 lefts (row_of values) ++ row_of (drop start items) ∷ []
  last_is = parts_left (row_of items) 0 marks i last is
      ∙ ap (λ xs. parts 0 (take i marks) xs ++ drop (start_at 0 marks i) (row_of items) ∷ []) kept
      ∙ ap (λ ms. parts 0 ms (row_of values) ++ drop (start_at 0 marks i) (row_of items) ∷ []) (sym others)
      ∙ ap (λ xs. parts 0 lefts (row_of values) ++ xs ∷ [])
      (ap (λ s. drop s (row_of items)) (sym at) ∙ drop-map datum_of_value start items)
