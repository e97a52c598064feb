-- Columns zipped with the values of a tuple.
use Rattle.std.proofs.Common.{◌≡◌, refl, ap, ◌∙◌, ℕ, Bool, true, false, List, [], ◌∷◌, map, length, arith}
use Rattle.std.specs.Prelude.{◌&&◌, zip}
use Rattle.std.specs.List.{list_all}
use Rattle.tql_spec.specs.Truth.{is_true}
use Rattle.tql_spec.specs.Datum.{Datum, Row, Equals, compare}
use Rattle.tql_spec.specs.Definition.{cell}
use Rattle.tql_key_rows.specs.Touched.{has_tuple}

module _ {A : Type 0} (value : A → Datum) (r : Row) where
  pub all_zipped : (cs : List ℕ) (vs : List A) → length cs ≡ length vs
      → list_all (λ (p : ℕ × A). is_true (compare Equals (cell r p.0) (value p.1))) (zip cs vs)
      ≡ has_tuple cs (map value vs) r
  all_zipped [] [] n = refl
  all_zipped [] (v ∷ vs) n = absurd (omega arith)
  all_zipped (c ∷ cs) [] n = absurd (omega arith)
  all_zipped (c ∷ cs) (v ∷ vs) n =
      ap (λ b. is_true (compare Equals (cell r c) (value v)) && b) (all_zipped cs vs (omega arith))

  no : (b : Bool) → b && false ≡ false
  no true = refl
  no false = refl

  pub not_as_many : (cs : List ℕ) (vs : List A) → (length cs ≡ length vs → ⊥)
      → has_tuple cs (map value vs) r ≡ false
  not_as_many [] [] n = absurd (n refl)
  not_as_many [] (v ∷ vs) n = refl
  not_as_many (c ∷ cs) [] n = refl
  not_as_many (c ∷ cs) (v ∷ vs) n =
      ap (λ b. is_true (compare Equals (cell r c) (value v)) && b)
      (not_as_many cs vs (λ e. n (omega arith)))
      ∙ no (is_true (compare Equals (cell r c) (value v)))
