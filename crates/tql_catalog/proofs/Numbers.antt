-- Numbers that are added one at a time.
use Rattle.std.specs.Prelude.{◌≡◌, ℕ, zero, suc, ◌+◌, Bool, not, List, [], ◌∷◌, ◌++◌, map, filter, length, Option}
use Rattle.std.specs.Prelude.{option_map}
use Rattle.std.specs.List.{range_with_len}
use Rattle.std.proofs.Common.{sym, ap, ◌∙◌, arith, add-one}
use Rattle.std.proofs.lemmas.List.{length-map}
use Rattle.std.proofs.lemmas.List.Elements.{filter-append}
use Rattle.tql_spec.specs.Definition.{Name, Application}
use Rattle.tql_spec.specs.Creation.{has_number}
use Rattle.tql_spec.specs.Binding.{generated_columns, all_assignable}
use Rattle.tql_catalog.specs.Defined.{table_of_parts}
use Rattle.tql_catalog.specs.Definitions.{column_of, system_of}
use Rattle.tql_catalog.specs.declared.definition.Column.{Column}
use Rattle.tql_catalog.specs.declared.definition.System.{System}

range_more : (a n k : ℕ) → a + n ≡ k → range_with_len a (suc n) ≡ range_with_len a n ++ k ∷ []
range_more a zero k e = ap {B = List ℕ} (λ i. i ∷ []) (omega arith)
range_more a (suc n) k e = ap {B = List ℕ} (λ is. a ∷ is) (range_more (a + 1) n k (omega arith))

-- one more number is tested
pub one_more_number : (t : ℕ → Bool) (n : ℕ)
    → filter t (range_with_len 0 n) ++ filter t (n ∷ []) ≡ filter t (range_with_len 0 (n + 1))
one_more_number t n = sym (ap (λ k. filter t (range_with_len 0 k)) (add-one n)
    ∙ ap (filter t) (range_more 0 n n (omega arith)) ∙ filter-append t (range_with_len 0 n) (n ∷ []))

-- the numbers that are not generated are those of the table
pub assigned : (n : Name) (columns : List Column) (system : Option System) (application : Option Application)
    (numbers : List ℕ) (width : ℕ) → width ≡ length columns
    → numbers ≡ filter (λ i. not (has_number i (generated_columns (option_map system_of system))))
    (range_with_len 0 width)
    → numbers ≡ all_assignable (table_of_parts n (map column_of columns) (option_map system_of system) application)
assigned n columns system application numbers width w e =
    e ∙ ap (λ k. filter (λ i. not (has_number i (generated_columns (option_map system_of system))))
    (range_with_len 0 k)) (w ∙ sym (length-map columns column_of))
