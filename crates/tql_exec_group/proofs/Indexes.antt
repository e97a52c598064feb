-- A table from each column to its first index.
use Rattle.std.specs.Prelude.{◌≡◌, refl, ℕ, zero, suc, ◌<◌, Bool, List, [], ◌∷◌, ◌++◌, Option, None}
use Rattle.std.specs.Prelude.{if◌then◌else◌, length, nat_eq, slice_index_or, slice_set}
use Rattle.std.proofs.Common.{sym, ap, ◌∙◌}
use Rattle.std.proofs.lemmas.Bool.{eqb-false, eqb-true}
use Rattle.std.proofs.lemmas.List.{get_or-set_other, get_or-set_same}
use Rattle.tql_spec.proofs.Members.{by_bool}

-- one more column without an index
pub pushed_none : (xs : List (Option ℕ)) (c : ℕ) → slice_index_or (xs ++ None ∷ []) c None ≡ slice_index_or xs c None
pushed_none [] zero = refl
pushed_none [] (suc c) = refl
pushed_none (x ∷ xs) zero = refl
pushed_none (x ∷ xs) (suc c) = pushed_none xs c

-- the index of one column is set
pub index_set : (xs : List (Option ℕ)) (i c : ℕ) (v : Option ℕ) → i < length xs
    → slice_index_or (slice_set xs i v) c None ≡ (if nat_eq c i then v else slice_index_or xs c None)
index_set xs i c v l = by_bool (nat_eq c i)
    (λ e. ap (λ n. slice_index_or (slice_set xs i v) n None) (eqb-true c i e) ∙ get_or-set_same xs i v None l
    ∙ sym (ap (λ (b : Bool). if b then v else slice_index_or xs c None) e))
    (λ e. get_or-set_other xs i c v None (eqb-false c i e)
    ∙ sym (ap (λ (b : Bool). if b then v else slice_index_or xs c None) e))
