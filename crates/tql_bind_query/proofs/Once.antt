-- Numbers without repeats, for GROUP BY.
use Rattle.std.proofs.Common.{◌≡◌, refl, sym, ap, ◌∙◌, ℕ, Bool, true, false, List, [], ◌∷◌, eqb-true}
use Rattle.std.specs.Prelude.{◌&&◌, ◌||◌, ◌==◌, if◌then◌else◌, not}
use Rattle.std.specs.List.{dedup, dedup_from, list_any}
use Rattle.std.specs.List.Sorted.{IsPermutation}
use Rattle.std.proofs.lemmas.List.Sorted.{list_any-IsPermutation}
use Rattle.tql_spec.specs.Binding.{grouping_faults, is_loose, is_star}
use Rattle.tql_spec.specs.Creation.{has_expr, has_number, nests_aggregates, uses_column}
use Rattle.tql_spec.specs.Expression.{Cond, Expr}
use Rattle.tql_spec.specs.Syntax.{SelectTree}
use Rattle.tql_spec.proofs.Members.{by_bool}

passed_twice : (a b : Bool) → a || b ≡ a || (a || b)
passed_twice true b = refl
passed_twice false b = refl

-- removing adjacent repeats does not change whether any number passes a test
any_from : (p : ℕ → Bool) (k : ℕ) (xs : List ℕ)
    → list_any p (dedup_from (λ x y. x == y) k xs) ≡ p k || list_any p xs
any_from p k [] = refl
any_from p k (x ∷ xs) =
    let rest = list_any p xs in
    by_bool (x == k)
    (λ e. ap (λ b. list_any p (if b then dedup_from (λ x y. x == y) k xs else k ∷ dedup_from (λ x y. x == y) x xs)) e
    ∙ any_from p k xs ∙ passed_twice (p k) rest ∙ ap (λ n. p k || (p n || rest)) (sym (eqb-true x k e)))
    (λ e. ap (λ b. list_any p (if b then dedup_from (λ x y. x == y) k xs else k ∷ dedup_from (λ x y. x == y) x xs)) e
    ∙ ap (λ b. p k || b) (any_from p x xs))

any_once : (p : ℕ → Bool) (xs : List ℕ) → list_any p (dedup (λ x y. x == y) xs) ≡ list_any p xs
any_once p [] = refl
any_once p (x ∷ xs) = any_from p x xs

-- the numbers of a list are those of its sorted form without repeats
pub numbers_stay : (i : ℕ) (xs ys zs : List ℕ) → IsPermutation xs ys → zs ≡ dedup (λ x y. x == y) ys
    → has_number i zs ≡ has_number i xs
numbers_stay i xs ys zs same once = ap (has_number i) once ∙ any_once (λ j. i == j) ys
    ∙ sym (list_any-IsPermutation (λ j. i == j) xs ys same)

-- whether a query has a grouping fault depends only on which columns are in its GROUP BY
pub faults_alike : (grouped : Bool) (xs ys : List ℕ) (s : SelectTree) (items : List Expr) (having : List Cond)
    → ((i : ℕ) → has_number i xs ≡ has_number i ys)
    → grouping_faults grouped xs s items having ≡ grouping_faults grouped ys s items having
faults_alike grouped xs ys s items having same =
    let has : (λ (i : ℕ). has_number i xs) ≡ (λ (i : ℕ). has_number i ys) = λ k i. same i k in
    let loose : is_loose xs ≡ is_loose ys = ap (λ (p : ℕ → Bool). uses_column (λ i. not (p i))) has in
    ap (λ (test : Expr → Bool). list_any nests_aggregates items || list_any (has_expr nests_aggregates) having
    || (grouped && (is_star s.items || list_any test items || list_any (has_expr test) having))) loose
