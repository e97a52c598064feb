-- Ranks compared, and rows sorted by them.
use Rattle.std.proofs.Common.{◌≡◌, refl, ap, subst, ◌∙◌, ℕ, ◌+◌, ◌<◌, true, false, List, [], ◌∷◌, ◌++◌, map, length}
use Rattle.std.proofs.Common.{arith}
use Rattle.std.specs.Prelude.{ℤ}
use Rattle.std.specs.List.Sorted.{IsSorted, IsSortedBy}
use Rattle.std.specs.declared.cmp.Ordering.{Ordering}
use Rattle.std.specs.declared.cmp.Ordering.TheVariants.{Less, Equal, Greater}
use Rattle.std.specs.Ordering.{int_cmp, is_lt, is_ne, ordering_then}
use Rattle.std.proofs.lemmas.List.{get_or-map, length-map}
use Rattle.tql_spec.specs.Datum.{Row, Int, order}
use Rattle.tql_spec.specs.Definition.{cell}
use Rattle.tql_spec.specs.Query.{by_columns}
use Rattle.tql_key_rows.specs.Touched.{tuple}

then_same : (o : Ordering) → ordering_then o Equal ≡ o
then_same Less = refl
then_same Equal = refl
then_same Greater = refl

then_then : (o p q : Ordering) → ordering_then o (ordering_then p q) ≡ ordering_then (ordering_then o p) q
then_then Less p q = refl
then_then Equal p q = refl
then_then Greater p q = refl

-- the second comparison decides only if the first is a tie
pub first_decides : (o p : Ordering) → is_ne o ≡ true → o ≡ ordering_then o p
first_decides Less p h = refl
first_decides Equal p h = absurd (cc)
first_decides Greater p h = refl

pub then_decides : (o p : Ordering) → is_ne o ≡ false → p ≡ ordering_then o p
then_decides Less p h = absurd (cc)
then_decides Equal p h = refl
then_decides Greater p h = absurd (cc)

-- compared by the tuples, then by the starts
pub rank_by : (cs : List ℕ) (r s : Row) (m n : ℤ)
    → by_columns (tuple cs r ++ Int m ∷ []) (tuple cs s ++ Int n ∷ [])
    ≡ ordering_then (by_columns (tuple cs r) (tuple cs s)) (int_cmp m n)
rank_by [] r s m n = then_same (int_cmp m n)
rank_by (c ∷ cs) r s m n =
    ap (ordering_then (order (cell r c) (cell s c))) (rank_by cs r s m n)
    ∙ then_then (order (cell r c) (cell s c)) (by_columns (tuple cs r) (tuple cs s)) (int_cmp m n)

map_twice : {A : Type 0} (p : Row → Row) (view : A → Row) (xs : List A)
    → map (λ x. p (view x)) xs ≡ map p (map view xs)
map_twice p view [] = refl
map_twice p view (x ∷ xs) = ap (λ ys. p (view x) ∷ ys) (map_twice p view xs)

by_each : {A : Type 0} (p : A → Row) (xs : List A) → IsSortedBy (λ x y. is_lt (by_columns (p x) (p y))) xs
    → IsSorted by_columns (map p xs)
by_each p [] s k d l h = absurd (omega (arith, h))
by_each p (x ∷ xs) s k d l h =
    let n : length (map p (x ∷ xs)) ≡ length (x ∷ xs) = length-map (x ∷ xs) p in
    let m : k + 1 < length (x ∷ xs) = omega (arith, h, n) in
    let q : k < length (x ∷ xs) = omega (arith, m) in
    rw (get_or-map p (x ∷ xs) (k + 1) x d m, get_or-map p (x ∷ xs) k x d q) (s k x l m)

-- sorted by what is read of the rows that the elements represent
pub sorted_by : {A : Type 0} (p : Row → Row) (view : A → Row) (xs : List A)
    → IsSortedBy (λ x y. is_lt (by_columns (p (view x)) (p (view y)))) xs → IsSorted by_columns (map p (map view xs))
sorted_by p view xs s = subst (IsSorted by_columns) (map_twice p view xs) (by_each (λ x. p (view x)) xs s)
