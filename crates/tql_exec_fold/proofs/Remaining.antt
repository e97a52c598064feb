-- Folding over values: those so far, and those left.
use Rattle.std.specs.Prelude.{◌≡◌, refl, ℕ, ◌+◌, ◌<◌, List, [], ◌∷◌, length, slice_index_or, Option, Some}
use Rattle.std.specs.Prelude.{None}
use Rattle.std.proofs.Common.{sym, ap, ◌∙◌, drop}
use Rattle.std.proofs.lemmas.List.{drop_more}
use Rattle.tql_spec.specs.Words.{◌>>=◌, with_front, map_all}
use Rattle.tql_spec.specs.Datum.{Datum, Row}
use Rattle.tql_spec.specs.Expression.{Expr, eval, present}
use Rattle.tql_exec_fold.specs.Folds.{of_present}

front_first : {A B : Type 0} (v : A) (rest : Option (List A)) (h : List A → Option B)
    → with_front (Some v) rest >>= h ≡ rest >>= λ vs. h (v ∷ vs)
front_first v None h = refl
front_first v (Some vs) h = refl

by_each : {A B : Type 0} (o : Option A) (h k : A → Option B) → ((x : A) → h x ≡ k x) → o >>= h ≡ o >>= k
by_each None h k e = refl
by_each (Some x) h k e = e x

-- the items left at an index
left_at : {X A : Type 0} (f : X → Option A) (xs : List X) (i : ℕ) (d x : X) → i < length xs
    → x ≡ slice_index_or xs i d
    → map_all f (drop i xs) ≡ with_front (f x) (map_all f (drop (i + 1) xs))
left_at f xs i d x l is = ap (map_all f) (drop_more xs i d l)
    ∙ ap (λ y. with_front (f y) (map_all f (drop (i + 1) xs))) (sym is)

module _ {X A B : Type 0} (f : X → Option A) where
  -- one more item, which has a value
  pub one_more : (h h' : List A → Option B) (xs : List X) (i : ℕ) (d x : X) (v : A) (all : Option B) → i < length xs
      → x ≡ slice_index_or xs i d
      → f x ≡ Some v → ((vs : List A) → h' vs ≡ h (v ∷ vs))
      → map_all f (drop i xs) >>= h ≡ all → map_all f (drop (i + 1) xs) >>= h' ≡ all
  one_more h h' xs i d x v all l is value next so_far =
      let rest = map_all f (drop (i + 1) xs) in
      by_each rest h' (λ vs. h (v ∷ vs)) next ∙ sym (front_first v rest h) ∙ (λ j. with_front (sym value j) rest >>= h)
      ∙ sym (ap (λ o. o >>= h) (left_at f xs i d x l is)) ∙ so_far

-- ---- the values of an expression on rows

pub more_present : {A : Type 0} (e : Expr) (h h' : List Datum → Option A) (xs : List Row) (i : ℕ) (d x : Row)
    (v : Datum)
    (all : Option A) → i < length xs → x ≡ slice_index_or xs i d
    → Some v ≡ eval [] x e → ((vs : List Datum) → h' (present vs) ≡ h (present (v ∷ vs)))
    → of_present h e (drop i xs) ≡ all → of_present h' e (drop (i + 1) xs) ≡ all
more_present e h h' xs i d x v all l is value next so_far =
    one_more (λ r. eval [] r e) (λ vs. h (present vs)) (λ vs. h' (present vs)) xs i d x v all l is (sym value)
    next so_far
