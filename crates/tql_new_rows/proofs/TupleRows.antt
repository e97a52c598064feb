-- The stored cells of the rows of tuples of expressions.
use Rattle.std.proofs.Common.{◌≡◌, refl, sym, ap, subst, ◌∙◌, List, [], ◌∷◌, map, Option, Some, None}
use Rattle.std.specs.Prelude.{option_map, Result, Ok, Err, IsErr, IsErrAnd}
use Rattle.tql_spec.specs.Words.{with_front, map_all}
use Rattle.tql_value.specs.declared.refusal.Refusal.{Refusal}
use Rattle.tql_value.specs.declared.refusal.Refusal.TheVariants as r
use Rattle.tql_expr.specs.Evaluated.{Fails, Evaluated}

front_mapped : {A B : Type 0} (g : A → B) (o : Option A) (os : Option (List A))
    → with_front (option_map g o) (option_map (map g) os) ≡ option_map (map g) (with_front o os)
front_mapped g None os = refl
front_mapped g (Some y) None = refl
front_mapped g (Some y) (Some ys) = refl

-- tuple by tuple, or all values first
pub each_mapped : {X A B : Type 0} (f : X → Option A) (g : A → B) (xs : List X)
    → map_all (λ x. option_map g (f x)) xs ≡ option_map (map g) (map_all f xs)
each_mapped f g [] = refl
each_mapped f g (x ∷ xs) =
    ap (with_front (option_map g (f x))) (each_mapped f g xs) ∙ front_mapped g (f x) (map_all f xs)

-- the reason of a refusal
pub fails_as : {A B : Type 0} (f : A → B) (o : Option B) (e : Refusal) (result : Result A Refusal)
    → IsErr result × IsErrAnd result (λ f. f ≡ e) → Fails o e → Evaluated f o result
fails_as f o e (Ok x) h k = absurd cc
fails_as f o e (Err why) h k = subst (Fails o) (sym h.1) k

inside : {B : Type 0} (us vs : List B) → Some us ≡ Some vs → us ≡ vs
inside us vs e = cc

-- the values, where there are rows
pub there_mapped : {A B : Type 0} (g : A → B) (o : Option (List A)) (ys : List B) → option_map (map g) o ≡ Some ys
    → (xs : List A) × ((o ≡ Some xs) × (ys ≡ map g xs))
there_mapped g None ys e = absurd cc
there_mapped g (Some xs) ys e = (xs, (refl, sym (inside (map g xs) ys e)))

-- without rows there are no values
pub lacks_mapped : {A B : Type 0} (g : A → B) (o : Option (List A)) (e : Refusal) → Fails (option_map (map g) o) e
    → Fails o e
lacks_mapped g None r.OutOfMemory f = tt
lacks_mapped g None r.ValueOutOfRange f = refl
lacks_mapped g None _ f = absurd f
lacks_mapped g (Some xs) r.OutOfMemory f = tt
lacks_mapped g (Some xs) r.ValueOutOfRange f = absurd cc
lacks_mapped g (Some xs) _ f = absurd f
