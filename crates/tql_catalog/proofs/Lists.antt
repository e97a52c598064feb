-- Tests of lists through the models of their elements.
use Rattle.std.proofs.Common.{◌≡◌, refl, ap, map, List, [], ◌∷◌, Bool}
use Rattle.std.specs.Prelude.{◌||◌, ◌&&◌}
use Rattle.std.specs.List.{list_any, list_all}

pub any_of : {A B : Type 0} (p : B → Bool) (f : A → B) (xs : List A)
    → list_any (λ x. p (f x)) xs ≡ list_any p (map f xs)
any_of p f [] = refl
any_of p f (x ∷ xs) = ap (λ (b : Bool). p (f x) || b) (any_of p f xs)

pub all_of : {A B : Type 0} (p : B → Bool) (f : A → B) (xs : List A)
    → list_all (λ x. p (f x)) xs ≡ list_all p (map f xs)
all_of p f [] = refl
all_of p f (x ∷ xs) = ap (λ (b : Bool). p (f x) && b) (all_of p f xs)
