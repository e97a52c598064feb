-- Texts separated by a comma and a blank.
use Rattle.std.proofs.Common.{◌≡◌, ℕ, List, [], ◌∷◌, ◌++◌, ◌∙◌, ap, map, refl}
use Rattle.std.proofs.lemmas.List.Folds.{flat_map-map}
use Rattle.std.specs.List.{flat_map}
use Rattle.tql_result_laws.specs.Json.{parted}

-- separated texts are the first text, and a comma, a blank and the text of each other element
pub parted_views : {X Y : Type 0} (f : Y → List ℕ) (v : X → Y) (x : X) (xs : List X)
    → parted (map f (map v (x ∷ xs))) ≡ f (v x) ++ flat_map (λ y. 44 ∷ 32 ∷ f (v y)) xs
parted_views f v x xs =
    ap (λ l. f (v x) ++ l)
    (flat_map-map (λ y. 44 ∷ 32 ∷ y) f (map v xs) ∙ flat_map-map (λ y. 44 ∷ 32 ∷ f y) v xs)

-- the same for a list split after its first element
pub parted_parts : {X Y : Type 0} (f : Y → List ℕ) (v : X → Y) (all : List X) (x : X) (xs : List X) (piece : List ℕ)
    → all ≡ x ∷ xs → f (v x) ≡ piece
    → parted (map f (map v all)) ≡ piece ++ flat_map (λ y. 44 ∷ 32 ∷ f (v y)) xs
parted_parts f v all x xs piece e p = ap (λ l. parted (map f (map v l))) e ∙ parted_views f v x xs
    ∙ ap (λ t. t ++ flat_map (λ y. 44 ∷ 32 ∷ f (v y)) xs) p

-- separated texts, with `front` before the first
abbrev pub parted_after : List ℕ → List (List ℕ) → List ℕ
parted_after front [] = []
parted_after front (x ∷ xs) = (front ++ x) ++ flat_map (λ y. 44 ∷ 32 ∷ y) xs

pub parted_after_none : (xs : List (List ℕ)) → parted_after [] xs ≡ parted xs
parted_after_none [] = refl
parted_after_none (x ∷ xs) = refl

after_comma : (xs : List (List ℕ)) → flat_map (λ y. 44 ∷ 32 ∷ y) xs ≡ parted_after (44 ∷ 32 ∷ []) xs
after_comma [] = refl
after_comma (x ∷ xs) = refl

pub parted_after_more : (front x : List ℕ) (xs : List (List ℕ))
    → parted_after front (x ∷ xs) ≡ (front ++ x) ++ parted_after (44 ∷ 32 ∷ []) xs
parted_after_more front x xs = ap (λ l. (front ++ x) ++ l) (after_comma xs)
