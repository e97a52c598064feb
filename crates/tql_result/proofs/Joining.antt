-- The concatenated texts of the elements of a list.
use Rattle.std.proofs.Common.{◌≡◌, ℕ, ◌+◌, ◌<◌, List, [], ◌∷◌, ◌++◌, sym, ◌∙◌, ap, subst, drop, length, get_or, map}
use Rattle.std.specs.Prelude.{All}
use Rattle.std.proofs.lemmas.List.{append-nil, drop_more, get_or-map, length-map}
use Rattle.std.proofs.lemmas.List.Folds.{flat_map-map}
use Rattle.std.specs.List.{flat_map, join_with_byte}

-- the texts from element i on are the text of that element and those of the next elements
pub flat_map_next : {X : Type 0} (f : X → List ℕ) (xs : List X) (i : ℕ) (x : X) (piece : List ℕ) → i < length xs
    → x ≡ get_or xs i x → f x ≡ piece → flat_map f (drop i xs) ≡ piece ++ flat_map f (drop (i + 1) xs)
flat_map_next f xs i x piece h e p = ap (flat_map f) (drop_more xs i x h ∙ ap (λ y. y ∷ drop (i + 1) xs) (sym e))
    ∙ ap (λ l. l ++ flat_map f (drop (i + 1) xs)) p

-- joined texts are the first text, and the separator and text of each other element
pub joined_map : {X : Type 0} (f : X → List ℕ) (c : ℕ) (x : X) (xs : List X)
    → join_with_byte c (map f (x ∷ xs)) ≡ f x ++ flat_map (λ y. c ∷ f y) xs
joined_map f c x [] = sym (append-nil (f x))
joined_map f c x (y ∷ ys) = ap (λ l. f x ++ (c ∷ l)) (joined_map f c y ys)

-- the same for images of the elements
pub joined_views : {X Y : Type 0} (f : Y → List ℕ) (v : X → Y) (c : ℕ) (x : X) (xs : List X)
    → join_with_byte c (map f (map v (x ∷ xs))) ≡ f (v x) ++ flat_map (λ y. c ∷ f (v y)) xs
joined_views f v c x xs = joined_map f c (v x) (map v xs) ∙ ap (λ l. f (v x) ++ l) (flat_map-map (λ y. c ∷ f y) v xs)

-- the same for a list split after its first element
pub joined_parts : {X Y : Type 0} (f : Y → List ℕ) (v : X
    → Y) (c : ℕ) (all : List X) (x : X) (xs : List X) (piece : List ℕ) → all ≡ x ∷ xs → f (v x) ≡ piece
    → join_with_byte c (map f (map v all)) ≡ piece ++ flat_map (λ y. c ∷ f (v y)) xs
joined_parts f v c all x xs piece e p = ap (λ l. join_with_byte c (map f (map v l))) e ∙ joined_views f v c x xs
    ∙ ap (λ t. t ++ flat_map (λ y. c ∷ f (v y)) xs) p

-- a property of all images of the elements
pub all_unmapped : {X Y : Type 0} (P : Y → Type 0) (v : X → Y) (xs : List X) → All P (map v xs) → All (λ x. P (v x)) xs
all_unmapped P v xs all = λ k d h. subst P (get_or-map v xs k d (v d) h) (all k (v d) (rw length-map h))
