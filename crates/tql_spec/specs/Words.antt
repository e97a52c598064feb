-- Small functions on lists and options that the other modules share.
use Rattle.std.specs.Prelude.{ℕ, Bool, true, false, ◌&&◌, List, [], ◌∷◌, ◌++◌, Option, Some, None}
use Rattle.std.specs.List.{list_all}
use Rattle.std.specs.Ordering.{is_eq as is_equal, nat_cmp}
use Rattle.std.specs.Cmp.Lexicographic.{slice_cmp}

-- applies a function to the value, if there is one
infixl 10 ◌>>=◌
abbrev pub ◌>>=◌ : {A B : Type 0} → Option A → (A → Option B) → Option B
None >>= f = None
(Some x) >>= f = f x

-- the value in front of the list, if both are present
abbrev pub with_front : {A : Type 0} → Option A → Option (List A) → Option (List A)
with_front None xs = None
with_front (Some x) None = None
with_front (Some x) (Some xs) = Some (x ∷ xs)

-- maps f over the list; None if f gives None for some element
abbrev pub map_all : {A B : Type 0} → (A → Option B) → List A → Option (List B)
map_all f [] = Some []
map_all f (x ∷ xs) = with_front (f x) (map_all f xs)

-- the concatenation of the lists
abbrev pub joined : {A : Type 0} → List (List A) → List A
joined [] = []
joined (xs ∷ rest) = xs ++ joined rest

-- whether two texts are the same
abbrev pub same_text : List ℕ → List ℕ → Bool
same_text a b = is_equal (slice_cmp nat_cmp a b)

-- one step of `filter_all`: x before the rest if the test keeps it; None if the test or the rest is None
abbrev pub kept_if : {A : Type 0} → A → Option Bool → Option (List A) → Option (List A)
kept_if x None rest = None
kept_if x (Some keep) None = None
kept_if x (Some true) (Some xs) = Some (x ∷ xs)
kept_if x (Some false) (Some xs) = Some xs

-- the elements that the test keeps; None if it gives None for some element
abbrev pub filter_all : {A : Type 0} → (A → Option Bool) → List A → Option (List A)
filter_all test [] = Some []
filter_all test (x ∷ xs) = kept_if x (test x) (filter_all test xs)

-- whether the test holds for each element and each later one
abbrev pub all_pairs : {A : Type 0} → (A → A → Bool) → List A → Bool
all_pairs test [] = true
all_pairs test (x ∷ xs) = list_all (test x) xs && all_pairs test xs

-- the value of an option as a list of at most one element
abbrev pub listed : {A : Type 0} → Option A → List A
listed None = []
listed (Some x) = x ∷ []

-- whether a list has no element
abbrev pub is_empty : {A : Type 0} → List A → Bool
is_empty [] = true
is_empty _ = false
