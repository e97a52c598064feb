-- Tests over lists: conjunction, filter, map and exchange of two quantifiers.
use Rattle.std.proofs.Common.{◌≡◌, refl, sym, ap, ◌∙◌, Bool, true, false, cond, List, [], ◌∷◌, ◌++◌, map, filter}
use Rattle.std.specs.Prelude.{◌&&◌, ◌||◌, not}
use Rattle.std.specs.List.{list_all}
use Rattle.tql_spec.specs.Words.{all_pairs}
use Rattle.tql_spec.proofs.Members.{both}
use Rattle.tql_spec.proofs.Constraints.{and_true}

pub and_assoc : (a b c : Bool) → a && (b && c) ≡ (a && b) && c
and_assoc true b c = refl
and_assoc false b c = refl

pub and_yes : (a : Bool) → a && true ≡ a
and_yes true = refl
and_yes false = refl

pub or_no : (a : Bool) → a || false ≡ a
or_no true = refl
or_no false = refl

-- two tests that imply each other
pub same_bool : (a b : Bool) → (a ≡ true → b ≡ true) → (b ≡ true → a ≡ true) → a ≡ b
same_bool true b h k = sym (h refl)
same_bool false true h k = k refl
same_bool false false h k = refl

-- ---- all

pub all_app : {A : Type 0} (p : A → Bool) (xs ys : List A) → list_all p (xs ++ ys) ≡ list_all p xs && list_all p ys
all_app p [] ys = refl
all_app p (x ∷ xs) ys = ap (λ b. p x && b) (all_app p xs ys) ∙ and_assoc (p x) (list_all p xs) (list_all p ys)

pub all_map : {A B : Type 0} (p : B → Bool) (f : A → B) (xs : List A)
    → list_all p (map f xs) ≡ list_all (λ x. p (f x)) xs
all_map p f [] = refl
all_map p f (x ∷ xs) = ap (λ b. p (f x) && b) (all_map p f xs)

pub all_same : {A : Type 0} (p q : A → Bool) (xs : List A) → ((x : A) → p x ≡ q x) → list_all p xs ≡ list_all q xs
all_same p q xs h = ap (λ (r : _ → Bool). list_all r xs) (λ i x. h x i)

pub all_true : {A : Type 0} (xs : List A) → list_all (λ x. true) xs ≡ true
all_true [] = refl
all_true (x ∷ xs) = all_true xs

-- prepending an element to a filtered list
kept_step : {A : Type 0} (p : A → Bool) (b : Bool) (x : A) (ys : List A) → p x && list_all p ys ≡ true
    → list_all p (cond b (x ∷ ys) ys) ≡ true
kept_step p true x ys h = h
kept_step p false x ys h = (both (p x) (list_all p ys) h).1

pub all_kept : {A : Type 0} (p q : A → Bool) (xs : List A) → list_all p xs ≡ true → list_all p (filter q xs) ≡ true
all_kept p q [] h = refl
all_kept p q (x ∷ xs) h =
    let b = both (p x) (list_all p xs) h in
    kept_step p (q x) x (filter q xs) (and_true (p x) (list_all p (filter q xs)) b.0 (all_kept p q xs b.1))

-- a test of the form "if b then q" over a list is a test of the elements with b
premise_step : {A : Type 0} (q : A → Bool) (b : Bool) (x : A) (ys : List A)
    → not (b && q x) && list_all (λ y. not (q y)) ys ≡ list_all (λ y. not (q y)) (cond b (x ∷ ys) ys)
premise_step q true x ys = refl
premise_step q false x ys = refl

pub all_premised : {A : Type 0} (p q : A → Bool) (xs : List A)
    → list_all (λ x. not (p x && q x)) xs ≡ list_all (λ x. not (q x)) (filter p xs)
all_premised p q [] = refl
all_premised p q (x ∷ xs) =
    ap (λ b. not (p x && q x) && b) (all_premised p q xs) ∙ premise_step q (p x) x (filter p xs)

cross_and : (a b c d : Bool) → (a && b) && (c && d) ≡ (a && c) && (b && d)
cross_and true true c d = refl
cross_and true false true d = refl
cross_and true false false d = refl
cross_and false b c d = refl

pub all_and : {A : Type 0} (p q : A → Bool) (xs : List A)
    → list_all (λ x. p x && q x) xs ≡ list_all p xs && list_all q xs
all_and p q [] = refl
all_and p q (x ∷ xs) =
    ap (λ b. (p x && q x) && b) (all_and p q xs) ∙ cross_and (p x) (q x) (list_all p xs) (list_all q xs)

-- two nested tests over all elements can be exchanged
pub all_swap : {A B : Type 0} (t : A → B → Bool) (xs : List A) (ys : List B)
    → list_all (λ x. list_all (t x) ys) xs ≡ list_all (λ y. list_all (λ x. t x y) xs) ys
all_swap t [] ys = sym (all_true ys)
all_swap t (x ∷ xs) ys =
    ap (λ b. list_all (t x) ys && b) (all_swap t xs ys)
    ∙ sym (all_and (t x) (λ y. list_all (λ z. t z y) xs) ys)

-- ---- pairs

shuffle : (a b p q c : Bool) → (a && b) && (p && (q && c)) ≡ (a && p) && (q && (b && c))
shuffle false b p q c = refl
shuffle true true p q c = refl
shuffle true false false q c = refl
shuffle true false true false c = refl
shuffle true false true true c = refl

pub pairs_app : {A : Type 0} (t : A → A → Bool) (xs ys : List A)
    → all_pairs t (xs ++ ys) ≡ all_pairs t xs && (all_pairs t ys && list_all (λ x. list_all (t x) ys) xs)
pairs_app t [] ys = sym (and_yes (all_pairs t ys))
pairs_app t (x ∷ xs) ys =
    ap (λ b. b && all_pairs t (xs ++ ys)) (all_app (t x) xs ys)
    ∙ ap (λ b. (list_all (t x) xs && list_all (t x) ys) && b) (pairs_app t xs ys)
    ∙ shuffle (list_all (t x) xs) (list_all (t x) ys) (all_pairs t xs) (all_pairs t ys)
    (list_all (λ z. list_all (t z) ys) xs)

pairs_step : {A : Type 0} (t : A → A → Bool) (b : Bool) (x : A) (ys : List A) → list_all (t x) ys ≡ true
    → all_pairs t ys ≡ true → all_pairs t (cond b (x ∷ ys) ys) ≡ true
pairs_step t true x ys h k = and_true (list_all (t x) ys) (all_pairs t ys) h k
pairs_step t false x ys h k = k

pub pairs_kept : {A : Type 0} (t : A → A → Bool) (q : A → Bool) (xs : List A) → all_pairs t xs ≡ true
    → all_pairs t (filter q xs) ≡ true
pairs_kept t q [] h = refl
pairs_kept t q (x ∷ xs) h =
    let b = both (list_all (t x) xs) (all_pairs t xs) h in
    pairs_step t (q x) x (filter q xs) (all_kept (t x) q xs b.0) (pairs_kept t q xs b.1)

pub pairs_map : {A B : Type 0} (t : B → B → Bool) (f : A → B) (xs : List A)
    → all_pairs t (map f xs) ≡ all_pairs (λ x y. t (f x) (f y)) xs
pairs_map t f [] = refl
pairs_map t f (x ∷ xs) =
    ap (λ b. b && all_pairs t (map f xs)) (all_map (t (f x)) f xs)
    ∙ ap (λ b. list_all (λ y. t (f x) (f y)) xs && b) (pairs_map t f xs)
