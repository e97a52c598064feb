-- The columns that alone are a key or a reference: a test finds the same list among them as among all lists.
use Rattle.std.proofs.Common.{◌≡◌, ◌∙◌, refl, sym, ap, subst, ℕ, ◌+◌, ◌<◌, Bool, true, false, cond, List, [], ◌∷◌}
use Rattle.std.proofs.Common.{◌++◌, append_assoc, map, length, get_or, drop, take, arith}
use Rattle.std.specs.Prelude.{◌||◌, nat_eq, Option, Some, None}
use Rattle.std.specs.List.{find, list_any}
use Rattle.std.specs.Option.{option_or}
use Rattle.std.proofs.lemmas.List.{drop_more, map-append, take_more}
use Rattle.std.proofs.lemmas.List.Folds.{find-append}
use Rattle.std.proofs.lemmas.Bool.Decides.{nat_tests}
use Rattle.tql_plan_access.specs.Choices.{FindsSame, is_single_of, singles}

-- a list without exactly one column does not pass
not_one : (p : ℕ → Bool) (is : List ℕ) → (length is ≡ 1 → ⊥) → is_single_of p is ≡ false
not_one p [] h = refl
not_one p (i ∷ []) h = absurd (h refl)
not_one p (i ∷ j ∷ is) h = refl

-- a list of one column
pub one_of : (is : List ℕ) → length is ≡ 1 → is ≡ get_or is 0 0 ∷ []
one_of [] h = absurd (cc)
one_of (i ∷ []) h = refl
one_of (i ∷ j ∷ is) h = absurd (omega (arith, h))

or_none : (o : Option (List ℕ)) → option_or o None ≡ o
or_none None = refl
or_none (Some is) = refl

-- one more list that does not pass
not_more : (p : ℕ → Bool) (lists : List (List ℕ)) (is : List ℕ) → is_single_of p is ≡ false
    → find (is_single_of p) lists ≡ find (is_single_of p) (lists ++ is ∷ [])
not_more p lists is h =
    sym (find-append (is_single_of p) lists (is ∷ [])
    ∙ ap (λ b. option_or (find (is_single_of p) lists) (cond b (Some is) None)) h
    ∙ or_none (find (is_single_of p) lists))

pub other_more : (lists : List (List ℕ)) (columns is : List ℕ) → (length is ≡ 1 → ⊥) → FindsSame lists columns
    → FindsSame (lists ++ is ∷ []) columns
other_more lists columns is h same p = same p ∙ not_more p lists is (not_one p is h)

-- a list of one more column
pub new_more : (lists : List (List ℕ)) (columns : List ℕ) (k : ℕ) → FindsSame lists columns
    → FindsSame (lists ++ (k ∷ []) ∷ []) (columns ++ k ∷ [])
new_more lists columns k same p =
    ap (find (is_single_of p)) (map-append (λ i. i ∷ []) columns (k ∷ []))
    ∙ find-append (is_single_of p) (singles columns) ((k ∷ []) ∷ [])
    ∙ ap (λ o. option_or o (find (is_single_of p) ((k ∷ []) ∷ []))) (same p)
    ∙ sym (find-append (is_single_of p) lists ((k ∷ []) ∷ []))

is_same : (y k : ℕ) → nat_eq y k ≡ true → y ≡ k
is_same y k h = grind (arith, nat_tests)

-- where no column passes, one of them does not
none_chosen : (p : ℕ → Bool) (columns : List ℕ) (k : ℕ) → list_any (λ y. nat_eq y k) columns ≡ true
    → find (is_single_of p) (singles columns) ≡ None → p k ≡ false
none_chosen p [] k h e = absurd (cc)
none_chosen p (y ∷ ys) k h e =
    by_choice (p y) refl e (nat_eq y k) refl h (λ a b. none_chosen p ys k a b)
  where
    by_choice : (b : Bool) → p y ≡ b → cond b (Some (y ∷ [])) (find (is_single_of p) (singles ys)) ≡ None
        → (s : Bool) → nat_eq y k ≡ s → (s || list_any (λ z. nat_eq z k) ys) ≡ true
        → (list_any (λ z. nat_eq z k) ys ≡ true → find (is_single_of p) (singles ys) ≡ None → p k ≡ false)
        → p k ≡ false
    by_choice true g e s t h later = absurd (cc)
    by_choice false g e true t h later = subst (λ i. p i ≡ false) (is_same y k t) g
    by_choice false g e false t h later = later h e

-- a list of a column that is there
pub known_more : (lists : List (List ℕ)) (columns : List ℕ) (k : ℕ) → list_any (λ y. nat_eq y k) columns ≡ true
    → FindsSame lists columns → FindsSame (lists ++ (k ∷ []) ∷ []) columns
known_more lists columns k h same p =
    by_found (find (is_single_of p) (singles columns)) refl (p k) (none_chosen p columns k h)
    ∙ ap (λ o. option_or o (cond (p k) (Some (k ∷ [])) None)) (same p)
    ∙ sym (find-append (is_single_of p) lists ((k ∷ []) ∷ []))
  where
    by_found : (o : Option (List ℕ)) → find (is_single_of p) (singles columns) ≡ o → (b : Bool)
        → (find (is_single_of p) (singles columns) ≡ None → b ≡ false)
        → o ≡ option_or o (cond b (Some (k ∷ [])) None)
    by_found (Some is) e b f = refl
    by_found None e true f = absurd (let g = f e in cc)
    by_found None e false f = refl

-- ---- a list of lists, one after another

-- the lists before an element, with it, are those before the next
pub next_lists : {X : Type 0} (f : X → List ℕ) (lists : List (List ℕ)) (xs : List X) (i : ℕ) (x : X)
    → i < length xs → x ≡ get_or xs i x
    → (lists ++ map f (take i xs)) ++ f x ∷ [] ≡ lists ++ map f (take (i + 1) xs)
next_lists f lists xs i x l is =
    append_assoc lists (map f (take i xs)) (f x ∷ [])
    ∙ ap (λ ys. lists ++ ys) (sym (map-append f (take i xs) (x ∷ [])))
    ∙ ap (λ y. lists ++ map f (take i xs ++ y ∷ [])) is
    ∙ ap (λ ys. lists ++ map f ys) (sym (take_more xs i x l))

-- a list that is mapped twice
pub mapped_twice : {X Y : Type 0} (f : X → Y) (g : Y → List ℕ) (xs : List X)
    → map (λ x. g (f x)) xs ≡ map g (map f xs)
mapped_twice f g [] = refl
mapped_twice f g (x ∷ xs) = ap (λ ys. g (f x) ∷ ys) (mapped_twice f g xs)

-- a column at an index that passes the test is the first from there on
pub first_single : (test : List ℕ → Bool) (columns : List ℕ) (i : ℕ) → i < length columns
    → test (get_or columns i 0 ∷ []) ≡ true
    → find test (singles (drop i columns)) ≡ Some (get_or columns i 0 ∷ [])
first_single test columns i l h =
    let k = get_or columns i 0 in
    let rest = find test (singles (drop (i + 1) columns)) in
    ap (λ ks. find test (singles ks)) (drop_more columns i 0 l)
    ∙ ap (λ b. cond b (Some (k ∷ [])) rest) h
