-- How many members of a list pass a test.
use Rattle.std.specs.Prelude.{◌≡◌, refl, ℕ, zero, suc, ◌+◌, ◌<◌, ◌≤◌, Bool, true, false, List, [], ◌∷◌, ◌++◌}
use Rattle.std.specs.Prelude.{count_by, length, Contains, ◌⊎◌}
use Rattle.std.proofs.Common.{arith, cond, subst, get_or, inl, inr}
use Rattle.std.proofs.lemmas.List.Sums.{sum_by-cons, sum_by-append, count_by-le-length}

-- one if the test passes, else zero
abbrev pub bit : Bool → ℕ
bit b = cond b 1 0

pub bit_none : (b : Bool) → bit b ≡ 0 → b ≡ false
bit_none true h = absurd (omega (arith, h))
bit_none false h = refl

pub bit_of_none : (b : Bool) → b ≡ false → bit b ≡ 0
bit_of_none b h = rw h refl

pub bit_one : (b : Bool) → 1 ≤ bit b → b ≡ true
bit_one true h = refl
bit_one false h = absurd (omega (arith, h))

pub bit_of_one : (b : Bool) → b ≡ true → bit b ≡ 1
bit_of_one b h = rw h refl

pub count-cons : {X : Type 0} (p : X → Bool) (x : X) (xs : List X) → count_by p (x ∷ xs) ≡ bit (p x) + count_by p xs
count-cons p x xs = sum_by-cons (λ y. cond (p y) 1 0) x xs

pub count-append : {X : Type 0} (p : X → Bool) (xs ys : List X) → count_by p (xs ++ ys) ≡ count_by p xs + count_by
    p ys
count-append p xs ys = sum_by-append (λ y. cond (p y) 1 0) xs ys

-- if none passes a test, none passes a test that implies it
pub none_weaker : {X : Type 0} (p q : X → Bool) → ((x : X) → p x ≡ false → q x ≡ false) → (xs : List X)
    → count_by p xs ≡ 0 → count_by q xs ≡ 0
none_weaker p q f [] h = refl
none_weaker p q f (x ∷ xs) h =
    let c = count-cons p x xs in
    let b = f x (bit_none (p x) (omega (arith, c, h))) in
    omega (arith, count-cons q x xs, bit_of_none (q x) b, none_weaker p q f xs (omega (arith, c, h)))

at_most_one : (b : Bool) → bit b ≤ 1
at_most_one true = omega arith
at_most_one false = omega arith

-- if all pass a test, none passes a test that it excludes
pub none_if_all : {X : Type 0} (p q : X → Bool) → ((x : X) → p x ≡ true → q x ≡ false) → (xs : List X)
    → count_by p xs ≡ length xs → count_by q xs ≡ 0
none_if_all p q f [] h = refl
none_if_all p q f (x ∷ xs) h =
    let c = count-cons p x xs in
    let m = count_by-le-length p xs in
    let n = at_most_one (p x) in
    let b = f x (bit_one (p x) (omega (arith, c, h, m))) in
    omega (arith, count-cons q x xs, bit_of_none (q x) b, none_if_all p q f xs (omega (arith, c, h, m, n)))

-- ---- members

-- a member of a list in which none passes does not pass
pub member_none : {X : Type 0} (p : X → Bool) (xs : List X) (x : X) → count_by p xs ≡ 0 → Contains xs x → p x ≡ false
member_none p [] x h (k, l, e) = absurd (omega (arith, l))
member_none p (y ∷ xs) x h (zero, l, e) =
    subst (λ z. p z ≡ false) e (bit_none (p y) (omega (arith, count-cons p y xs, h)))
member_none p (y ∷ xs) x h (suc k, l, e) = member_none p xs x (omega (arith, count-cons p y xs, h))
    (k, omega arith, e)

-- a member of a list in which all pass passes
pub member_all : {X : Type 0} (p : X → Bool) (xs : List X) (x : X) → count_by p xs ≡ length xs → Contains xs x
    → p x ≡ true
member_all p [] x h (k, l, e) = absurd (omega (arith, l))
member_all p (y ∷ xs) x h (zero, l, e) =
    let m = count_by-le-length p xs in
    subst (λ z. p z ≡ true) e (bit_one (p y) (omega (arith, count-cons p y xs, h, m)))
member_all p (y ∷ xs) x h (suc k, l, e) =
    let m = count_by-le-length p xs in
    let n = at_most_one (p y) in
    member_all p xs x (omega (arith, count-cons p y xs, h, m, n)) (k, omega arith, e)

pub either : {X : Type 0} (y x : X) (xs : List X) → Contains (y ∷ xs) x → (y ≡ x) ⊎ Contains xs x
either y x xs (zero, l, e) = inl e
either y x xs (suc k, l, e) = inr (k, omega arith, e)

pub first_of_some : {X : Type 0} (x : X) (xs : List X) → Contains (x ∷ xs) x
first_of_some x xs = (zero, omega arith, refl)

pub later_of_some : {X : Type 0} (y x : X) (xs : List X) → Contains xs x → Contains (y ∷ xs) x
later_of_some y x xs (k, l, e) = (suc k, omega arith, e)

pub both : (b : Bool) → b ≡ true → b ≡ false → ⊥
both b h k = absurd (cc)

-- a member that does not pass
pub record Fails {X : Type 0} (p : X → Bool) (xs : List X) : Type 0 where
  pub it : X
  pub is_member : Contains xs it
  pub fails : p it ≡ false

by_first : {X : Type 0} (p : X → Bool) (x : X) (xs : List X) (b : Bool) → p x ≡ b → (b ≡ true → Fails p xs)
    → Fails p (x ∷ xs)
by_first p x xs true h f =
    let r = f refl in record { it = r.it; is_member = later_of_some x r.it xs r.is_member; fails = r.fails }
by_first p x xs false h f = record { it = x; is_member = first_of_some x xs; fails = h }

pub some_fails : {X : Type 0} (p : X → Bool) (xs : List X) → count_by p xs < length xs → Fails p xs
some_fails p [] h = absurd (omega (arith, h))
some_fails p (x ∷ xs) h = by_first p x xs (p x) refl
    (λ t. some_fails p xs (omega (arith, h, count-cons p x xs, bit_of_one (p x) t)))

-- a member that passes
pub record Passes {X : Type 0} (p : X → Bool) (xs : List X) : Type 0 where
  pub it : X
  pub is_member : Contains xs it
  pub passes : p it ≡ true

by_first_pass : {X : Type 0} (p : X → Bool) (x : X) (xs : List X) (b : Bool) → p x ≡ b → (b ≡ false → Passes p xs)
    → Passes p (x ∷ xs)
by_first_pass p x xs true h f = record { it = x; is_member = first_of_some x xs; passes = h }
by_first_pass p x xs false h f =
    let r = f refl in record { it = r.it; is_member = later_of_some x r.it xs r.is_member; passes = r.passes }

pub some_passes : {X : Type 0} (p : X → Bool) (xs : List X) → 0 < count_by p xs → Passes p xs
some_passes p [] h = absurd (omega (arith, h))
some_passes p (x ∷ xs) h = by_first_pass p x xs (p x) refl
    (λ t. some_passes p xs (omega (arith, h, count-cons p x xs, bit_of_none (p x) t)))

-- ---- by index

pub all_by_index : {X : Type 0} (p : X → Bool) (xs : List X) (d : X)
    → ((k : ℕ) → k < length xs → p (get_or xs k d) ≡ true) → count_by p xs ≡ length xs
all_by_index p [] d f = refl
all_by_index p (x ∷ xs) d f =
    let t = all_by_index p xs d (λ k l. f (suc k) (omega (arith, l))) in
    omega (arith, count-cons p x xs, bit_of_one (p x) (f zero (omega arith)), t)

pub none_by_index : {X : Type 0} (p : X → Bool) (xs : List X) (d : X)
    → ((k : ℕ) → k < length xs → p (get_or xs k d) ≡ false) → count_by p xs ≡ 0
none_by_index p [] d f = refl
none_by_index p (x ∷ xs) d f =
    let t = none_by_index p xs d (λ k l. f (suc k) (omega (arith, l))) in
    omega (arith, count-cons p x xs, bit_of_none (p x) (f zero (omega arith)), t)

pub one_fails : {X : Type 0} (p : X → Bool) (xs : List X) (k : ℕ) (d : X) → k < length xs → p (get_or xs k d) ≡ false
    → count_by p xs < length xs
one_fails p [] k d l h = absurd (omega (arith, l))
one_fails p (x ∷ xs) zero d l h = omega (arith, count-cons p x xs, bit_of_none (p x) h, count_by-le-length p xs)
one_fails p (x ∷ xs) (suc k) d l h =
    omega (arith, count-cons p x xs, at_most_one (p x), one_fails p xs k d (omega (arith, l)) h)

pub one_passes : {X : Type 0} (p : X → Bool) (xs : List X) (k : ℕ) (d : X) → k < length xs → p (get_or xs k d) ≡ true
    → 0 < count_by p xs
one_passes p [] k d l h = absurd (omega (arith, l))
one_passes p (x ∷ xs) zero d l h = omega (arith, count-cons p x xs, bit_of_one (p x) h)
one_passes p (x ∷ xs) (suc k) d l h = omega (arith, count-cons p x xs, one_passes p xs k d (omega (arith, l)) h)
