-- A list without its generated positions, by removals and by numbers.
use Rattle.std.specs.Prelude.{◌≡◌, refl, ℕ, zero, suc, ◌+◌, ◌<◌, ◌≤◌, ◌≢◌, Bool, true, false, not, cond, ◌&&◌, ◌||◌}
use Rattle.std.specs.Prelude.{◌==◌, nat_lt, List, [], ◌∷◌, map, filter, length, remove, slice_index_or, Option, Some}
use Rattle.std.specs.Prelude.{None, if◌then◌else◌}
use Rattle.std.specs.List.{range_with_len}
use Rattle.std.proofs.Common.{sym, ap, ◌∙◌, arith, eq-eqb, ne_eqb}
use Rattle.std.proofs.lemmas.List.Edits.{length-remove}
use borrow.Author.Tests.{ltb-true, ltb-false}
use Rattle.tql_spec.specs.Definition.{System}
use Rattle.tql_spec.specs.Creation.{has_number}
use Rattle.tql_spec.specs.Binding.{generated_columns}
use Rattle.tql_catalog.specs.Rows.{has_system}

-- the list without the positions that pass a test, counted from a
abbrev pub except : {X : Type 0} → (ℕ → Bool) → ℕ → List X → List X
except t a [] = []
except t a (x ∷ xs) = if t a then except t (a + 1) xs else x ∷ except t (a + 1) xs

picked : {X : Type 0} (t : ℕ → Bool) (f : ℕ → X) (z : X) (a : ℕ) (xs : List X)
    → ((k : ℕ) → k < length xs → f (a + k) ≡ slice_index_or xs k z)
    → map f (filter (λ i. not (t i)) (range_with_len a (length xs))) ≡ except t a xs
picked t f z a [] h = refl
picked {X} t f z a (x ∷ xs) h =
    let is : List ℕ = filter (λ i. not (t i)) (range_with_len (a + 1) (length xs)) in
    let here : f a ≡ x = ap f (omega arith) ∙ h 0 (omega arith) in
    let rest : map f is ≡ except t (a + 1) xs = picked t f z (a + 1) xs (λ k l. ap f (omega arith)
    ∙ h (suc k) (omega arith)) in
    elim (t a) as (λ b. map f (cond (not b) (a ∷ is) is) ≡
    (if b then except t (a + 1) xs else x ∷ except t (a + 1) xs)) [
      | true ↦ rest
      | false ↦ λ i. here i ∷ rest i
    ]

-- a test that no position passes
none_told : {X : Type 0} (t : ℕ → Bool) (a : ℕ) (xs : List X) → ((k : ℕ) → t (a + k) ≡ false) → xs ≡ except t a xs
none_told t a [] h = refl
none_told t a (x ∷ xs) h =
    let here : t a ≡ false = ap t (omega arith) ∙ h 0 in
    rw here (ap (λ ys. x ∷ ys) (none_told t (a + 1) xs (λ k. ap t (omega arith) ∙ h (suc k))))

-- a test that one position passes
one_told : {X : Type 0} (t : ℕ → Bool) (a k : ℕ) (xs : List X) → k < length xs → t (a + k) ≡ true
    → ((j : ℕ) → j ≢ k → t (a + j) ≡ false)
    → remove xs k ≡ except t a xs
one_told t a k [] l e h = absurd (omega arith)
one_told t a zero (x ∷ xs) l e h =
    let here : t a ≡ true = ap t (omega arith) ∙ e in
    rw here (none_told t (a + 1) xs (λ k. ap t (omega arith) ∙ h (suc k) (λ q. omega arith)))
one_told t a (suc k) (x ∷ xs) l e h =
    let here : t a ≡ false = ap t (omega arith) ∙ h 0 (λ q. omega arith) in
    rw here (ap (λ ys. x ∷ ys) (one_told t (a + 1) k xs (omega arith) (ap t (omega arith)
    ∙ e) (λ j q. ap t (omega arith) ∙ h (suc j) (λ r. q (omega arith)))))

-- a test that two positions pass
two_told : {X : Type 0} (t : ℕ → Bool) (a i j : ℕ) (xs : List X) → i < j → j < length xs → t (a + i) ≡ true
    → t (a + j) ≡ true
    → ((k : ℕ) → k ≢ i → k ≢ j → t (a + k) ≡ false) → remove (remove xs j) i ≡ except t a xs
two_told t a i j [] l m e f h = absurd (omega arith)
two_told t a i zero (x ∷ xs) l m e f h = absurd (omega arith)
two_told t a zero (suc j) (x ∷ xs) l m e f h =
    let here : t a ≡ true = ap t (omega arith) ∙ e in
    rw here (one_told t (a + 1) j xs (omega arith) (ap t (omega arith) ∙ f) (λ k q. ap t (omega arith)
    ∙ h (suc k) (λ r. omega arith) (λ r. q (omega arith))))
two_told t a (suc i) (suc j) (x ∷ xs) l m e f h =
    let here : t a ≡ false = ap t (omega arith) ∙ h 0 (λ q. omega arith) (λ q. omega arith) in
    rw here (ap (λ ys. x ∷ ys) (two_told t (a + 1) i j xs (omega arith) (omega arith) (ap t (omega arith)
    ∙ e) (ap t (omega arith) ∙ f)
    (λ k q r. ap t (omega arith) ∙ h (suc k) (λ s. q (omega arith)) (λ s. r (omega arith)))))

-- ---- the generated positions

-- the columns of a system period are two of `width` columns
pub record Within (s : System) (width : ℕ) : Type 0 where
  pub start : s.start < width
  pub end : s.end < width
  pub apart : s.start ≢ s.end

pub and_left : (a b : Bool) → a && b ≡ true → a ≡ true
and_left true b h = refl
and_left false b h = h

pub and_right : (a b : Bool) → a && b ≡ true → b ≡ true
and_right true b h = h
and_right false b h = absurd cc

pub not_is : (b : Bool) → not b ≡ true → b ≡ false
not_is true h = absurd cc
not_is false h = refl

pub within : (s : System) (width : ℕ) → has_system (Some s) width ≡ true → Within s width
within s width h = record {
  start = ltb-true s.start width (and_left _ _ (and_left _ _ h));
  end = ltb-true s.end width (and_right _ _ (and_left (nat_lt s.start width && nat_lt s.end width) _ h));
  apart = λ e. let same : (s.start == s.end) ≡ true = eq-eqb s.start s.end e in
      let other : (s.start == s.end) ≡ false =
      not_is (s.start == s.end) (and_right (nat_lt s.start width && nat_lt s.end width) _ h) in absurd cc;
}

-- the list without the generated positions
abbrev pub kept : {X : Type 0} → Option System → List X → List X
kept None xs = xs
kept (Some s) xs = if nat_lt s.start s.end then remove (remove xs s.end) s.start else remove (remove xs s.start) s.end

told_start : (s : System) (i : ℕ) → i ≡ s.start → has_number i (generated_columns (Some s)) ≡ true
told_start s i e = rw (eq-eqb i s.start e) refl

or_true : (b : Bool) → b || (true || false) ≡ true
or_true true = refl
or_true false = refl

told_end : (s : System) (i : ℕ) → i ≡ s.end → has_number i (generated_columns (Some s)) ≡ true
told_end s i e = rw (eq-eqb i s.end e) (or_true (i == s.start))

not_told : (s : System) (i : ℕ) → i ≢ s.start → i ≢ s.end → has_number i (generated_columns (Some s)) ≡ false
not_told s i p q = rw (ne_eqb i s.start p, ne_eqb i s.end q) refl

kept_of : {X : Type 0} (s : System) (xs : List X) (b : Bool) → nat_lt s.start s.end ≡ b → Within s (length xs)
    → (if b then remove (remove xs s.end) s.start else remove (remove xs s.start) s.end) ≡ except
    (λ i. has_number i (generated_columns (Some s))) 0 xs
kept_of s xs true e w =
    two_told (λ i. has_number i (generated_columns (Some s))) 0 s.start s.end xs (ltb-true s.start s.end e) w.end
    (told_start s (0 + s.start) (omega arith)) (told_end s (0 + s.end) (omega arith))
    (λ k p q. not_told s (0 + k) (λ r. p (omega arith)) (λ r. q (omega arith)))
kept_of s xs false e w =
    let most : s.end ≤ s.start = ltb-false s.start s.end e in
    let apart : s.start ≢ s.end = w.apart in
    let le : s.end < s.start = omega arith in
    two_told (λ i. has_number i (generated_columns (Some s))) 0 s.end s.start xs le w.start
    (told_end s (0 + s.end) (omega arith)) (told_start s (0 + s.start) (omega arith))
    (λ k p q. not_told s (0 + k) (λ r. q (omega arith)) (λ r. p (omega arith)))

-- the kept elements are those at the positions that are not generated
pub kept_law : {X : Type 0} (z : X) (s : Option System) (xs : List X) → has_system s (length xs) ≡ true
    → kept s xs ≡ map (λ i. slice_index_or xs i z)
    (filter (λ i. not (has_number i (generated_columns s))) (range_with_len 0 (length xs)))
kept_law z None xs h =
    none_told (λ i. false) 0 xs (λ k. refl)
    ∙ sym (picked (λ i. false) (λ i. slice_index_or xs i z) z 0 xs
    (λ k l. ap (λ i. slice_index_or xs i z) (omega arith)))
kept_law z (Some s) xs h =
    kept_of s xs (nat_lt s.start s.end) refl (within s (length xs) h)
    ∙ sym (picked (λ i. has_number i (generated_columns (Some s))) (λ i. slice_index_or xs i z) z 0 xs
    (λ k l. ap (λ i. slice_index_or xs i z) (omega arith)))

-- two of the positions are generated
pub two_less : {X : Type 0} (s : System) (xs : List X) (b : Bool) → nat_lt s.start s.end ≡ b → Within s (length xs)
    → length (if b then remove (remove xs s.end) s.start else remove (remove xs s.start) s.end) + 2 ≡ length xs
two_less s xs true h w =
    let l : s.start < s.end = ltb-true s.start s.end h in
    let n = length-remove xs s.end w.end in
    let o = length-remove (remove xs s.end) s.start (omega arith) in omega arith
two_less s xs false h w =
    let most : s.end ≤ s.start = ltb-false s.start s.end h in
    let apart : s.start ≢ s.end = w.apart in
    let n = length-remove xs s.start w.start in
    let o = length-remove (remove xs s.start) s.end (omega arith) in omega arith
