-- Lists one after another, of which one is read or replaced.
use Rattle.std.specs.Prelude.{◌≡◌, refl, ℕ, zero, suc, ◌+◌, ◌*◌, ◌<◌, ◌≤◌, List, [], ◌∷◌, ◌++◌, length, slice_get}
use Rattle.std.specs.Prelude.{slice_set, Option, Some}
use Rattle.std.specs.List.{AllZip}
use Rattle.std.proofs.Common.{sym, ap, ◌∙◌, arith, drop, subst, take}
use Rattle.std.proofs.Math.Nat.{suc-mul, zero-mul}
use Rattle.std.proofs.lemmas.List.{append-nil, append_assoc, drop_at, length-append, take_at}
use Rattle.tql_exec_group.specs.Grouped.{joined}

pub inside : {X : Type 0} (x y : X) → ◌≡◌ {A = Option X} (Some x) (Some y) → x ≡ y
inside x y e = cc

module _ {X : Type 0} where
  pub parted : (n : ℕ) (parts : List (List X)) (part : List X) → slice_get parts n ≡ Some part
      → joined parts ≡ joined (take n parts) ++ (part ++ joined (drop (suc n) parts))
  parted zero [] part e = absurd (cc)
  parted (suc n) [] part e = absurd (cc)
  parted zero (p ∷ parts) part e = ap (λ q. q ++ joined parts) (inside p part e)
  parted (suc n) (p ∷ parts) part e = ap (λ q. p ++ q) (parted n parts part e)
      ∙ sym (append_assoc p (joined (take n parts)) (part ++ joined (drop (suc n) parts)))

  pub replaced : (n : ℕ) (parts : List (List X)) (part : List X) → n < length parts
      → joined (slice_set parts n part) ≡ joined (take n parts) ++ (part ++ joined (drop (suc n) parts))
  replaced n [] part l = absurd (omega (arith, l))
  replaced zero (p ∷ parts) part l = refl
  replaced (suc n) (p ∷ parts) part l = ap (λ q. p ++ q) (replaced n parts part (omega (arith, l)))
      ∙ sym (append_assoc p (joined (take n parts)) (part ++ joined (drop (suc n) parts)))

  pub joined_more : (parts : List (List X)) (part : List X) → joined (parts ++ part ∷ []) ≡ joined parts ++ part
  joined_more [] part = append-nil part
  joined_more (p ∷ parts) part = ap (λ q. p ++ q) (joined_more parts part) ∙ sym (append_assoc p (joined parts) part)

module _ {A B : Type 0} (R : A → B → Type 0) where
  -- the partner of an item
  pub zip_get : (n : ℕ) (xs : List A) (ys : List B) (x : A) → AllZip R xs ys → slice_get xs n ≡ Some x
      → (y : B) × (slice_get ys n ≡ Some y) × R x y
  zip_get zero [] [] x h e = absurd (cc)
  zip_get (suc n) [] [] x h e = absurd (cc)
  zip_get n [] (y ∷ ys) x h e = absurd h
  zip_get n (w ∷ xs) [] x h e = absurd h
  zip_get zero (w ∷ xs) (y ∷ ys) x h e = (y, refl, subst (λ z. R z y) (inside w x e) h.0)
  zip_get (suc n) (w ∷ xs) (y ∷ ys) x h e = zip_get n xs ys x h.1 e

module _ {A X : Type 0} (R : A → List X → Type 0) (width : ℕ)
    (long : (a : A) (part : List X) → R a part → length part ≡ width) where
  -- where the part with a number begins
  pub long_before : (n : ℕ) (xs : List A) (parts : List (List X)) → AllZip R xs parts → n ≤ length parts
      → length (joined (take n parts)) ≡ n * width
  long_before zero xs parts h l = sym (zero-mul width)
  long_before (suc n) [] [] h l = absurd (omega (arith, l))
  long_before (suc n) [] (p ∷ parts) h l = absurd h
  long_before (suc n) (x ∷ xs) [] h l = absurd h
  long_before (suc n) (x ∷ xs) (p ∷ parts) h l =
      let one = long x p h.0 in
      let rest = long_before n xs parts h.1 (omega (arith, l)) in
      let all = length-append p (joined (take n parts)) in
      omega (arith, one, rest, all, suc-mul n width)

-- ---- a part that is read, or written

module _ {X : Type 0} (before part after all : List X) (a k : ℕ) (flat : all ≡ before ++ (part ++ after))
    (at : length before ≡ a) (long : length part ≡ k) where
  pub part_within : a + k ≤ length all
  part_within = omega (arith, ap length flat, length-append before (part ++ after), length-append part after, at, long)

  rest : drop a all ≡ part ++ after
  rest = ap (drop a) flat ∙ drop_at before (part ++ after) a at

  pub read_part : take k (drop a all) ≡ part
  read_part = ap (take k) rest ∙ take_at part after k long

  pub written_part : (new : List X) → take a all ++ (new ++ drop k (drop a all)) ≡ before ++ (new ++ after)
  written_part new = λ i. first i ++ (new ++ last i)
    where
      first : take a all ≡ before
      first = ap (take a) flat ∙ take_at before (part ++ after) a at

      last : drop k (drop a all) ≡ after
      last = ap (drop k) rest ∙ drop_at part after k long
