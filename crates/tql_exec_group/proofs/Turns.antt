-- The items of two lists, of which the first have had their turn.
use Rattle.std.specs.Prelude.{◌≡◌, ℕ, zero, suc, ◌+◌, ◌<◌, ◌≤◌, List, [], ◌∷◌, ◌++◌, length, slice_index_or, ⊤}
use Rattle.std.specs.List.{AllZip}
use Rattle.std.proofs.Common.{sym, subst, arith, set, take}
use Rattle.std.proofs.lemmas.List.{take_more}
use Rattle.std.proofs.lemmas.Slice.Zip.{all_zipped_more}

module _ {A B : Type 0} (R : A → B → Type 0) where
  -- one more pair at the end, whichever the first item is
  pub one_begun : (n : ℕ) (xs : List A) (ys zs : List B) (y : B) → n < length xs → ((x : A) → R x y)
      → zs ≡ ys ++ y ∷ [] → AllZip R (take n xs) ys → AllZip R (take (n + 1) xs) zs
  one_begun n [] ys zs y l each is h = absurd (omega arith)
  one_begun n (x ∷ xs) ys zs y l each is h =
      let w = slice_index_or (x ∷ xs) n x in
      subst (λ ws. AllZip R ws zs) (sym (take_more (x ∷ xs) n x l))
      (subst (AllZip R (take n (x ∷ xs) ++ w ∷ [])) (sym is)
      (all_zipped_more R (take n (x ∷ xs)) ys w y h (each w)))

-- S holds of the first n pairs, R of the others
module _ {A B : Type 0} (R S : A → B → Type 0) where
  abbrev pub AllTurned : ℕ → List A → List B → Type 0
  AllTurned zero xs ys = AllZip R xs ys
  AllTurned (suc n) [] [] = ⊤
  AllTurned (suc n) [] (y ∷ ys) = ⊥
  AllTurned (suc n) (x ∷ xs) [] = ⊥
  AllTurned (suc n) (x ∷ xs) (y ∷ ys) = S x y × AllTurned n xs ys

  next_turned : (n : ℕ) (xs : List A) (ys : List B) (x : A) (y z : B) → n < length xs → x ≡ slice_index_or xs n x
      → n < length ys → y ≡ slice_index_or ys n y → (R x y → S x z) → AllTurned n xs ys
      → AllTurned (suc n) xs (set ys n z)
  next_turned n [] ys x y z l is m at next h = absurd (omega arith)
  next_turned n (w ∷ xs) [] x y z l is m at next h = absurd (omega arith)
  next_turned zero (w ∷ xs) (v ∷ ys) x y z l is m at next h =
      (subst (λ q. S q z) is (next (subst (λ q. R q y) (sym is) (subst (R w) (sym at) h.0))), h.1)
  next_turned (suc n) (w ∷ xs) (v ∷ ys) x y z l is m at next h =
      (h.0, next_turned n xs ys x y z (omega arith) is (omega arith) at next h.1)

  -- one more pair has its turn
  pub one_turned : (n : ℕ) (xs : List A) (ys : List B) (x : A) (y z : B) → n < length xs → x ≡ slice_index_or xs n x
      → n < length ys → y ≡ slice_index_or ys n y → (R x y → S x z) → AllTurned n xs ys
      → AllTurned (n + 1) xs (set ys n z)
  one_turned n xs ys x y z l is m at next h =
      let e : suc n ≡ n + 1 = omega arith in
      subst (λ k. AllTurned k xs (set ys n z)) e (next_turned n xs ys x y z l is m at next h)

  -- all have had it
  pub all_turned : (n : ℕ) (xs : List A) (ys : List B) → length ys ≤ n → AllTurned n xs ys → AllZip S xs ys
  all_turned zero [] [] l h = tt
  all_turned zero (x ∷ xs) [] l h = absurd h
  all_turned zero xs (y ∷ ys) l h = absurd (omega arith)
  all_turned (suc n) [] [] l h = tt
  all_turned (suc n) [] (y ∷ ys) l h = absurd h
  all_turned (suc n) (x ∷ xs) [] l h = absurd h
  all_turned (suc n) (x ∷ xs) (y ∷ ys) l h = (h.0, all_turned n xs ys (omega arith) h.1)
