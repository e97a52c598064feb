-- Tests of the keys, or the references, of a table, each by its index and all together.
use Rattle.std.proofs.Common.{◌≡◌, ◌<◌, sym, ap, ◌∙◌, ℕ, ◌+◌, zero, suc, Bool, true, List, [], ◌∷◌, map, length, drop}
use Rattle.std.proofs.Common.{get_or, arith}
use Rattle.std.specs.Prelude.{◌&&◌}
use Rattle.std.specs.List.{list_all}
use Rattle.tql_spec.proofs.Members.{both}
use Rattle.tql_key_rows.proofs.Bools.{all_map}
use Rattle.tql_key_rows.proofs.Stepping.{one_left}

module _ {A B : Type 0} (f : A → B) (P : B → Bool) (all : List B) (items : List A) (parts : map f items ≡ all) where
  -- if all pass, each one does
  pub part_in : (i : ℕ) (x : A) → i < length items → x ≡ get_or items i x → list_all P all ≡ true → P (f x) ≡ true
  part_in i x l e h = at items i l e (ap (list_all P) parts ∙ h)
    where
      at : (xs : List A) (j : ℕ) → j < length xs → x ≡ get_or xs j x → list_all P (map f xs) ≡ true → P (f x) ≡ true
      at [] j m q t = absurd (omega arith)
      at (y ∷ xs) zero m q t = ap (λ z. P (f z)) q ∙ (both (P (f y)) (list_all P (map f xs)) t).0
      at (y ∷ xs) (suc j) m q t = at xs j (omega arith) q (both (P (f y)) (list_all P (map f xs)) t).1

  -- the result depends on the remaining ones
  pub parts_decide : (i : ℕ) (x : A) (b : Bool) → i < length items → x ≡ get_or items i x → b ≡ P (f x)
      → list_all (λ y. P (f y)) (drop i items) ≡ b && list_all (λ y. P (f y)) (drop (i + 1) items)
  parts_decide i x b l e q =
      one_left (λ y. P (f y)) items i x l e
      ∙ ap (λ c. c && list_all (λ y. P (f y)) (drop (i + 1) items)) (sym q)

  -- all of them
  pub parts_all : list_all (λ x. P (f x)) items ≡ list_all P all
  parts_all = sym (all_map P f items) ∙ ap (list_all P) parts
