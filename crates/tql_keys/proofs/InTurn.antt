-- Child rows that are left to the next parent row are tested there.
use Rattle.std.proofs.Common.{◌≡◌, ◌<◌, ◌≤◌, ◌+◌, refl, sym, ap, ◌∙◌, ℕ, zero, suc, Bool, true, false, List, [], ◌∷◌}
use Rattle.std.proofs.Common.{filter, map, length, drop, add-one, arith}
use Rattle.std.specs.Prelude.{◌&&◌, ◌||◌, not}
use Rattle.std.specs.List.{list_all}
use Rattle.std.proofs.lemmas.List.{drop_all}
use Rattle.tql_spec.specs.Bag.{SameBag}
use Rattle.tql_spec.specs.Constraint.{is_met}
use Rattle.tql_spec.specs.Datum.{Row}
use Rattle.tql_spec.specs.Definition.{TableDef, Reference}
use Rattle.tql_spec.proofs.Bags.{same-refl}
use Rattle.tql_spec.proofs.Members.{both, by_bool}
use Rattle.tql_keys.specs.Spared.{are_spared, is_child_of, is_first_spared, is_spared, is_spared_but}
use Rattle.tql_key_rows.proofs.Wheres.{all_where}
use Rattle.tql_keys.proofs.RefLaw.{all_agree}

and_no : (a : Bool) → a && false ≡ false
and_no true = refl
and_no false = refl

-- if all of one kind pass, all of another kind pass exactly if those outside the first kind do
all_but : {A : Type 0} (h k q : A → Bool) (xs : List A) → list_all q (filter k xs) ≡ true
    → list_all (λ x. k x || q x) (filter h xs) ≡ list_all q (filter h xs)
all_but h k q xs e =
    all_where h (λ x. k x || q x) xs
    ∙ all_agree (λ x. not (k x) || q x) (λ x. not (h x) || (k x || q x)) (λ x. not (h x) || q x) xs
    (sym (all_where k q xs) ∙ e)
    (λ x w. ap (λ b. not (h x) || b) (turned (k x) (q x) w))
    ∙ sym (all_where h q xs)
  where
    turned : (a b : Bool) → not a || b ≡ true → a || b ≡ b
    turned true b w = sym w
    turned false b w = refl

-- if the child rows of the later parent rows are met, those need not be tested again
but_spared : (c p : TableDef) (f : Reference) (ps rows gs : List Row) (g : Row)
    → list_all (is_spared c p f ps rows) gs ≡ true → is_spared_but c p f ps rows gs g ≡ is_spared c p f ps rows g
but_spared c p f ps rows [] g e = refl
but_spared c p f ps rows (n ∷ gs) g e =
    all_but (is_child_of c p f g) (is_child_of c p f n) (is_met c p f ps) rows
    (both (is_spared c p f ps rows n) (list_all (is_spared c p f ps rows) gs) e).0

-- a list is the same bag as itself
pub same_rows : (rows : List Row) → SameBag rows rows
same_rows rows = same-refl rows

-- the child rows of all parent rows are met exactly if they are when tested in order
pub spared_in_turn : (c p : TableDef) (f : Reference) (ps rows gs : List Row)
    → are_spared c p f ps rows gs ≡ list_all (is_spared c p f ps rows) gs
spared_in_turn c p f ps rows [] = refl
spared_in_turn c p f ps rows (g ∷ gs) =
    ap (λ b. is_spared_but c p f ps rows gs g && b) (spared_in_turn c p f ps rows gs)
    ∙ by_bool (list_all (is_spared c p f ps rows) gs)
    (λ y. ap (λ b. b && list_all (is_spared c p f ps rows) gs) (but_spared c p f ps rows gs g y))
    (λ n. ap (λ b. is_spared_but c p f ps rows gs g && b) n ∙ and_no (is_spared_but c p f ps rows gs g)
    ∙ sym (ap (λ b. is_spared c p f ps rows g && b) n ∙ and_no (is_spared c p f ps rows g)))

-- the child rows of the remaining parent rows, and of one before them
pub first_left : {A : Type 0} (s : A → Row) (c p : TableDef) (f : Reference) (ps rows : List Row) (xs : List A) (i : ℕ)
    → i < length xs
    → are_spared c p f ps rows (map s (drop i xs))
    ≡ is_first_spared c p f ps rows (map s (drop i xs)) && are_spared c p f ps rows (map s (drop (i + 1) xs))
first_left s c p f ps rows xs i l =
    from xs i l
    ∙ ap (λ n. is_first_spared c p f ps rows (map s (drop i xs)) && are_spared c p f ps rows (map s (drop n xs)))
    (sym (add-one i))
  where
    from : (ys : List _) (k : ℕ) → k < length ys
        → are_spared c p f ps rows (map s (drop k ys))
        ≡ is_first_spared c p f ps rows (map s (drop k ys)) && are_spared c p f ps rows (map s (drop (suc k) ys))
    from [] k m = absurd (omega arith)
    from (y ∷ ys) zero m = refl
    from (y ∷ ys) (suc k) m = from ys k (omega arith)

-- no parent row remains
pub none_left : {A : Type 0} (s : A → Row) (c p : TableDef) (f : Reference) (ps rows : List Row) (xs : List A) (i : ℕ)
    → length xs ≤ i → are_spared c p f ps rows (map s (drop i xs)) ≡ true
none_left s c p f ps rows xs i l = ap (λ ys. are_spared c p f ps rows (map s ys)) (drop_all i xs l)
