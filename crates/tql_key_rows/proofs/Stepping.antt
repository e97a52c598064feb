-- Tests of the new rows, one position at a time.
use Rattle.std.proofs.Common.{◌≡◌, ◌<◌, ◌≤◌, refl, sym, ap, ◌∙◌, ℕ, ◌+◌, suc, Bool, true, List, [], ◌∷◌, length, drop}
use Rattle.std.proofs.Common.{get_or, add-one}
use Rattle.std.specs.Prelude.{◌&&◌, ℤ}
use Rattle.std.specs.List.{list_all}
use Rattle.std.proofs.Math.Seq.{drop-cons}
use Rattle.std.proofs.lemmas.List.{drop_all}
use Rattle.tql_spec.specs.Datum.{Row}
use Rattle.tql_spec.specs.Definition.{TableDef, shown}
use Rattle.tql_store.specs.Changes.{starting}
use Rattle.tql_key_rows.specs.Asked.{new_rows}

-- a row that starts at a moment, as its table shows it
abbrev pub new_row : TableDef → ℤ → Row → Row
new_row d m v = shown d (starting m v)

-- a test of the new rows is a test of the added ones
pub all_new : (P : Row → Bool) (d : TableDef) (m : ℤ) (rows : List Row)
    → list_all (λ v. P (new_row d m v)) rows ≡ list_all P (new_rows d m rows)
all_new P d m [] = refl
all_new P d m (v ∷ rows) = ap (λ b. P (new_row d m v) && b) (all_new P d m rows)

-- the remaining elements, and one before them
pub one_left : {X : Type 0} (P : X → Bool) (xs : List X) (i : ℕ) (x : X) → i < length xs → x ≡ get_or xs i x
    → list_all P (drop i xs) ≡ P x && list_all P (drop (i + 1) xs)
one_left P xs i x l e =
    ap (list_all P) (drop-cons xs i x l) ∙ ap (λ y. P y && list_all P (drop (suc i) xs)) (sym e)
    ∙ ap (λ n. P x && list_all P (drop n xs)) (sym (add-one i))

-- no element remains
pub none_left : {X : Type 0} (P : X → Bool) (xs : List X) (i : ℕ) → length xs ≤ i → list_all P (drop i xs) ≡ true
none_left P xs i l = ap (list_all P) (drop_all i xs l)

-- the remaining new rows, and one before them
pub left_decides : (F : Row → Bool) (d : TableDef) (m : ℤ) (added : List Row) (i : ℕ) (x row : Row) (b : Bool)
    → i < length added → x ≡ get_or added i x → row ≡ new_row d m x → b ≡ F row
    → list_all F (new_rows d m (drop i added)) ≡ b && list_all F (new_rows d m (drop (i + 1) added))
left_decides F d m added i x row b l e r f =
    sym (all_new F d m (drop i added))
    ∙ one_left (λ v. F (new_row d m v)) added i x l e
    ∙ ap (λ c. c && list_all (λ v. F (new_row d m v)) (drop (i + 1) added)) (sym (f ∙ ap F r))
    ∙ ap (λ c. b && c) (all_new F d m (drop (i + 1) added))

pub left_none : (F : Row → Bool) (d : TableDef) (m : ℤ) (added : List Row) (i : ℕ) → length added ≤ i
    → list_all F (new_rows d m (drop i added)) ≡ true
left_none F d m added i l = sym (all_new F d m (drop i added)) ∙ none_left (λ v. F (new_row d m v)) added i l
