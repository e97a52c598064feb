-- Whether some row passes a test: of the found rows that survive, and of the rows of a kind.
use Rattle.std.proofs.Common.{◌≡◌, refl, sym, ap, ◌∙◌, ℕ, Bool, true, false, cond, List, [], ◌∷◌, map, filter}
use Rattle.std.specs.Prelude.{◌&&◌, ◌||◌, not, All, Option, Some}
use Rattle.std.specs.List.{list_all, list_any}
use Rattle.tql_spec.specs.Bag.{SameBag}
use Rattle.tql_spec.specs.Datum.{Row}
use Rattle.tql_spec.specs.Definition.{TableDef, Stamped, shown}
use Rattle.tql_spec.specs.Constraint.{shown_rows}
use Rattle.tql_store.specs.StoreModel.{is_among}
use Rattle.tql_key_rows.specs.Asked.{row_found}
use Rattle.tql_key_clashes.specs.Named.{IsJudged, staying}
use Rattle.tql_keys.specs.Parents.{any_left}
use Rattle.tql_versions.specs.declared.version.Version.{Version}
use Rattle.tql_key_rows.proofs.Bools.{all_same}
use Rattle.tql_key_clashes.proofs.Freely.{found_all}

-- some element passes exactly if not all fail
pub some_passes : {A : Type 0} (p : A → Bool) (xs : List A) → list_any p xs ≡ not (list_all (λ x. not (p x)) xs)
some_passes p [] = refl
some_passes p (x ∷ xs) = ap (λ b. p x || b) (some_passes p xs) ∙ turned (p x) (list_all (λ y. not (p y)) xs)
  where
    turned : (a b : Bool) → a || not b ≡ not (not a && b)
    turned true b = refl
    turned false b = refl

-- whether some found row that survives passes a test
pub found_any : (d : TableDef) (h q : Row → Bool) (rows : List Stamped)
    (named : ℕ → Option Stamped) (gone : Stamped → Bool) (removed : List ℕ) (found : List Version)
    → SameBag (map row_found found) (filter (λ r. h (shown d r)) rows)
    → All (λ f. named f.id ≡ Some (row_found f)) found → IsJudged named gone removed
    → any_left d removed q found ≡ list_any q (filter h (shown_rows d (staying gone rows)))
found_any d h q rows named gone removed found bag names judged =
    some_passes (λ (f : Version). not (is_among f.id removed) && q (shown d (row_found f))) found
    ∙ ap not (all_same (λ (f : Version). not (not (is_among f.id removed) && q (shown d (row_found f))))
    (λ (f : Version). is_among f.id removed || not (q (shown d (row_found f)))) found
    (λ f. turned (is_among f.id removed) (q (shown d (row_found f))))
    ∙ found_all d h (λ r. not (q r)) rows named gone removed found bag names judged)
    ∙ sym (some_passes q (filter h (shown_rows d (staying gone rows))))
  where
    turned : (a b : Bool) → not (not a && b) ≡ a || not b
    turned true b = refl
    turned false b = refl

-- whether some row with a tuple passes a test
pub any_kept : {A : Type 0} (h q : A → Bool) (xs : List A) → list_any (λ x. h x && q x) xs ≡ list_any q (filter h xs)
any_kept h q [] = refl
any_kept h q (x ∷ xs) = ap (λ b. (h x && q x) || b) (any_kept h q xs) ∙ kept (h x) x (filter h xs)
  where
    kept : (b : Bool) (y : _) (ys : List _) → (b && q y) || list_any q ys ≡ list_any q (cond b (y ∷ ys) ys)
    kept true y ys = refl
    kept false y ys = refl
