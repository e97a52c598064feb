-- A row that is among rows without repeats, or is appended to them.
use Rattle.std.specs.Prelude.{◌≡◌, ◌≢◌, refl, ℕ, zero, suc, Bool, true, false, ◌||◌, if◌then◌else◌, List, [], ◌∷◌, ◌++◌}
use Rattle.std.specs.Prelude.{Some, slice_get}
use Rattle.std.specs.List.{list_any}
use Rattle.std.proofs.Common.{sym, ap, subst, ◌∙◌}
use Rattle.tql_spec.specs.Datum.{Row, same_row}
use Rattle.tql_spec.proofs.Members.{by_bool, same_row-self, same_row-is}
use Rattle.tql_exec_numbered.specs.Numbered.{with_row}

-- a list in which some row is this one, by its first row and the others
pub any_first : (r x : Row) (xs : List Row) → same_row r x ≡ true → list_any (same_row r) (x ∷ xs) ≡ true
any_first r x xs e = ap (λ b. b || list_any (same_row r) xs) e

pub any_later : (r x : Row) (xs : List Row) → same_row r x ≡ false
    → list_any (same_row r) (x ∷ xs) ≡ list_any (same_row r) xs
any_later r x xs e = ap (λ b. b || list_any (same_row r) xs) e

-- ---- with a row

pub row_known : (rows : List Row) (r : Row) → list_any (same_row r) rows ≡ true → with_row rows r ≡ rows
row_known rows r e = ap (λ b. if b then rows else rows ++ r ∷ []) e

pub row_new : (rows : List Row) (r : Row) → list_any (same_row r) rows ≡ false → with_row rows r ≡ rows ++ r ∷ []
row_new rows r e = ap (λ b. if b then rows else rows ++ r ∷ []) e

-- ---- a row among rows

pub found_known : (rows : List Row) (r : Row) (n : ℕ) → slice_get rows n ≡ Some r
    → list_any (same_row r) rows ≡ true
found_known [] r n e = cc
found_known (x ∷ rows) r zero e =
    any_first r x rows (subst (λ z. same_row r z ≡ true) (sym (within e)) (same_row-self r))
  where
    within : Some x ≡ Some r → x ≡ r
    within k = cc
found_known (x ∷ rows) r (suc n) e = or_later (same_row r x) (found_known rows r n e)
  where
    or_later : (b : Bool) → list_any (same_row r) rows ≡ true → (b || list_any (same_row r) rows) ≡ true
    or_later true k = refl
    or_later false k = k

pub not_found_new : (rows : List Row) (r : Row) → ((n : ℕ) → slice_get rows n ≢ Some r)
    → list_any (same_row r) rows ≡ false
not_found_new [] r none = refl
not_found_new (x ∷ rows) r none = by_bool (same_row r x)
    (λ is. absurd (none 0 (ap Some (sym (same_row-is r x is)))))
    (λ apart. any_later r x rows apart ∙ not_found_new rows r (λ n. none (suc n)))
