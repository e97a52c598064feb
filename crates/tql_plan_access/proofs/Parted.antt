-- Rows that have one of several distinct values: those with each value, one value after another.
use Rattle.std.proofs.Common.{◌≡◌, ◌∙◌, refl, sym, subst, ℕ, ◌+◌, Bool, true, false, cond, List, [], ◌∷◌, ◌++◌}
use Rattle.std.proofs.Common.{filter, arith}
use Rattle.std.specs.Prelude.{◌&&◌, ◌||◌, not}
use Rattle.std.specs.Cmp.{Equal-is}
use Rattle.std.specs.List.{list_any}
use Rattle.std.proofs.lemmas.Bool.{and_parts}
use Rattle.std.proofs.lemmas.List.Sums.{sum_by-append}
use Rattle.tql_spec.specs.Bag.{SameBag}
use Rattle.tql_spec.specs.Datum.{Datum, Row, is_null, order}
use Rattle.tql_spec.specs.Definition.{Version, cell}
use Rattle.tql_spec.proofs.Bags.{sum-both, sum-filter, sum-same}
use Rattle.tql_spec.proofs.Members.{by_bool}
use Rattle.tql_spec.proofs.Orders.{order-ties}
use Rattle.tql_plan_laws.specs.Equalities.{agree}
use Rattle.tql_plan_laws.proofs.Equalities.{agree_is, none_agrees}
use Rattle.tql_store_index.specs.Tuple.{is_at}
use Rattle.tql_plan_access.specs.Alternatives.{has_any}
use Rattle.tql_plan_access.specs.Choices.{are_distinct}
use Rattle.tql_plan_access.proofs.Distinct.{null_is}
use Rattle.tql_plan_access.proofs.Picked.{any_at}

-- ---- two tests that no element passes together

split : (a b : Bool) (n : ℕ) → (a ≡ true → b ≡ false) → cond (a || b) n 0 ≡ cond a n 0 + cond b n 0
split true b n h = subst (λ c. n ≡ n + cond c n 0) (sym (h refl)) (omega arith)
split false b n h = omega arith

pub either_bag : {X : Type 0} (p q : X → Bool) → ((x : X) → p x ≡ true → q x ≡ false) → (xs : List X)
    → SameBag (filter (λ x. p x || q x) xs) (filter p xs ++ filter q xs)
either_bag p q apart xs = record {
  totals = λ w.
      sum-filter (λ x. p x || q x) w xs
      ∙ sum-same (λ x. cond (p x || q x) (w x) 0) (λ x. cond (p x) (w x) 0 + cond (q x) (w x) 0)
      (λ x. split (p x) (q x) (w x) (apart x)) xs
      ∙ sum-both (λ x. cond (p x) (w x) 0) (λ x. cond (q x) (w x) 0) xs
      ∙ sym (sum_by-append w (filter p xs) (filter q xs) ∙ (λ i. sum-filter p w xs i + sum-filter q w xs i));
}

-- ---- distinct values

not_true : (b : Bool) → not b ≡ true → b ≡ false
not_true true h = absurd (cc)
not_true false h = refl

-- values that agree are one value
agrees_is : (x v : Datum) → agree x v ≡ true → x ≡ v
agrees_is x v h = by_bool (is_null v)
    (λ n. absurd (let k : true ≡ false = sym h ∙ subst (λ u. agree x u ≡ false) (sym (null_is v n)) (none_agrees x) in
    cc))
    (λ n. order-ties x v ((Equal-is (order x v)).0 (sym (agree_is x v n) ∙ h)))

-- the first of distinct values equals none of the others
first_apart : (v : Datum) (vs : List Datum) → are_distinct (v ∷ vs) ≡ true → list_any (agree v) vs ≡ false
first_apart v vs h =
    let p = and_parts (not (is_null v)) (not (list_any (agree v) vs) && are_distinct vs) h in
    not_true (list_any (agree v) vs) (and_parts (not (list_any (agree v) vs)) (are_distinct vs) p.1).0

-- the others are distinct
pub others_distinct : (v : Datum) (vs : List Datum) → are_distinct (v ∷ vs) ≡ true → are_distinct vs ≡ true
others_distinct v vs h =
    let p = and_parts (not (is_null v)) (not (list_any (agree v) vs) && are_distinct vs) h in
    (and_parts (not (list_any (agree v) vs)) (are_distinct vs) p.1).1

-- a row with the first value has none of the others
pub none_later : (column : ℕ) (v : Datum) (vs : List Datum) → are_distinct (v ∷ vs) ≡ true → (cells : Row)
    → is_at (column ∷ []) (v ∷ []) cells ≡ true → has_any column vs cells ≡ false
none_later column v vs h cells m =
    let same = agrees_is (cell cells column) v (and_parts (agree (cell cells column) v) true m).0 in
    sym (any_at column cells vs)
    ∙ subst (λ x. list_any (agree x) vs ≡ false) (sym same) (first_apart v vs h)

-- the versions with one of the values are those with the first, and those with one of the others
pub any_parted : (column : ℕ) (v : Datum) (vs : List Datum) → are_distinct (v ∷ vs) ≡ true → (rows : List Version)
    → SameBag (filter (λ (r : Version). has_any column (v ∷ vs) r.row.cells) rows)
    (filter (λ (r : Version). is_at (column ∷ []) (v ∷ []) r.row.cells) rows
    ++ filter (λ (r : Version). has_any column vs r.row.cells) rows)
any_parted column v vs h rows =
    either_bag (λ (r : Version). is_at (column ∷ []) (v ∷ []) r.row.cells)
    (λ (r : Version). has_any column vs r.row.cells) (λ r m. none_later column v vs h r.row.cells m) rows
