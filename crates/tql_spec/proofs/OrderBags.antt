-- Rows that tie are equal, so a bag has one list in order, for any keys; and a bag has one bag without repeats.
use Rattle.std.proofs.Common.{◌≡◌, ℕ, Bool, true, false, List, [], ◌∷◌, refl, sym, ◌∙◌, arith}
use Rattle.std.specs.List.{sum_by}
use Rattle.std.specs.Cmp.{IsTotalOrder}
use Rattle.std.specs.declared.cmp.Ordering.{Ordering}
use Rattle.std.specs.declared.cmp.Ordering.TheVariants.{Equal}
use Rattle.std.specs.Ordering.{ordering_reverse}
use Rattle.std.proofs.lemmas.Cmp.{on_total, then_total, back_total}
use Rattle.std.proofs.lemmas.List.Sums.{sum_by-cons}
use Rattle.tql_spec.specs.Datum.{Row, order}
use Rattle.tql_spec.specs.Definition.{cell}
use Rattle.tql_spec.specs.Query.{OrderKey, directed, by_keys, by_columns, row_order, in_order}
use Rattle.tql_spec.specs.QueryLaws.{OrderIsOne, DistinctKeepsNoOrder}
use Rattle.tql_spec.proofs.DistinctBags.{distinct_same}
use Rattle.tql_spec.proofs.Orders.{Ascends, total_along, then_second, order-total, by_columns-total, by_columns-ties}
use Rattle.tql_spec.proofs.Orders.{one_in_order, placed_ascends, placed_bag}

-- ---- the order by keys

-- the reverse of a total order is total
directed_total : {A : Type 0} (falls : Bool) (R : A → A → Ordering) → IsTotalOrder R
    → IsTotalOrder (λ a b. directed falls (R a b))
directed_total false R o = o
directed_total true R o =
    total_along (λ a b. R b a) (λ a b. ordering_reverse (R a b)) (λ a b. sym (o.antisymm b a)) (back_total o)

-- the order by any keys is total
by_keys_total : (keys : List OrderKey) → IsTotalOrder (by_keys keys)
by_keys_total [] = record { antisymm = λ x y. refl; trans = λ x y z h k. h; congr = λ x y z h. refl }
by_keys_total (k ∷ ks) =
    let o = on_total (λ a. cell a k.column) order-total in
    then_total (directed_total k.falls (λ a b. order (cell a k.column) (cell b k.column)) o) (by_keys_total ks)

pub row_order_total : (keys : List OrderKey) → IsTotalOrder (row_order keys)
row_order_total keys = then_total (by_keys_total keys) by_columns-total

-- rows that tie are equal
pub row_order_ties : (keys : List OrderKey) (a b : Row) → row_order keys a b ≡ Equal → a ≡ b
row_order_ties keys a b e = by_columns-ties a b (then_second (by_keys keys a b) (by_columns a b) e)

-- ---- one list in order

ordered_ascends : (keys : List OrderKey) (rows : List Row) → Ascends (row_order keys) (in_order keys rows)
ordered_ascends keys [] = tt
ordered_ascends keys (r ∷ rows) =
    placed_ascends (row_order keys) (row_order_total keys) r (in_order keys rows) (ordered_ascends keys rows)

pub ordered_bag : (keys : List OrderKey) (w : Row → ℕ) (rows : List Row) → sum_by w (in_order keys rows) ≡ sum_by w rows
ordered_bag keys w [] = refl
ordered_bag keys w (r ∷ rows) =
    let placed = placed_bag (row_order keys) (row_order_total keys) w r (in_order keys rows) in
    omega (arith, placed, ordered_bag keys w rows, sum_by-cons w r rows)

-- the law of the printed order
pub order_is_one : OrderIsOne
order_is_one keys rows others h =
    one_in_order (row_order keys) (row_order_total keys) (row_order_ties keys) (in_order keys rows)
    (in_order keys others)
    (ordered_ascends keys rows) (ordered_ascends keys others)
    (record { totals = λ w. ordered_bag keys w rows ∙ h.totals w ∙ sym (ordered_bag keys w others) })

-- ---- each row once

-- the law of DISTINCT
pub distinct_keeps_no_order : DistinctKeepsNoOrder
distinct_keeps_no_order true rows others h = distinct_same rows others h
distinct_keeps_no_order false rows others h = h
