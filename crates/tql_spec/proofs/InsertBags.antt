-- An insertion does not depend on the order of the rows that it is given.
use Rattle.std.proofs.Common.{◌≡◌, refl, sym, ◌∙◌, arith, List, [], ◌∷◌, map, flat_map, length}
use Rattle.std.specs.List.{sum_by}
use Rattle.std.proofs.lemmas.List.Sums.{sum_by-cons}
use Rattle.tql_spec.specs.Bag.{SameBag}
use Rattle.tql_spec.specs.Change.{new_row, row_faults}
use Rattle.tql_spec.specs.ChangeLaws.{InsertsKeepNoOrder}
use Rattle.tql_spec.specs.Datum.{Row}
use Rattle.tql_spec.specs.Definition.{Stamped, shown, stamped}
use Rattle.tql_spec.proofs.Bags.{same-append, same-flat_map, same-map, same-refl}
use Rattle.tql_spec.proofs.FaultBags.{first_by_bag}

ones : {A : Type 0} (xs : List A) → sum_by (λ x. 1) xs ≡ length xs
ones [] = refl
ones (x ∷ xs) = omega (arith, sum_by-cons (λ x. 1) x xs, ones xs)

-- lists with the same bag have the same length
pub same-length : {A : Type 0} {xs ys : List A} → SameBag xs ys → length xs ≡ length ys
same-length {A} {xs} {ys} h = sym (ones xs) ∙ h.totals (λ x. 1) ∙ ones ys

pub inserts : InsertsKeepNoOrder
inserts d m rows columns tuples others h =
    let made : Row → Stamped = λ values. stamped d m (new_row d columns values) in
    let same : SameBag (map made tuples) (map made others) = same-map made h in
    let faults = λ (r : Stamped). row_faults d (shown d r) in
    record {
      rows = same-append (same-refl rows) same;
      count = same-length same;
      fault = first_by_bag (flat_map faults (map made tuples)) (flat_map faults (map made others))
          (same-flat_map faults faults same (λ r. same-refl (faults r)));
    }
