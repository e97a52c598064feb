-- A search among sorted values finds a value exactly if one of them equals it.
use Rattle.std.proofs.Common.{◌≡◌, ◌∙◌, refl, sym, ap, ℕ, zero, suc, ◌+◌, ◌<◌, Bool, true, false, ◌&&◌, List, [], ◌∷◌}
use Rattle.std.proofs.Common.{map}
use Rattle.std.proofs.Common.{length, get_or, arith, ⊎_elim}
use Rattle.std.specs.Prelude.{◌||◌, not, Result, Ok, Err, is_ok}
use Rattle.std.specs.List.{list_any, HoldsAt}
use Rattle.std.specs.List.Sorted.{IsBinarySearchResult, IsNonDecreasingBy, IsPartitionPoint, IsSearchInRange}
use Rattle.std.specs.List.Sorted.{IsSorted, IsSortedBy}
use Rattle.std.specs.Ordering.{is_eq, is_lt, ordering_index, ordering_reverse}
use Rattle.std.specs.declared.cmp.Ordering.{Ordering}
use Rattle.std.specs.declared.cmp.Ordering.TheVariants.{Less, Equal, Greater}
use Rattle.std.proofs.lemmas.Bool.{and_parts, cases_lt, not-true}
use Rattle.std.proofs.lemmas.List.{get_or-map, length-map}
use Rattle.std.proofs.lemmas.List.Folds.{list_any_at, list_any_none}
use Rattle.std.proofs.lemmas.List.Sorted.{searchable_from_sorted}
use Rattle.tql_spec.specs.Datum.{Datum, is_null, order}
use Rattle.tql_spec.proofs.Orders.{order-total}
use Rattle.tql_plan_laws.specs.Equalities.{agree}
use Rattle.tql_plan_laws.proofs.Equalities.{agree_is}
use Rattle.tql_plan_access.specs.Choices.{are_distinct}
use Rattle.tql_value.specs.Views.{datum_of_view}
use Rattle.tql_value.specs.declared.value.View.{View}

reversed_tie : (o : Ordering) → is_eq (ordering_reverse o) ≡ is_eq o
reversed_tie Less = refl
reversed_tie Equal = refl
reversed_tie Greater = refl

-- distinct values are not null
known : (vs : List Datum) → are_distinct vs ≡ true → (k : ℕ) (d : Datum) → k < length vs
    → is_null (get_or vs k d) ≡ false
known [] h k d l = absurd (omega (arith, l))
known (v ∷ vs) h zero d l =
    not-true (is_null v) (and_parts (not (is_null v)) (not (list_any (agree v) vs) && are_distinct vs) h).0
known (v ∷ vs) h (suc k) d l =
    known vs (and_parts (not (list_any (agree v) vs)) (are_distinct vs)
    (and_parts (not (is_null v)) (not (list_any (agree v) vs) && are_distinct vs) h).1).1 k d (omega (arith, l))

any_mapped : {X Y : Type 0} (p : Y → Bool) (f : X → Y) (xs : List X)
    → list_any (λ x. p (f x)) xs ≡ list_any p (map f xs)
any_mapped p f [] = refl
any_mapped p f (x ∷ xs) = ap (λ b. p (f x) || b) (any_mapped p f xs)

an_element : {A : Type 0} (xs : List A) (n : ℕ) → n < length xs → A
an_element [] n l = absurd (omega (arith, l))
an_element (x ∷ xs) n l = x

-- the place of a view among others, by its value
abbrev pub by_value : Datum → View → Ordering
by_value x v = order (datum_of_view v) x

module _ (x : Datum) (vs : List View) (distinct : are_distinct (map datum_of_view vs) ≡ true)
    (sorted : IsSorted order (map datum_of_view vs)) where
  abbrev is_same : View → Bool
  is_same v = agree x (datum_of_view v)

  sorted_views : IsSortedBy (λ v w. is_lt (order (datum_of_view v) (datum_of_view w))) vs
  sorted_views k d from inside =
      let n : length (map datum_of_view vs) ≡ length vs = length-map vs datum_of_view in
      let l : k + 1 < length vs = inside in
      let m : k < length vs = omega (arith, l) in
      sym (λ z. is_lt (order (get_or-map datum_of_view vs (k + 1) d (datum_of_view d) l z)
      (get_or-map datum_of_view vs k d (datum_of_view d) m z)))
      ∙ sorted k (datum_of_view d) from (omega (arith, n, l))

  rising : IsNonDecreasingBy (λ v. ordering_index (by_value x v)) vs
  rising = searchable_from_sorted order-total datum_of_view vs x sorted_views

  decided : (k : ℕ) (d : View) (o : Ordering) → k < length vs → by_value x (get_or vs k d) ≡ o
      → is_same (get_or vs k d) ≡ is_eq o
  decided k d o l e =
      let v = datum_of_view (get_or vs k d) in
      let n : length (map datum_of_view vs) ≡ length vs = length-map vs datum_of_view in
      agree_is x v (ap is_null (sym (get_or-map datum_of_view vs k d (datum_of_view d) l))
      ∙ known (map datum_of_view vs) distinct k (datum_of_view d) (omega (arith, n, l)))
      ∙ ap is_eq (order-total.antisymm x v) ∙ reversed_tie (order v x) ∙ ap is_eq e

  there : (i : ℕ) → i < length vs → HoldsAt (λ v. by_value x v ≡ Equal) vs i → list_any is_same vs ≡ true
  there i within at =
      let d = an_element vs i within in
      list_any_at is_same vs i d within (decided i d Equal within (at d))

  absent : (i : ℕ) → IsPartitionPoint (λ v. by_value x v ≡ Less) (λ v. by_value x v ≡ Greater) vs i
      → list_any is_same vs ≡ false
  absent i parted = list_any_none is_same vs (λ k d within. ⊎_elim
      (λ below. decided k d Less within (parted.0 k d (omega arith) below))
      (λ above. decided k d Greater within (parted.1 k d above within)) (cases_lt k i))

  pub searched : (r : Result ℕ ℕ) → IsSearchInRange r (length vs) → IsBinarySearchResult (by_value x) vs r
      → is_ok r ≡ list_any (agree x) (map datum_of_view vs)
  searched (Ok i) within at = sym (there i within at) ∙ any_mapped (agree x) datum_of_view vs
  searched (Err i) within parted = sym (absent i (parted rising)) ∙ any_mapped (agree x) datum_of_view vs
