use Rattle.std.proofs.Common.{◌≡◌, rules, tests, ap, subst, ◌∙◌, ℕ, true, List, Some, is_le, nat_cmp}
use Rattle.std.specs.List.{IsAllAdjacentAnswer}
use Rattle.std.specs.Ordering.{is_some_and}
use Rattle.std.proofs.lemmas.List.Sorted.{IsNonDecreasingBy-from_sort, non_decreasing_from_is_sorted}
use Rattle.tql_spec.specs.Bag.{SameBag}
use Rattle.tql_spec.proofs.Bags.{same-permutation}
use Rattle.tql_store.specs.StoreModel.{is_among}
use Rattle.tql_key_rows.proofs.Listed.{among_either}
use Rattle.tql_key_rows.proofs.change.rising.Goals as goal

pub returns-then-is_sorted-clause-rising : goal.returns-then-is_sorted-clause-rising
returns-then-is_sorted-clause-rising c i j l m =
    let ids = c.args.ids.now in
    let told : c.is_sorted.result ≡ true = search (rules, tests) in
    non_decreasing_from_is_sorted ids true
    (subst (IsAllAdjacentAnswer (λ x y b. is_some_and is_le (Some (nat_cmp x y)) ≡ b) ids) told
    c.is_sorted.ensures.cases) i j 0 l m

pub returns-clause-rising : goal.returns-clause-rising
returns-clause-rising c i j l m =
    IsNonDecreasingBy-from_sort (λ (x : ℕ). x) c.sort_unstable.new.self.items c.sort_unstable.ensures.sorted i j 0 l m

pub returns-clause-same : goal.returns-clause-same
returns-clause-same c id =
    among_either id _ _ c.sort_unstable.ensures.permutation
    ∙ ap (λ (ids : List ℕ). is_among id ids) c.in_ok-rising.ensures.items

pub returns-clause-bag : goal.returns-clause-bag
returns-clause-bag c =
    subst (λ (ids : List ℕ). SameBag ids c.sort_unstable.new.self.items) c.in_ok-rising.ensures.items
    (same-permutation c.sort_unstable.ensures.permutation)
