-- Filtering and mapping rows do not depend on their order.
use Rattle.std.proofs.Common.{◌≡◌, Bool, true, false, List, [], ◌∷◌, flat_map, refl, sym, ap, subst, ◌∙◌, arith}
use Rattle.std.specs.Prelude.{Option, Some, None}
use Rattle.std.proofs.lemmas.List.Concat.{flat_map-cons}
use Rattle.tql_spec.specs.Words.{◌>>=◌, map_all, filter_all, with_front, kept_if}
use Rattle.tql_spec.specs.Bag.{SameBag}
use Rattle.tql_spec.specs.Datum.{Row}
use Rattle.tql_spec.specs.QueryLaws.{SameRows}
use Rattle.tql_spec.proofs.Bags.{same-flat_map, same-refl}
use Rattle.tql_spec.proofs.MappedBags.{lack_of, weight_of, all_total, none_lacks, some_lacks}

-- ---- mapped rows

-- both are None, or the bags are the same
abbrev pub Same : {B : Type 0} → Option (List B) → Option (List B) → Type 0
Same None None = Unit {0}
Same (Some xs) (Some ys) = SameBag xs ys
Same None (Some ys) = ⊥
Same (Some xs) None = ⊥

pub mapped_same : {A B : Type 0} (f : A → Option B) (xs others : List A) → SameBag xs others → (o p : Option (List B))
    → map_all f xs ≡ o → map_all f others ≡ p → Same o p
mapped_same f xs others h None None e k = tt
mapped_same f xs others h None (Some ys) e k =
    absurd (omega (arith, some_lacks f xs e, h.totals (λ x. lack_of (f x)), none_lacks f others ys k))
mapped_same f xs others h (Some ys) None e k =
    absurd (omega (arith, some_lacks f others k, h.totals (λ x. lack_of (f x)), none_lacks f xs ys e))
mapped_same f xs others h (Some ys) (Some zs) e k = record {
  totals = λ w. all_total f w xs ys e ∙ h.totals (λ x. weight_of w (f x)) ∙ sym (all_total f w others zs k);
}

-- ---- filtering as a mapping to lists of at most one row

-- a list of the row if it is kept, else the empty list
abbrev itself : {A : Type 0} → A → Bool → List A
itself x true = x ∷ []
itself x false = []

abbrev kept_of : {A : Type 0} → (A → Option Bool) → A → Option (List A)
kept_of test x = test x >>= λ b. Some (itself x b)

abbrev pub flattened : {A : Type 0} → Option (List (List A)) → Option (List A)
flattened o = o >>= λ xss. Some (flat_map (λ xs. xs) xss)

kept_by : {A : Type 0} (x : A) (o : Option Bool) (rest : Option (List (List A)))
    → kept_if x o (flattened rest) ≡ flattened (with_front (o >>= λ b. Some (itself x b)) rest)
kept_by x None rest = refl
kept_by x (Some true) None = refl
kept_by x (Some false) None = refl
kept_by x (Some true) (Some xss) = ap Some (sym (flat_map-cons (λ xs. xs) (x ∷ []) xss))
kept_by x (Some false) (Some xss) = ap Some (sym (flat_map-cons (λ xs. xs) [] xss))

filter_is : {A : Type 0} (test : A → Option Bool) (xs : List A)
    → filter_all test xs ≡ flattened (map_all (kept_of test) xs)
filter_is test [] = refl
filter_is test (x ∷ xs) = ap (kept_if x (test x)) (filter_is test xs) ∙ kept_by x (test x) (map_all (kept_of test) xs)

pub flattened_same : {A : Type 0} (o p : Option (List (List A))) → Same o p → Same (flattened o) (flattened p)
flattened_same None None h = tt
flattened_same None (Some ys) h = absurd h
flattened_same (Some xs) None h = absurd h
flattened_same (Some xs) (Some ys) h = same-flat_map (λ zs. zs) (λ zs. zs) h (λ zs. same-refl zs)

pub filtered_same : {A : Type 0} (test : A → Option Bool) (xs others : List A) → SameBag xs others
    → Same (filter_all test xs) (filter_all test others)
filtered_same test xs others h =
    let h' = flattened_same (map_all (kept_of test) xs) (map_all (kept_of test) others)
    (mapped_same (kept_of test) xs others h _ _ refl refl) in
    subst (λ o. Same o (filter_all test others)) (sym (filter_is test xs))
    (subst (λ p. Same (flattened (map_all (kept_of test) xs)) p) (sym (filter_is test others)) h')

-- ---- selections

pub same_rows : (o p : Option (List Row)) → Same o p → SameRows o p
same_rows None None h = tt
same_rows None (Some ys) h = absurd h
same_rows (Some xs) None h = absurd h
same_rows (Some xs) (Some ys) h = h
