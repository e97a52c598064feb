-- Rows that have one of several values: looking up one value after another gives the bag of those rows.
use Rattle.std.proofs.Common.{◌≡◌, ◌∙◌, refl, sym, ap, subst, ℕ, ◌+◌, ◌<◌, ◌≤◌, true, List, [], ◌∷◌, ◌++◌, map, filter}
use Rattle.std.proofs.Common.{append_assoc, drop, get_or, length}
use Rattle.std.proofs.lemmas.List.{append-nil, drop_all, drop_more, map-append}
use Rattle.tql_spec.specs.Bag.{SameBag}
use Rattle.tql_spec.specs.Datum.{Datum}
use Rattle.tql_spec.specs.Definition.{Version}
use Rattle.tql_spec.proofs.Bags.{same-append, same-refl, same-sym, same-trans}
use Rattle.tql_store_index.specs.Tuple.{is_at}
use Rattle.tql_plan_access.specs.Alternatives.{has_any}
use Rattle.tql_plan_access.specs.Choices.{are_distinct}
use Rattle.tql_plan_access.proofs.Parted.{any_parted, others_distinct}

-- the versions with one of these values, and those with this value
abbrev pub with_any : ℕ → List Datum → List Version → List Version
with_any column values all = filter (λ (v : Version). has_any column values v.row.cells) all

abbrev pub with_one : ℕ → Datum → List Version → List Version
with_one column value all = filter (λ (v : Version). is_at (column ∷ []) (value ∷ []) v.row.cells) all

-- versions that are added
pub appended : {A B : Type 0} (f : A → B) (old new more : List A) (rest : List B) → new ≡ old ++ more
    → SameBag (map f more) rest → SameBag (map f new) (map f old ++ rest)
appended f old new more rest e s =
    subst (λ xs. SameBag xs (map f old ++ rest)) (sym (ap (map f) e ∙ map-append f old more))
    (same-append (same-refl (map f old)) s)

module _ {V : Type 0} (key : V → Datum) (column : ℕ) (values : List V) (all : List Version) where
  -- the values that are left from an index on
  abbrev left : ℕ → List Datum
  left i = map key (drop i values)

  module _ (i : ℕ) (d : V) (l : i < length values) where
    front : left i ≡ key (get_or values i d) ∷ left (i + 1)
    front = ap (map key) (drop_more values i d l)

    pub distinct_more : are_distinct (left i) ≡ true → are_distinct (left (i + 1)) ≡ true
    distinct_more h =
        others_distinct (key (get_or values i d)) (left (i + 1)) (subst (λ vs. are_distinct vs ≡ true) front h)

    -- one more value is looked up
    pub found_more : (found new target : List Version) → are_distinct (left i) ≡ true
        → SameBag new (found ++ with_one column (key (get_or values i d)) all)
        → SameBag (found ++ with_any column (left i) all) target
        → SameBag (new ++ with_any column (left (i + 1)) all) target
    found_more found new target h s t =
        let v = key (get_or values i d) in
        let rest = with_any column (left (i + 1)) all in
        let parted : SameBag (with_any column (left i) all) (with_one column v all ++ rest) =
        subst (λ vs. SameBag (with_any column vs all) (with_one column v all ++ rest)) (sym front)
        (any_parted column v (left (i + 1)) (subst (λ vs. are_distinct vs ≡ true) front h) all) in
        same-trans (same-append s (same-refl rest))
        (subst (λ xs. SameBag xs target) (sym (append_assoc found (with_one column v all) rest))
        (same-trans (same-append (same-refl found) (same-sym parted)) t))

  none_left : (xs : List Version) → with_any column [] xs ≡ []
  none_left [] = refl
  none_left (x ∷ xs) = none_left xs

  -- all values are looked up
  pub found_all : (i : ℕ) → length values ≤ i → (found target : List Version)
      → SameBag (found ++ with_any column (left i) all) target → SameBag found target
  found_all i past found target s =
      subst (λ xs. SameBag xs target)
      (ap (λ vs. found ++ with_any column (map key vs) all) (drop_all i values past)
      ∙ ap (λ xs. found ++ xs) (none_left all) ∙ append-nil found) s
