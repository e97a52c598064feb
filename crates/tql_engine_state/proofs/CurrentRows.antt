-- The open versions of the list in which a table's current versions are stored are its current rows.
use Rattle.std.proofs.Common.{◌≡◌, ℕ, zero, suc, ◌+◌, ◌<◌, ◌≤◌, Bool, true, false, cond, List, [], ◌∷◌, map, filter}
use Rattle.std.proofs.Common.{refl, sym, ap, subst, ◌∙◌, arith, Option, Some, None, Ok}
use Rattle.std.specs.Prelude.{◌&&◌, count_by, nat_eq, slice_get, slice_index_or, if◌then◌else◌}
use Rattle.std.specs.List.{AllByRecursion, sum_by}
use Rattle.std.proofs.lemmas.Bool.Decides.{nat_tests}
use Rattle.std.proofs.lemmas.List.Elements.{All-from_recursion}
use Rattle.std.proofs.lemmas.List.Sums.{sum_by-cons}
use Rattle.tql_spec.specs.Bag.{SameBag}
use Rattle.tql_spec.specs.Definition.{Version}
use Rattle.tql_spec.proofs.Bags.{sum-filter}
use Rattle.tql_spec.proofs.Members.{by_bool}
use Rattle.tql_value.specs.When.{when_of}
use Rattle.tql_value.specs.declared.when.When.TheVariants.{Now}
use Rattle.tql_versions.specs.Changes.{alive}
use Rattle.tql_versions.specs.Readings.{asked, is_answer, open_ones, version_shown}
use Rattle.tql_versions.specs.Views.{version_of, versions_of}
use Rattle.tql_versions.specs.declared.kept.Kept.{Kept}
use Rattle.tql_versions.specs.declared.version.Version as code
use Rattle.tql_dml.specs.Current.{open_from, open_versions, shown_as}
use Rattle.tql_store.specs.Represents.{Answers}
use Rattle.tql_store.specs.StoreModel.{StoreModel, live, named}
use Rattle.tql_store.specs.Views.{AreRowsNow, IsFound, Names, NamesOnce}
use Rattle.tql_store.proofs.Searching.{filter_both, looked_at_all}
use Rattle.tql_store_index.specs.Basis.{is_looked_at}

-- they show the open versions of the list
shown_open : (n : ℕ) (ks : List Kept) → map version_shown (open_from n ks) ≡ open_ones (versions_of ks)
shown_open n [] = refl
shown_open n (k ∷ ks) = either (is_answer Now (version_of k)) (shown_open (n + 1) ks)
  where
    either : (b : Bool) → map version_shown (open_from (n + 1) ks) ≡ open_ones (versions_of ks)
        → map version_shown (if b then shown_as n k ∷ open_from (n + 1) ks else open_from (n + 1) ks)
        ≡ cond b (version_of k ∷ open_ones (versions_of ks)) (open_ones (versions_of ks))
    either true e = ap {B = List Version} (λ vs. version_of k ∷ vs) e
    either false e = e

-- ---- the id of each is its position

ids_from : (h : StoreModel) (t n : ℕ) (ks : List Kept)
    → ((i : ℕ) (v : Version) → slice_get (versions_of ks) i ≡ Some v → named h t (n + i) ≡ Some v)
    → AllByRecursion (Names h t) (open_from n ks)
ids_from h t n [] f = tt
ids_from h t n (k ∷ ks) f = either (is_answer Now (version_of k))
    (ids_from h t (n + 1) ks (λ i v e. subst (λ m. named h t m ≡ Some v) (omega arith) (f (suc i) v e)))
  where
    here : named h t n ≡ Some (version_of k)
    here = subst (λ m. named h t m ≡ Some (version_of k)) (omega arith) (f zero (version_of k) refl)

    either : (b : Bool) → AllByRecursion (Names h t) (open_from (n + 1) ks)
        → AllByRecursion (Names h t) (if b then shown_as n k ∷ open_from (n + 1) ks else open_from (n + 1) ks)
    either true rest = (here, rest)
    either false rest = rest

-- ---- each once

-- how many versions have an id
abbrev with_id : ℕ → List code.Version → ℕ
with_id id found = count_by (λ (s : code.Version). nat_eq s.id id) found

abbrev is_with : ℕ → code.Version → ℕ
is_with id s = cond (nat_eq s.id id) 1 0

none_lower : (n id : ℕ) (ks : List Kept) → id < n → with_id id (open_from n ks) ≡ 0
none_lower n id [] l = refl
none_lower n id (k ∷ ks) l = either (is_answer Now (version_of k)) (none_lower (n + 1) id ks (omega (arith, l)))
  where
    apart : nat_eq n id ≡ false
    apart = grind (arith, nat_tests)

    either : (b : Bool) → with_id id (open_from (n + 1) ks) ≡ 0
        → with_id id (if b then shown_as n k ∷ open_from (n + 1) ks else open_from (n + 1) ks) ≡ 0
    either true e = omega (
      arith,
      sum_by-cons (is_with id) (shown_as n k) (open_from (n + 1) ks),
      ap (λ (b : Bool). cond {A = ℕ} b 1 0) apart,
      e,
    )
    either false e = e

abbrev held : Option Version → ℕ
held None = 0
held (Some v) = if is_answer Now v then 1 else 0

-- the version at a position is there once if it is open
once_from : (n i id : ℕ) (ks : List Kept) → id ≡ n + i
    → with_id id (open_from n ks) ≡ held (slice_get (versions_of ks) i)
once_from n i id [] e = refl
once_from n zero id (k ∷ ks) e = either (is_answer Now (version_of k))
  where
    itself : nat_eq n id ≡ true
    itself = grind (arith, nat_tests)

    none : with_id id (open_from (n + 1) ks) ≡ 0
    none = none_lower (n + 1) id ks (omega (arith, e))

    either : (b : Bool) → with_id id (if b then shown_as n k ∷ open_from (n + 1) ks else open_from (n + 1) ks)
        ≡ (if b then 1 else 0)
    either true = omega (
      arith,
      sum_by-cons (is_with id) (shown_as n k) (open_from (n + 1) ks),
      ap (λ (b : Bool). cond {A = ℕ} b 1 0) itself,
      none,
    )
    either false = none
once_from n (suc i) id (k ∷ ks) e =
    either (is_answer Now (version_of k)) (once_from (n + 1) i id ks (omega (arith, e)))
  where
    apart : nat_eq n id ≡ false
    apart = grind (arith, nat_tests)

    either : (b : Bool) → with_id id (open_from (n + 1) ks) ≡ held (slice_get (versions_of ks) i)
        → with_id id (if b then shown_as n k ∷ open_from (n + 1) ks else open_from (n + 1) ks)
        ≡ held (slice_get (versions_of ks) i)
    either true f = omega (
      arith,
      sum_by-cons (is_with id) (shown_as n k) (open_from (n + 1) ks),
      ap (λ (b : Bool). cond {A = ℕ} b 1 0) apart,
      f,
    )
    either false f = f

-- ---- no version after those of the list is open

same : {x y : Version} → Some x ≡ Some y → x ≡ y
same {x} {y} e = cc

abbrev passing : (Version → Bool) → Version → ℕ
passing p v = cond (p v) 1 0

some_passes : (p : Version → Bool) (all : List Version) (id : ℕ) (v : Version) → slice_get all id ≡ Some v
    → p v ≡ true → 1 ≤ count_by p all
some_passes p [] id v at passes = absurd (cc)
some_passes p (a ∷ all) zero v at passes = omega (
  arith,
  sum_by-cons (passing p) a all,
  ap (λ (b : Bool). cond {A = ℕ} b 1 0) (ap p (same at) ∙ passes),
)
some_passes p (a ∷ all) (suc id) v at passes =
    omega (arith, sum_by-cons (passing p) a all, some_passes p all id v at passes)

-- where others begin with these, one of the others that passes is one more
more_pass : (p : Version → Bool) (vs all : List Version)
    → ((i : ℕ) (v : Version) → slice_get vs i ≡ Some v → slice_get all i ≡ Some v)
    → (id : ℕ) (v : Version) → slice_get vs id ≡ None → slice_get all id ≡ Some v → p v ≡ true
    → count_by p vs < count_by p all
more_pass p vs [] f id v past at passes = absurd (cc)
more_pass p [] (a ∷ all) f id v past at passes = some_passes p (a ∷ all) id v at passes
more_pass p (w ∷ vs) (a ∷ all) f zero v past at passes = absurd (cc)
more_pass p (w ∷ vs) (a ∷ all) f (suc id) v past at passes = omega (
  arith,
  sum_by-cons (passing p) w vs,
  sum_by-cons (passing p) a all,
  ap (passing p) (same (f zero w refl)),
  more_pass p vs all (λ i u e. f (suc i) u e) id v past at passes,
)

-- ---- the current rows of a table

module _ (h : StoreModel) (t : ℕ) (ks : List Kept) (rows : AreRowsNow h t (versions_of ks)) where
  abbrev all : List Version
  all = slice_index_or h.versions t []

  -- as many are open in the list as in the table
  as_many : count_by (is_answer Now) (versions_of ks) ≡ count_by (is_answer Now) all
  as_many =
      sym (sum-filter (is_answer Now) (λ v. 1) (versions_of ks))
      ∙ rows.versions.totals (λ v. 1)
      ∙ ap (sum_by (λ v. 1)) (sym (filter_both alive (asked Now) all))
      ∙ sum-filter (is_answer Now) (λ v. 1) all

  once : NamesOnce h t (asked Now) (open_versions ks)
  once id v name = by_place (slice_get (versions_of ks) id) refl
    where
      by_place : (o : Option Version) → slice_get (versions_of ks) id ≡ o
          → with_id id (open_versions ks) ≡ (if alive v && asked Now v then 1 else 0)
      by_place (Some w) e =
          once_from 0 id id ks (omega arith) ∙ ap held e
          ∙ ap (λ (u : Version). if is_answer Now u then 1 else 0) (same (sym (rows.ids id w e) ∙ name))
      by_place None e =
          once_from 0 id id ks (omega arith) ∙ ap held e
          ∙ by_bool (is_answer Now v)
          (λ passes. absurd (omega (
            arith,
            as_many,
            more_pass (is_answer Now) (versions_of ks) all rows.ids id v e name passes,
          )))
          (λ fails. sym (ap (λ (b : Bool). if b then 1 else 0) fails))

  pub found_now : IsFound h t Now (is_looked_at None) (open_versions ks)
  found_now =
      looked_at_all {E = Unit {0}} h t Now (λ (found : List code.Version). found) (Ok (open_versions ks))
      (subst (λ (vs : List Version). SameBag vs (filter (asked Now) (live h t))) (sym (shown_open 0 ks)) rows.versions)
      (All-from_recursion (Names h t) (open_versions ks)
      (ids_from h t 0 ks (λ i v e. subst (λ m. named h t m ≡ Some v) (omega arith) (rows.ids i v e))))
      once
      (subst (Answers h t (when_of Now)) (sym (shown_open 0 ks)) rows.copies)
