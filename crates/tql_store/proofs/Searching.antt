-- Versions whose rows pass a test.
use Rattle.std.proofs.Common.{◌≡◌, ℕ, Bool, true, false, cond, List, [], ◌∷◌, All, map, filter, None, refl, ap, sym}
use Rattle.std.proofs.Common.{subst}
use Rattle.std.specs.Prelude.{◌&&◌, ◌||◌, count_by, nat_eq, if◌then◌else◌, IfOk, Result, Ok, Err}
use Rattle.tql_spec.proofs.Bags.{same-refl, same-trans, same-filter}
use Rattle.tql_spec.proofs.Members.{by_bool}
use Rattle.tql_spec.specs.Bag.{SameBag}
use Rattle.tql_spec.specs.Datum.{Row}
use Rattle.tql_spec.specs.Definition.{Version}
use Rattle.tql_store_index.specs.Basis.{is_looked_at}
use Rattle.tql_versions.specs.Changes.{alive}
use Rattle.tql_versions.specs.Readings.{asked, version_shown}
use Rattle.tql_versions.specs.declared.version.Version as code
use Rattle.tql_value.specs.When.{is_now, when_of}
use Rattle.tql_value.specs.declared.when.When.{When}
use Rattle.tql_store.proofs.StoreLaws.{answers-found}
use Rattle.tql_store.specs.Represents.{Answers, AnswersBy}
use Rattle.tql_store.specs.StoreModel.{StoreModel, is_versioned, live}
use Rattle.tql_store.specs.Views.{IsFound, Names, NamesOnce}

-- two tests, one after another
pub filter_both : {X : Type 0} (p q : X → Bool) (xs : List X) → filter (λ x. p x && q x) xs ≡ filter q (filter p xs)
filter_both p q [] = refl
filter_both p q (x ∷ xs) = by_bool (p x)
    (λ e. rw e (ap (λ ys. cond (q x) (x ∷ ys) ys) (filter_both p q xs)))
    (λ e. rw e (filter_both p q xs))

pub answers-by : (h : StoreModel) (t : ℕ) (when : When) (test : Row → Bool) (found : List Version)
    → (is_now (when_of when) || is_versioned h t) ≡ true
    → SameBag found (filter (λ v. asked when v && test v.row.cells) (live h t))
    → AnswersBy h t (when_of when) test found
answers-by h t when test found versioned e = λ ask copies working r.
    same-trans (subst (λ (vs : List Version). SameBag found vs)
    (filter_both (asked when) (λ (v : Version). test v.row.cells) (live h t)) e)
    (same-filter (λ (v : Version). test v.row.cells)
    (answers-found h t when (filter (asked when) (live h t)) versioned (same-refl (filter (asked when) (live h t)))
    ask copies working r))

-- ---- without a lookup

and_true : (b : Bool) → (b && true) ≡ b
and_true true = refl
and_true false = refl

filter_and_true : {X : Type 0} (p : X → Bool) (xs : List X) → filter (λ x. p x && true) xs ≡ filter p xs
filter_and_true p [] = refl
filter_and_true p (x ∷ xs) = by_bool (p x)
    (λ e. rw e (ap (λ ys. x ∷ ys) (filter_and_true p xs)))
    (λ e. rw e (filter_and_true p xs))

filter_true : {X : Type 0} (xs : List X) → filter (λ (x : X). true) xs ≡ xs
filter_true [] = refl
filter_true (x ∷ xs) = ap (λ ys. x ∷ ys) (filter_true xs)

-- without a lookup, the versions that a query selects satisfy `IsFound`
looked_at_each : (h : StoreModel) (t : ℕ) (when : When) (found : List code.Version)
    → SameBag (map version_shown found) (filter (asked when) (live h t)) → All (Names h t) found
    → NamesOnce h t (asked when) found → Answers h t (when_of when) (map version_shown found)
    → IsFound h t when (is_looked_at None) found
looked_at_each h t when found versions ids once answers = record {
  versions = subst (λ (vs : List Version). SameBag (map version_shown found) vs)
      (sym (filter_and_true (asked when) (live h t))) versions;
  ids = ids;
  once = λ id v e. subst (λ (b : Bool). count_by (λ (s : code.Version). nat_eq s.id id) found
      ≡ (if alive v && b then 1 else 0)) (sym (and_true (asked when v))) (once id v e);
  copies = λ ask copies working r. subst (λ (vs : List Version). SameBag (map version_shown found) vs)
      (sym (filter_true _)) (answers ask copies working r);
}

-- the same for a result
pub looked_at_all : {X E : Type 0} (h : StoreModel) (t : ℕ) (when : When) (items : X → List code.Version)
    (result : Result X E)
    → IfOk result (λ x. SameBag (map version_shown (items x)) (filter (asked when) (live h t)))
    → IfOk result (λ x. All (Names h t) (items x)) → IfOk result (λ x. NamesOnce h t (asked when) (items x))
    → IfOk result (λ x. Answers h t (when_of when) (map version_shown (items x)))
    → IfOk result (λ x. IsFound h t when (is_looked_at None) (items x))
looked_at_all h t when items (Ok x) versions ids once answers =
    looked_at_each h t when (items x) versions ids once answers
looked_at_all h t when items (Err e) versions ids once answers = tt

-- and conversely, versions that satisfy it are all that the query selects
pub all-versions : (h : StoreModel) (t : ℕ) (when : When) (found : List code.Version)
    → IsFound h t when (is_looked_at None) found
    → SameBag (map version_shown found) (filter (asked when) (live h t))
all-versions h t when found is =
    subst (SameBag (map version_shown found)) (filter_and_true (asked when) (live h t)) is.versions

pub all-once : (h : StoreModel) (t : ℕ) (when : When) (found : List code.Version)
    → IsFound h t when (is_looked_at None) found → NamesOnce h t (asked when) found
all-once h t when found is = λ id v e. subst (λ (b : Bool). count_by (λ (s : code.Version). nat_eq s.id id) found
    ≡ (if alive v && b then 1 else 0)) (and_true (asked when v)) (is.once id v e)

pub all-copies : (h : StoreModel) (t : ℕ) (when : When) (found : List code.Version)
    → IsFound h t when (is_looked_at None) found → Answers h t (when_of when) (map version_shown found)
all-copies h t when found is = λ ask copies working r.
    subst (SameBag (map version_shown found)) (filter_true _) (is.copies ask copies working r)
