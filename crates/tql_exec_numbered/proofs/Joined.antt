-- Runs that are joined to one.
use Rattle.std.specs.Prelude.{◌≡◌, refl, ℕ, suc, ◌+◌, ◌<◌, Bool, true, false, ◌||◌, List, [], ◌∷◌, ◌++◌}
use Rattle.std.specs.Prelude.{length, nat_eq, take, Vec, Result, Ok, Err, OnErr, OnOk}
use Rattle.std.specs.Prelude.{IfNone, None, Option, Some}
use Rattle.std.proofs.Common.{sym, ap, subst, ◌∙◌, arith, get_or, ⊎_elim}
use Rattle.std.specs.List.Sorted.{IsPermutation}
use Rattle.std.proofs.lemmas.Bool.{or_cases, or_left, or_right, eqb-false, eqb-true}
use Rattle.std.proofs.lemmas.List.{length-append, map-append, take-map, get_or_append_left}
use Rattle.std.proofs.lemmas.List.Elements.{All-append, All-cons, All-nil, All-take}
use Rattle.std.proofs.lemmas.List.Folds.{list_any-append, list_any_at}
use Rattle.std.proofs.lemmas.List.Sorted.{list_any-IsPermutation}
use Rattle.tql_spec.specs.Datum.{Row}
use Rattle.tql_spec.proofs.Members.{by_bool}
use Rattle.tql_exec_numbered.specs.Runs.{has_number, is_in_runs, numbers_in, row_at}
use Rattle.tql_exec_numbered.specs.Runs.{AreBelow, AreRuns, IsRun}

-- ---- a number in runs

itself : (n : ℕ) → nat_eq n n ≡ true
itself n = by_bool (nat_eq n n) (λ e. e) (λ e. absurd (eqb-false n n e refl))

-- a number in the first or the second of two lists
pub in_front : (n : ℕ) (xs ys : List ℕ) → has_number n xs ≡ true → has_number n (xs ++ ys) ≡ true
in_front n xs ys e = list_any-append (nat_eq n) xs ys ∙ or_left (has_number n xs) (has_number n ys) e

pub in_back : (n : ℕ) (xs ys : List ℕ) → has_number n ys ≡ true → has_number n (xs ++ ys) ≡ true
in_back n xs ys e = list_any-append (nat_eq n) xs ys ∙ or_right (has_number n xs) (has_number n ys) e

pub alone : (n : ℕ) → has_number n (n ∷ []) ≡ true
alone n = or_left (nat_eq n n) false (itself n)

-- the runs, followed by one more
pub runs_behind : (n : ℕ) (rs : List (List ℕ)) (run : List ℕ)
    → (is_in_runs n rs || has_number n run) ≡ true → is_in_runs n (rs ++ run ∷ []) ≡ true
runs_behind n rs run e = list_any-append (has_number n) rs (run ∷ [])
    ∙ ⊎_elim
    (λ k. or_left (is_in_runs n rs) (has_number n run || false) k)
    (λ k. or_right (is_in_runs n rs) (has_number n run || false) (or_left (has_number n run) false k))
    (or_cases (is_in_runs n rs) (has_number n run) e)

only : (b : Bool) → (b || false) ≡ true → b ≡ true
only true e = refl
only false e = cc

pub behind_cases : (n : ℕ) (rs : List (List ℕ)) (run : List ℕ) {P : Type 0}
    → (is_in_runs n rs ≡ true → P) → (has_number n run ≡ true → P) → is_in_runs n (rs ++ run ∷ []) ≡ true → P
behind_cases n rs run front back e = ⊎_elim front (λ k. back (only (has_number n run) k))
    (or_cases (is_in_runs n rs) (has_number n run || false) (sym (list_any-append (has_number n) rs (run ∷ [])) ∙ e))

-- a number of one of the runs is below a bound
pub below_bound : (bound : ℕ) (run : List ℕ) → ((k : ℕ) → has_number k run ≡ true → k < bound) → AreBelow bound run
below_bound bound run below k d within =
    below (get_or run k d) (list_any_at (nat_eq (get_or run k d)) run k d within (itself (get_or run k d)))

pub below_by : (bound n : ℕ) (run : List ℕ) → AreBelow bound run → has_number n run ≡ true → n < bound
below_by bound n [] all e = cc
below_by bound n (m ∷ run) all e = ⊎_elim
    (λ k. subst (λ z. z < bound) (sym (eqb-true n m k)) (all 0 m (omega arith)))
    (λ k. below_by bound n run (λ i d within. all (suc i) d (omega (arith, within))) k)
    (or_cases (nat_eq n m) (has_number n run) e)

pub below_in : (rows : List Row) (n : ℕ) (rs : List (List ℕ)) → AreRuns rows rs → is_in_runs n rs ≡ true
    → n < length rows
below_in rows n [] all e = cc
below_in rows n (run ∷ rs) all e = ⊎_elim
    (λ k. below_by (length rows) n run (all 0 run (omega arith)).0 k)
    (λ k. below_in rows n rs (λ i d within. all (suc i) d (omega (arith, within))) k)
    (or_cases (has_number n run) (is_in_runs n rs) e)

-- ---- one more row

same_row_at : (rows : List Row) (r : Row) (n : ℕ) → n < length rows → row_at (rows ++ r ∷ []) n ≡ row_at rows n
same_row_at rows r n l = get_or_append_left rows (r ∷ []) [] n l

pub run_before_row : (rows : List Row) (r : Row) (run : List ℕ) → IsRun rows run → IsRun (rows ++ r ∷ []) run
run_before_row rows r run is = (
  (λ k d within.
      let l : get_or run k d < length rows = is.0 k d within in
      omega (arith, l, length-append rows (r ∷ []))),
  λ k d from inside.
      let next = same_row_at rows r (get_or run (k + 1) d) (is.0 (k + 1) d inside) in
      let here = same_row_at rows r (get_or run k d) (is.0 k d (omega (arith, inside))) in
      rw (next, here) (is.1 k d from inside),
)

pub runs_before_row : (rows : List Row) (r : Row) (rs : List (List ℕ)) → AreRuns rows rs → AreRuns (rows ++ r ∷ []) rs
runs_before_row rows r rs all k d within = run_before_row rows r (get_or rs k d) (all k d within)

-- ---- the runs that stay, followed by one more

pub numbers_behind : {A : Type 0} (vs : List (Vec ℕ A)) (stay : ℕ) (run : Vec ℕ A)
    → numbers_in (take stay vs ++ run ∷ []) ≡ take stay (numbers_in vs) ++ run.items ∷ []
numbers_behind vs stay run = map-append (λ r. r.items) (take stay vs) (run ∷ [])
    ∙ ap (λ rs. rs ++ run.items ∷ []) (sym (take-map (λ r. r.items) stay vs))

pub are_runs_behind : (rows : List Row) (rs : List (List ℕ)) (stay : ℕ) (run : List ℕ) → AreRuns rows rs
    → IsRun rows run → AreRuns rows (take stay rs ++ run ∷ [])
are_runs_behind rows rs stay run all is = All-append (IsRun rows) (take stay rs) (run ∷ [])
    (All-take (IsRun rows) stay rs all) (All-cons (IsRun rows) run [] is (All-nil (IsRun rows)))

pub sorted_has : (n : ℕ) (old new : List ℕ) → IsPermutation old new → has_number n old ≡ true
    → has_number n new ≡ true
sorted_has n old new same e = sym (list_any-IsPermutation (nat_eq n) old new same) ∙ e

pub kept_behind : (n stay : ℕ) (rs : List (List ℕ)) (joined run : List ℕ) → IsPermutation joined run
    → (is_in_runs n (take stay rs) || has_number n joined) ≡ true → is_in_runs n (take stay rs ++ run ∷ []) ≡ true
kept_behind n stay rs joined run same e = runs_behind n (take stay rs) run (⊎_elim
    (λ k. or_left (is_in_runs n (take stay rs)) (has_number n run) k)
    (λ k. or_right (is_in_runs n (take stay rs)) (has_number n run) (sorted_has n joined run same k))
    (or_cases (is_in_runs n (take stay rs)) (has_number n joined) e))

-- ---- both outcomes

pub by_outcome : {T E P Q G : Type 0} (r : Result T E) → OnOk r P → OnErr r Q → (P → G) → (Q → G) → G
by_outcome (Ok x) ok err f g = f ok
by_outcome (Err e) ok err f g = g err

pub none_weaker : {X P Q : Type 0} (o : Option X) → (P → Q) → IfNone o P → IfNone o Q
none_weaker None f is = f is
none_weaker (Some x) f is = is

-- ---- a number in the last run, or in one of the others

pub in_last : (n : ℕ) (rs : List (List ℕ)) (run : List ℕ) → has_number n run ≡ true
    → is_in_runs n (rs ++ run ∷ []) ≡ true
in_last n rs run e = runs_behind n rs run (or_right (is_in_runs n rs) (has_number n run) e)

pub in_others : (n : ℕ) (rs : List (List ℕ)) (run : List ℕ) → is_in_runs n rs ≡ true
    → is_in_runs n (rs ++ run ∷ []) ≡ true
in_others n rs run e = runs_behind n rs run (or_left (is_in_runs n rs) (has_number n run) e)
