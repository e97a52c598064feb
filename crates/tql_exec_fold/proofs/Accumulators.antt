-- One more row in an accumulator.
use Rattle.std.specs.Prelude.{◌≡◌, refl, ℕ, zero, suc, ℤ, ◌+ℤ◌, ◌+◌, ◌-◌, ◌<◌, ◌≤◌, ◌^◌, Bool, true, false, List}
use Rattle.std.specs.Prelude.{[], ◌∷◌, ◌++◌, length}
use Rattle.std.specs.Prelude.{nat_eq, Option, Some, None, pos, if◌then◌else◌, Result, Ok, Err, IfOk}
use Rattle.std.specs.Prelude.{IfErr, MatchResult}
use Rattle.std.proofs.Common.{sym, ap, subst, append_assoc, append-nil, ◌∙◌, arith}
use Rattle.std.proofs.Math.Bool.{◌||◌}
use Rattle.std.proofs.lemmas.Bool.{eqb-true}
use Rattle.std.proofs.lemmas.Int.{ints}
use Rattle.std.proofs.lemmas.List.{length-append}
use Rattle.tql_spec.specs.Words.{◌>>=◌, map_all, with_front}
use Rattle.tql_spec.specs.Datum.{Datum, Row, Null, Int, Text, Day, Moment, exact, fits, is_null}
use Rattle.tql_spec.specs.Expression.{aggregate, best, eval, Expr, present, total}
use Rattle.tql_spec.specs.Expression as bound
use Rattle.tql_value.specs.declared.refusal.Refusal.{Refusal}
use Rattle.tql_value.specs.declared.refusal.Refusal.TheVariants.{OutOfMemory}
use Rattle.tql_expr.specs.Meaning.{expr, aggregate as tree_of}
use Rattle.tql_expr.specs.Trees.{plain_function}
use Rattle.tql_expr.specs.declared.node.Function as code
use Rattle.tql_expr.specs.declared.terms.Aggregate.{Aggregate}
use Rattle.tql_expr.specs.declared.terms.Aggregate.TheVariants.{Rows, Over}
use Rattle.tql_expr.specs.declared.terms.ExprId.{ExprId}
use Rattle.tql_expr.specs.declared.terms.Terms.{Terms}
use Rattle.tql_exec_fold.specs.Folds.{added, is_better, of_present, sum_behind, sum_of, the_better}
use Rattle.tql_exec_fold.specs.Folded.{after, rest_of, HasFolded, IsOut, Takes}
use Rattle.tql_exec_fold.specs.declared.fold.Accumulator.{Accumulator}
use Rattle.tql_exec_fold.proofs.Bests.{one_better, over_few, too_great}
use Rattle.tql_exec_fold.proofs.Remaining.{more_present}

-- ---- whatever rows follow

module _ (e : Expr) (rows : List Row) (r : Row) (g : List Datum → Option Datum) where
  one_moved : (more : List Row) → of_present g e (rows ++ r ∷ more) ≡ of_present g e ((rows ++ r ∷ []) ++ more)
  one_moved more = ap (of_present g e) (sym (append_assoc rows (r ∷ []) more))

  -- a row on which the expression has a value
  one_more_told : (h h' : List Datum → Option Datum) (v : Datum)
      → ((vs : List Datum) → h' (present vs) ≡ h (present (v ∷ vs))) → Some v ≡ eval [] r e
      → ((more : List Row) → of_present h e more ≡ of_present g e (rows ++ more))
      → (more : List Row) → of_present h' e more ≡ of_present g e ((rows ++ r ∷ []) ++ more)
  one_more_told h h' v next value k more =
      more_present e h h' (r ∷ more) 0 r r v (of_present g e ((rows ++ r ∷ []) ++ more)) (omega arith) refl value next
      (k (r ∷ more) ∙ one_moved more)

-- ---- aggregates that are out of range

in_front : {A : Type 0} (o : Option A) (rest : Option (List A)) → rest ≡ None → with_front o rest ≡ None
in_front None rest e = refl
in_front (Some x) rest e = ap (with_front (Some x)) e

-- an item without a value
lacking : {X A : Type 0} (f : X → Option A) (xs ys : List X) (x : X) → None ≡ f x → map_all f (xs ++ x ∷ ys) ≡ None
lacking f [] ys x e = ap (λ o. with_front o (map_all f ys)) (sym e)
lacking f (y ∷ xs) ys x e = in_front (f y) (map_all f (xs ++ x ∷ ys)) (lacking f xs ys x e)

if_none : {A : Type 0} (test : Bool) (o : Option A) → o ≡ None → (if test then o else None) ≡ None
if_none true o e = e
if_none false o e = refl

-- a row on which the expression is out of range
one_out : (f : bound.Function) (e : Expr) (rows more : List Row) (r row : Row) → None ≡ eval [] r e
    → eval ((rows ++ r ∷ []) ++ more) row (bound.Aggregate f e) ≡ None
one_out f e rows more r row none =
    let all = (rows ++ r ∷ []) ++ more in
    let lacks : map_all (λ q. eval [] q e) all ≡ None =
    ap (map_all (λ q. eval [] q e)) (append_assoc rows (r ∷ []) more) ∙ lacking (λ q. eval [] q e) rows more r none in
    if_none (fits (pos (length all))) (map_all (λ q. eval [] q e) all >>= λ vs. aggregate f (present vs))
    (ap (λ o. o >>= λ vs. aggregate f (present vs)) lacks)

-- more rows than 64 bits can count
too_many : (t : Terms) (which : Aggregate) (rows : List Row) (row : Row) → 2 ^ 63 ≤ length rows
    → eval rows row (tree_of t which) ≡ None
too_many t Rows rows row many = simp (too_great (length rows) many)
too_many t (Over f x) rows row many = simp (too_great (length rows) many)

-- ---- one more row

one_longer : (n m : ℕ) (rows : List Row) (r : Row) → n ≡ length rows → m ≡ n + 1 → m ≡ length (rows ++ r ∷ [])
one_longer n m rows r before next =
    let more : length (rows ++ r ∷ []) ≡ length rows + 1 = length-append rows (r ∷ []) in
    omega arith

full : (out : Bool) (n : ℕ) → (out || nat_eq n (2 ^ 63 - 1)) ≡ true → out ≡ false → n ≡ 2 ^ 63 - 1
full true n is within = cc
full false n is within = eqb-true n (2 ^ 63 - 1) is

module _ (t : Terms) (old new : Accumulator) (r : Row) where
  -- an accumulator that is out of range, or has counted as many rows as it can, takes any row
  pub stays_out : (which : Aggregate) → new.is_out ≡ true → (old.is_out || nat_eq old.rows (2 ^ 63 - 1)) ≡ true
      → Takes t which old new r
  stays_out which out is rows h = record {
    out = λ _ more row. by_out old.is_out refl more row;
    counted = λ held. cc;
    folds = λ held. cc;
  }
    where
      by_out : (b : Bool) → old.is_out ≡ b → IsOut t which (rows ++ r ∷ [])
      by_out true e more row =
          ap (λ rs. eval rs row (tree_of t which)) (append_assoc rows (r ∷ []) more) ∙ h.out e (r ∷ more) row
      by_out false e more row =
          let n : old.rows ≡ length rows = h.counted e in
          let most : old.rows ≡ 2 ^ 63 - 1 = full old.is_out old.rows is e in
          let longer : length ((rows ++ r ∷ []) ++ more) ≡ length (rows ++ r ∷ []) + length more =
          length-append (rows ++ r ∷ []) more in
          let one : length (rows ++ r ∷ []) ≡ length rows + 1 = length-append rows (r ∷ []) in
          too_many t which ((rows ++ r ∷ []) ++ more) row (omega arith)

  module _ (f : code.Function) (x : ExprId) where
    -- a row on which the operand is out of range
    took_out : new.is_out ≡ true → None ≡ eval [] r (expr t x) → Takes t (Over f x) old new r
    took_out is none rows h = record {
      out = λ _ more row. one_out (plain_function f) (expr t x) rows more r row none;
      counted = λ held. cc;
      folds = λ held. cc;
    }

    -- a row on which it has a value
    took_value : (v : Datum) → new.rows ≡ old.rows + 1 → old.is_out ≡ false → new.is_out ≡ false
        → ((vs : List Datum) → rest_of (plain_function f) new (present vs)
        ≡ rest_of (plain_function f) old (present (v ∷ vs)))
        → Some v ≡ eval [] r (expr t x) → Takes t (Over f x) old new r
    took_value v next was is gives value rows h = record {
      out = λ gone. cc;
      counted = λ _. one_longer old.rows new.rows rows r (h.counted was) next;
      folds = λ _. one_more_told (expr t x) rows r (aggregate (plain_function f)) (rest_of (plain_function f) old)
          (rest_of (plain_function f) new) v gives value (h.folds was);
    }

module _ (t : Terms) (which : Aggregate) (old : Accumulator) (r : Row) where
  module _ (f : code.Function) (x : ExprId) (is : which ≡ Over f x) where
    -- the operand is out of range
    pub leaves_range : (new : Accumulator) → new.is_out ≡ true → None ≡ eval [] r (expr t x) → Takes t which old new r
    leaves_range new out none =
        subst (λ w. Takes t w old new r) (sym is) (took_out t old new r f x out none)

    -- the value of the operand is added
    pub adds_value : {U : Type 0} (new : Accumulator) (v : Datum) (result : Result U Refusal) → old.is_out ≡ false
        → IfOk result (λ _. new.rows ≡ old.rows + 1) → new.is_out ≡ old.is_out
        → IfOk result (λ _. (vs : List Datum) → rest_of (plain_function f) new (present vs)
        ≡ rest_of (plain_function f) old (present (v ∷ vs))) → IfErr result (λ e. e ≡ OutOfMemory)
        → Some v ≡ eval [] r (expr t x) → MatchResult result (λ _. Takes t which old new r) (λ e. e ≡ OutOfMemory)
    adds_value new v (Err e) held next out folds memory value = memory
    adds_value new v (Ok u) held next out folds memory value =
        subst (λ w. Takes t w old new r) (sym is) (took_value t old new r f x v next held (out ∙ held) folds value)

-- ---- one more value

-- the better of the best value so far and one more is the best of both
pub one_kept : (greatest : Bool) (b b' v : Datum) → b' ≡ the_better greatest b v → (vs : List Datum)
    → ◌≡◌ {A = Option Datum} (Some (best (is_better greatest) (after b' (present vs))))
    (Some (best (is_better greatest) (after b (present (v ∷ vs)))))
one_kept greatest b b' v is vs = ap {B = Option Datum} (λ d. Some d)
    (ap (λ d. best (is_better greatest) (present (d ∷ vs))) is ∙ one_better greatest b v vs)

-- the sum of values so far, before others
some_behind : (n : ℕ) (s : ℤ) (xs : List Datum) → 0 < n → sum_behind (sum_of n s) xs ≡ exact (s +ℤ total xs)
some_behind zero s xs l = absurd (omega arith)
some_behind (suc n) s xs l = refl

before_one : (n : ℕ) (s : ℤ) (x : Datum) (xs : List Datum) → (n ≡ 0 → s ≡ pos 0)
    → sum_behind (sum_of n s) (x ∷ xs) ≡ exact (s +ℤ total (x ∷ xs))
before_one zero s x xs none =
    let nothing : s ≡ pos 0 = none refl in
    let same : total (x ∷ xs) ≡ s +ℤ total (x ∷ xs) = omega (arith, ints, nothing) in
    ap exact same
before_one (suc n) s x xs none = refl

-- the sum with one more value is that of the values so far and this one
pub one_summed : (n n' : ℕ) (s s' : ℤ) (v : Datum) → (n ≡ 0 → s ≡ pos 0) → n' ≡ (if is_null v then n else n + 1)
    → Some s' ≡ added (Some s) v → (vs : List Datum)
    → sum_behind (sum_of n' s') (present vs) ≡ sum_behind (sum_of n s) (present (v ∷ vs))
one_summed n n' s s' Null none is next vs =
    let same : s' ≡ s = cc in
    ap (λ k. sum_behind (sum_of k s') (present vs)) is ∙ ap (λ z. sum_behind (sum_of n z) (present vs)) same
one_summed n n' s s' (Int m) none is next vs =
    let more : s' ≡ s +ℤ m = cc in
    let all : s' +ℤ total (present vs) ≡ s +ℤ (m +ℤ total (present vs)) = omega (arith, ints, more) in
    some_behind n' s' (present vs) (omega (arith, is)) ∙ ap exact all ∙ sym (before_one n s (Int m) (present vs) none)
one_summed n n' s s' (Text t) none is next vs =
    let same : s' ≡ s = cc in
    some_behind n' s' (present vs) (omega (arith, is)) ∙ ap (λ z. exact (z +ℤ total (present vs))) same
    ∙ sym (before_one n s (Text t) (present vs) none)
one_summed n n' s s' (Day d) none is next vs =
    let same : s' ≡ s = cc in
    some_behind n' s' (present vs) (omega (arith, is)) ∙ ap (λ z. exact (z +ℤ total (present vs))) same
    ∙ sym (before_one n s (Day d) (present vs) none)
one_summed n n' s s' (Moment m) none is next vs =
    let same : s' ≡ s = cc in
    some_behind n' s' (present vs) (omega (arith, is)) ∙ ap (λ z. exact (z +ℤ total (present vs))) same
    ∙ sym (before_one n s (Moment m) (present vs) none)

-- a sum of no values stays nothing
pub none_summed : (n n' : ℕ) (s s' : ℤ) (v : Datum) → (n ≡ 0 → s ≡ pos 0)
    → n' ≡ (if is_null v then n else n + 1) → Some s' ≡ added (Some s) v → n' ≡ 0 → s' ≡ pos 0
none_summed n n' s s' Null none is next zeros =
    let same : s' ≡ s = cc in same ∙ none (sym is ∙ zeros)
none_summed n n' s s' (Int m) none is next zeros = absurd (omega (arith, is, zeros))
none_summed n n' s s' (Text t) none is next zeros = absurd (omega (arith, is, zeros))
none_summed n n' s s' (Day d) none is next zeros = absurd (omega (arith, is, zeros))
none_summed n n' s s' (Moment m) none is next zeros = absurd (omega (arith, is, zeros))

-- ---- the results

-- of an accumulator that is out of range
pub told_out : (t : Terms) (which : Aggregate) (a : Accumulator) (rows : List Row) (row : Row) → a.is_out ≡ true
    → HasFolded t which a rows → eval rows row (tree_of t which) ≡ None
told_out t which a rows row out h =
    ap (λ rs. eval rs row (tree_of t which)) (sym (append-nil rows)) ∙ h.out out [] row

-- of a function
told_over : (t : Terms) (f : code.Function) (x : ExprId) (a : Accumulator) (rows : List Row) (row : Row)
    → a.rows < 2 ^ 63 → a.is_out ≡ false → HasFolded t (Over f x) a rows
    → rest_of (plain_function f) a [] ≡ eval rows row (tree_of t (Over f x))
told_over t f x a rows row few in_range h =
    over_few (plain_function f) (expr t x) rows row _
    (let c : a.rows ≡ length rows = h.counted in_range in omega arith)
    (h.folds in_range [] ∙ ap (of_present (aggregate (plain_function f)) (expr t x)) (append-nil rows))

pub told_by : (t : Terms) (f : code.Function) (x : ExprId) (which : Aggregate) (a : Accumulator) (rows : List Row)
    (row : Row) (o : Option Datum) → which ≡ Over f x → a.rows < 2 ^ 63 → a.is_out ≡ false
    → o ≡ rest_of (plain_function f) a [] → HasFolded t which a rows → o ≡ eval rows row (tree_of t which)
told_by t f x which a rows row o is few in_range told h =
    told ∙ subst (λ w. rest_of (plain_function f) a [] ≡ eval rows row (tree_of t w)) (sym is)
    (told_over t f x a rows row few in_range (subst (λ w. HasFolded t w a rows) is h))
