-- The aggregate of a list of values, after the values so far.
use Rattle.std.specs.Prelude.{ℕ, zero, suc, ◌*◌, ◌^◌, Bool, true, false, if◌then◌else◌, List, [], ◌∷◌, ℤ, pos}
use Rattle.std.specs.Prelude.{neg_ℤ, ◌+ℤ◌, ◌≤ℤ◌}
use Rattle.std.specs.Prelude.{Option, Some, None}
use Rattle.std.specs.Ordering.{is_lt, is_gt}
use Rattle.tql_spec.specs.Words.{◌>>=◌, map_all}
use Rattle.tql_spec.specs.Datum.{Datum, Row, Null, Int, Text, Day, Moment, exact, order, is_null}
use Rattle.tql_spec.specs.Expression.{Expr, eval, present, total}

-- the sum of the values so far, None if there were none, and of the rest
abbrev pub sum_behind : Option ℤ → List Datum → Option Datum
sum_behind None [] = Some Null
sum_behind None (v ∷ vs) = exact (total (v ∷ vs))
sum_behind (Some n) vs = exact (n +ℤ total vs)

-- the sum of a number of values so far, None if there were none
abbrev pub sum_of : ℕ → ℤ → Option ℤ
sum_of zero s = None
sum_of (suc n) s = Some s

-- the sum so far as a number
abbrev pub so_far : Option ℤ → ℤ
so_far None = pos 0
so_far (Some n) = n

-- the sum with one more value
abbrev pub added : Option ℤ → Datum → Option ℤ
added s Null = s
added s (Int n) = Some (so_far s +ℤ n)
added s (Text t) = Some (so_far s)
added s (Day d) = Some (so_far s)
added s (Moment m) = Some (so_far s)

-- the sum of n numbers of 64 bits stays within these bounds
pub record IsWithin (n : ℕ) (s : Option ℤ) : Type 0 where
  pub above : neg_ℤ (pos (n * 2 ^ 63)) ≤ℤ so_far s
  pub below : so_far s ≤ℤ pos (n * 2 ^ 63)

-- whether a value is better than another: greater or less
abbrev pub is_better : Bool → Datum → Datum → Bool
is_better true a b = is_gt (order a b)
is_better false a b = is_lt (order a b)

-- the better of two values; NULL loses to any value, and of equal values the first is taken
abbrev pub the_better : Bool → Datum → Datum → Datum
the_better greatest a b = if is_null b then a else (if is_null a then b else (if is_better greatest b a then b else a))

-- a function of the values of an expression on rows that are not NULL
abbrev pub of_present : {A : Type 0} → (List Datum → Option A) → Expr → List Row → Option A
of_present f e rows = map_all (λ r. eval [] r e) rows >>= λ vs. f (present vs)
