-- Literals and columns, by the tests in the code.
use Rattle.std.specs.Prelude.{◌≡◌, refl, ℕ, ◌^◌, Bool, true, false, not, nat_le, List, ℤ, pos, neg_ℤ, Option, Some}
use Rattle.std.specs.Prelude.{None, if◌then◌else◌, [], ◌∷◌, Result, Ok, Err, IfOk}
use Rattle.std.specs.declared.alloc.AllocError.{AllocError}
use Rattle.std.proofs.Common.{sym, ap, subst, ◌∙◌}
use Rattle.tql_spec.specs.Calendar.{number_of}
use Rattle.tql_spec.specs.Datum.{Datum, Null, Int, Ints, Kind}
use Rattle.tql_spec.specs.Expression.{Literal, Column}
use Rattle.tql_spec.specs.Names.{Checked, Thing, AColumn, APeriod, Typed, typed, nothing, sound, unless, refuse_if}
use Rattle.tql_spec.specs.Names.{literal, one_column}
use Rattle.tql_spec.specs.Refusal.{Refusal, ValueOutOfRange, NameUnknownAmbiguousOrRepeated}
use Rattle.tql_expr.specs.declared.terms.Terms.{Terms}
use Rattle.tql_bind_expr.specs.Bounds.{literal_of, typed_of}
use Rattle.tql_bind_expr.specs.Gathered.{Gathers}
use Rattle.tql_bind_expr.specs.Numbers.{number_literal, signed_value}
use Rattle.tql_bind_expr.specs.Columns.{sole_column}
use Rattle.tql_bind_expr.specs.declared.scope.Typed as code

-- a number, if it fits
abbrev pub number_as : Option Datum → Checked Typed
number_as None = unless true ValueOutOfRange (literal_of Null (Some Ints))
number_as (Some d) = sound (literal_of d (Some Ints))

number_by : (b : Bool) (v : Datum)
    → unless (not b) ValueOutOfRange (typed (Literal (if b then v else Null)) Ints) ≡ number_as
    (if b then Some v else None)
number_by true v = refl
number_by false v = refl

-- a number literal by its value
pub number_is : (negative : Bool) (ds : List ℕ) → number_literal negative ds ≡ number_as (signed_value negative ds)
number_is true ds = number_by (nat_le (number_of ds) (2 ^ 63)) (Int (neg_ℤ (pos (number_of ds))))
number_is false ds = number_by (nat_le (number_of ds) 9223372036854775807) (Int (pos (number_of ds)))

-- a literal that can be read as a point of time
pub literal_at : (k : Kind) (f : ℤ → Datum) (o : Option ℤ) (p q : ℤ) → o ≡ Some p → q ≡ p
    → literal k f o ≡ sound (literal_of (f q) (Some k))
literal_at k f o p q is same = ap (literal k f) is ∙ ap (λ (z : ℤ). sound (literal_of (f z) (Some k))) (sym same)

-- a name that means one column and nothing else, and a name that does not
pub a_column : (found : List Thing) (x : Typed) → sole_column found ≡ Some x → one_column found ≡ sound x
a_column (AColumn i c ∷ []) x is = let same : typed (Column i) c.kind ≡ x = cc in ap (λ (y : Typed). sound y) same
a_column [] x is = absurd (cc)
a_column (APeriod s e k ∷ []) x is = absurd (cc)
a_column (AColumn i c ∷ y ∷ ys) x is = absurd (cc)
a_column (APeriod s e k ∷ y ∷ ys) x is = absurd (cc)

no_column : (found : List Thing) → sole_column found ≡ None
    → one_column found ≡ unless true NameUnknownAmbiguousOrRepeated nothing
no_column (AColumn i c ∷ []) is = absurd (cc)
no_column [] is = refl
no_column (APeriod s e k ∷ []) is = refl
no_column (AColumn i c ∷ y ∷ ys) is = refl
no_column (APeriod s e k ∷ y ∷ ys) is = refl

-- the result for a name that does not mean one column
pub no_column_is : (t : Terms) (r : Result code.Typed AllocError) (found : List Thing) (old now : Option Refusal)
    → sole_column found ≡ None
    → Gathers (refuse_if true NameUnknownAmbiguousOrRepeated) old now tt → IfOk r (λ x. typed_of t x ≡ nothing)
    → IfOk r (λ x. Gathers (one_column found) old now (typed_of t x))
no_column_is t (Ok x) found old now none g h =
    subst (λ (c : Checked Typed). Gathers c old now (typed_of t x)) (sym (no_column found none))
    (record { value = h; least = g.least })
no_column_is t (Err e) found old now none g h = tt
