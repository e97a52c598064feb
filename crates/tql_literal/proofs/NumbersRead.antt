-- Literals are bound to their values.
use Rattle.std.proofs.Common.{◌≡◌, ℕ, suc, ◌^◌, ◌<◌, List, [], refl, ap, arith, true, decimal}
use Rattle.std.proofs.lemmas.Bool.Decides.{nat_tests}
use Rattle.std.specs.Prelude.{ℤ, pos, negsuc, neg_ℤ, nat_le, Option, Some, not}
use Rattle.tql_spec.specs.Binding as binding
use Rattle.tql_spec.specs.Creation.{has_aggregate}
use Rattle.tql_spec.specs.Calendar.{number_of}
use Rattle.tql_spec.specs.Datum.{Datum, Int, Kind, Ints}
use Rattle.tql_spec.specs.Expression.{Literal}
use Rattle.tql_spec.specs.Names.{Checked, ◌>>=◌, Known, Typed, more_factors, more_terms, number, signed, sound, typed}
use Rattle.tql_spec.specs.Names.{unless}
use Rattle.tql_spec.specs.Names as names
use Rattle.tql_spec.specs.Refusal.{FormNotAllowedHere, Refusal}
use Rattle.tql_spec.specs.Syntax.{CellTree, Factors, Negative, NoFactor, NoTerm, NumberLiteral, Signed, Terms, Unsigned}
use Rattle.tql_spec.specs.Syntax.{ValueCell}
use Rattle.tql_literal.proofs.Digits.{decimal_read}

-- ---- cells

-- the cell of one signed primary
abbrev pub cell_by : Signed → CellTree
cell_by s = ValueCell (Terms (Factors s NoFactor) NoTerm)

-- the rules that a bound primary passes through
abbrev through : List Known → Checked Typed → Checked Typed
through scope c =
    ((c >>= more_factors scope NoFactor) >>= more_terms scope NoTerm) >>= λ t. unless (has_aggregate t.expr)
    FormNotAllowedHere t

-- a cell is bound to the value that its primary is bound to
pub cell_clean : (scope : List Known) (s : Signed) (v : Datum) (k : Kind)
    → signed scope s ≡ sound (typed (Literal v) k) → (binding.cell scope (cell_by s)).faults ≡ []
cell_clean scope s v k e = ap (λ (c : Checked Typed). (through scope c).faults) e

pub cell_value : (scope : List Known) (s : Signed) (v : Datum) (k : Kind)
    → signed scope s ≡ sound (typed (Literal v) k) → (binding.cell scope (cell_by s)).value.expr ≡ Literal v
cell_value scope s v k e = ap (λ (c : Checked Typed). (through scope c).value.expr) e

-- ---- numbers

-- a number within the limit
number_is : (limit : ℕ) (f : ℕ → ℤ) (ds : List ℕ) (n : ℕ) → number_of ds ≡ n → nat_le n limit ≡ true
    → number limit f ds ≡ sound (typed (Literal (Int (f n))) Ints)
number_is limit f ds n read within = rw (read, within) refl

pub positive_is : (scope : List Known) (n : ℕ) → n < 2 ^ 63
    → signed scope (Unsigned (NumberLiteral (decimal n))) ≡ sound (typed (Literal (Int (pos n))) Ints)
positive_is scope n h =
    let within : nat_le n 9223372036854775807 ≡ true = grind (arith, nat_tests) in
    number_is 9223372036854775807 pos (decimal n) n (decimal_read n (omega arith)) within

pub negative_is : (scope : List Known) (n : ℕ) → n < 2 ^ 63
    → signed scope (Negative (NumberLiteral (decimal (suc n)))) ≡ sound (typed (Literal (Int (negsuc n))) Ints)
negative_is scope n h =
    let within : nat_le (suc n) (2 ^ 63) ≡ true = grind (arith, nat_tests) in
    number_is (2 ^ 63) (λ k. neg_ℤ (pos k)) (decimal (suc n)) (suc n) (decimal_read (suc n) (omega arith)) within

-- ---- points

-- a literal that is read as a point
pub literal_is : (k : Kind) (f : ℤ → Datum) (o : Option ℤ) (p : ℤ) → o ≡ Some p
    → names.literal k f o ≡ sound (typed (Literal (f p)) k)
literal_is k f o p e = ap (names.literal k f) e
