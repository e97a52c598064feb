-- The models of the values of the code.
use Rattle.std.specs.Prelude.{Bool, true, List, map, Vec, Option, Some, None, Result, Ok, Err}
use Rattle.tql_spec.specs.Datum.{Datum, Row, Null, Int, Text, Day, Moment, Ints, Texts, Days, Moments, Equals}
use Rattle.tql_spec.specs.Datum.{Differs, Below, AtMost, Above, AtLeast, same_kind}
use Rattle.tql_spec.specs.Datum as spec
use Rattle.tql_spec.specs.Truth.{False, Unknown, True}
use Rattle.tql_spec.specs.Truth as logic
use Rattle.tql_value.specs.declared.arithmetic.Range.{Range}
use Rattle.tql_value.specs.declared.comparison.Comparison.{Comparison}
use Rattle.tql_value.specs.declared.comparison.Comparison.TheVariants as comparison
use Rattle.tql_value.specs.declared.truth.Truth.{Truth}
use Rattle.tql_value.specs.declared.truth.Truth.TheVariants as truth
use Rattle.tql_value.specs.declared.value.Kind.{Kind}
use Rattle.tql_value.specs.declared.value.Kind.TheVariants as kind
use Rattle.tql_value.specs.declared.value.Value.{Value}
use Rattle.tql_value.specs.declared.value.Value.TheVariants as value
use Rattle.tql_value.specs.declared.value.View.{View}
use Rattle.tql_value.specs.declared.value.View.TheVariants as view

-- the datum of a view
abbrev pub datum_of_view : View → Datum
datum_of_view view.Null = Null
datum_of_view (view.Int n) = Int n
datum_of_view (view.Text s) = Text s.now
datum_of_view (view.Day d) = Day d
datum_of_view (view.Moment m) = Moment m

-- the datum of a value
abbrev pub datum_of_value : Value → Datum
datum_of_value value.Null = Null
datum_of_value (value.Int n) = Int n
datum_of_value (value.Text s) = Text s
datum_of_value (value.Day d) = Day d
datum_of_value (value.Moment m) = Moment m

-- the kind as the definitions represent it
abbrev pub plain_kind : Kind → spec.Kind
plain_kind kind.Int = Ints
plain_kind kind.Text = Texts
plain_kind kind.Day = Days
plain_kind kind.Moment = Moments

-- the truth as the definitions represent it
abbrev pub plain_truth : Truth → logic.Truth
plain_truth truth.False = False
plain_truth truth.Unknown = Unknown
plain_truth truth.True = True

-- the operator as the definitions represent it
abbrev pub plain_comparison : Comparison → spec.Comparison
plain_comparison comparison.Equal = Equals
plain_comparison comparison.NotEqual = Differs
plain_comparison comparison.Less = Below
plain_comparison comparison.LessOrEqual = AtMost
plain_comparison comparison.Greater = Above
plain_comparison comparison.GreaterOrEqual = AtLeast

-- whether values of two kinds may be compared: the kinds are the same, or a value has none
abbrev pub kinds_meet : Option spec.Kind → Option spec.Kind → Bool
kinds_meet (Some k) (Some l) = same_kind k l
kinds_meet (Some k) None = true
kinds_meet None l = true

-- the result of an evaluation; none if it left 64 bits
abbrev pub outcome : Result View Range → Option Datum
outcome (Ok v) = Some (datum_of_view v)
outcome (Err e) = None

-- the data of a row
abbrev pub row_of : List Value → Row
row_of values = map datum_of_value values

-- the data of rows
abbrev pub rows_of : {A : Type 0} → List (Vec Value A) → List Row
rows_of rows = map (λ r. row_of r.items) rows
