-- Whether a value is printable is a proposition, which a type can carry.
use Rattle.std.specs.Prelude.{ℕ, List, All}
use Rattle.std.proofs.Props.{props}
use Rattle.tql_spec.specs.Datum.{Datum, Null, Int, Text, Day, Moment}
use Rattle.tql_value.specs.Points.{IsPrintable}
use Rattle.tql_value.specs.Views.{datum_of_value}
use Rattle.tql_value.specs.declared.value.Value.{Value}

pub text_prop : (d : Datum) → IsProp (IsPrintable d)
text_prop Null = Prim.hlevel props
text_prop (Int n) = Prim.hlevel props
text_prop (Text t) = Prim.hlevel props
text_prop (Day d) = Prim.hlevel props
text_prop (Moment m) = Prim.hlevel props

-- the same for a list of values
pub texts_prop : (vs : List Value) → IsProp (All (λ v. IsPrintable (datum_of_value v)) vs)
texts_prop vs = Prim.hlevel (props, text_prop)
