-- The meaning of bound expressions.
use Rattle.std.specs.Prelude.{ℕ, Bool, true, false, List, Option, Some, None, option_map}
use Rattle.tql_spec.specs.Datum.{Datum, Kind, Ints, Operation, Plus, Minus}
use Rattle.tql_spec.specs.Expression.{Literal, Function, Count, Sum, Min, Max}
use Rattle.tql_spec.specs.Names as names
use Rattle.tql_spec.specs.Names.{is_other_kind}
use Rattle.tql_spec.specs.Syntax.{Primary, NumberLiteral}
use Rattle.tql_value.specs.Views.{plain_kind}
use Rattle.tql_expr.specs.Meaning.{expr}
use Rattle.tql_expr.specs.declared.terms.Terms.{Terms}
use Rattle.tql_bind_expr.specs.declared.scope.Typed.{Typed}

-- an expression in this arena, with its type
abbrev pub typed_of : Terms → Typed → names.Typed
typed_of t x = record { expr = expr t x.expr; kind = option_map plain_kind x.kind }

-- a literal of this type
abbrev pub literal_of : Datum → Option Kind → names.Typed
literal_of d k = record { expr = Literal d; kind = k }

-- the digits of a number literal
abbrev pub digits_in : Primary → Option (List ℕ)
digits_in (NumberLiteral ds) = Some ds
digits_in _ = None

-- the operation of the sign before a term
abbrev pub sign_of : Bool → Operation
sign_of true = Minus
sign_of false = Plus

-- whether the aggregate is SUM over an operand that is known not to be a number
abbrev pub is_no_sum : Function → Option Kind → Bool
is_no_sum Count k = false
is_no_sum Sum k = is_other_kind Ints k
is_no_sum Min k = false
is_no_sum Max k = false

-- the type of an aggregate over an operand of this type
abbrev pub aggregate_kind : Function → Option Kind → Option Kind
aggregate_kind Count k = Some Ints
aggregate_kind Sum k = Some Ints
aggregate_kind Min k = k
aggregate_kind Max k = k
