-- Whether the operand of an aggregate exists is a proposition, which a type can carry.
use Rattle.std.specs.Prelude.{List, All}
use Rattle.std.proofs.Props.{props}
use Rattle.tql_expr.specs.Meaning.{HasOperand}
use Rattle.tql_expr.specs.declared.terms.Aggregate.{Aggregate}
use Rattle.tql_expr.specs.declared.terms.Aggregate.TheVariants.{Rows, Over}
use Rattle.tql_expr.specs.declared.terms.Terms.{Terms}

operand_prop : (t : Terms) (which : Aggregate) → IsProp (HasOperand t which)
operand_prop t Rows = Prim.hlevel props
operand_prop t (Over f x) = Prim.hlevel props

-- the same for a list of aggregates
pub operands_prop : (t : Terms) (aggregates : List Aggregate) → IsProp (All (HasOperand t) aggregates)
operands_prop t aggregates = Prim.hlevel (props, operand_prop t)
