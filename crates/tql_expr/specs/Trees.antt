-- The tree that a node represents.
use Rattle.std.specs.Prelude.{ℕ, List, [], ◌∷◌, ◌++◌, slice_index_or}
use Rattle.tql_spec.specs.Datum.{Datum, Null}
use Rattle.tql_spec.specs.Datum as spec
use Rattle.tql_spec.specs.Expression.{Expr, Cond}
use Rattle.tql_spec.specs.Expression as bound
use Rattle.tql_value.specs.Views.{plain_comparison}
use Rattle.tql_period.specs.Relations.{plain_relation}
use Rattle.tql_expr.specs.declared.node.Operation.{Operation}
use Rattle.tql_expr.specs.declared.node.Operation.TheVariants.{Add, Subtract, Multiply}
use Rattle.tql_expr.specs.declared.node.Function.{Function}
use Rattle.tql_expr.specs.declared.node.Function.TheVariants.{Count, Sum, Min, Max}
use Rattle.tql_expr.specs.declared.node.Node.{Node}
use Rattle.tql_expr.specs.declared.node.Node.TheVariants.{Literal, Column, Negate, Binary, CountRows, Aggregate}
use Rattle.tql_expr.specs.declared.node.Node.TheVariants.{Compare, IsNull, Related, ContainsPoint, Not, And, Or}

-- the operation as the definitions represent it
abbrev pub plain_operation : Operation → spec.Operation
plain_operation Add = spec.Plus
plain_operation Subtract = spec.Minus
plain_operation Multiply = spec.Times

-- the function as the definitions represent it
abbrev pub plain_function : Function → bound.Function
plain_function Count = bound.Count
plain_function Sum = bound.Sum
plain_function Min = bound.Min
plain_function Max = bound.Max

-- what a node represents
pub data Term : Type 0 where
  OfExpr : Expr → Term
  OfCond : Cond → Term

-- the expression, or NULL if it is none
abbrev pub expr_of : Term → Expr
expr_of (OfExpr e) = e
expr_of (OfCond c) = bound.Literal Null

-- the condition, or NULL IS NULL if it is none
abbrev pub cond_of : Term → Cond
cond_of (OfExpr e) = bound.IsNull (bound.Literal Null)
cond_of (OfCond c) = c

-- the tree of a node, given the literals and the trees at each position
abbrev pub node_term : (ℕ → Datum) → (ℕ → Term) → Node → Term
node_term lit at (Literal k) = OfExpr (bound.Literal (lit k))
node_term lit at (Column i) = OfExpr (bound.Column i)
node_term lit at (Negate a) = OfExpr (bound.Negate (expr_of (at a)))
node_term lit at (Binary op a b) = OfExpr (bound.Binary (plain_operation op) (expr_of (at a)) (expr_of (at b)))
node_term lit at CountRows = OfExpr bound.CountRows
node_term lit at (Aggregate f a) = OfExpr (bound.Aggregate (plain_function f) (expr_of (at a)))
node_term lit at (Compare sign a b) = OfCond (bound.Compare (plain_comparison sign) (expr_of (at a)) (expr_of (at b)))
node_term lit at (IsNull a) = OfCond (bound.IsNull (expr_of (at a)))
node_term lit at (Related which a b c d) =
    OfCond (bound.Related (plain_relation which) (expr_of (at a)) (expr_of (at b)) (expr_of (at c)) (expr_of (at d)))
node_term lit at (ContainsPoint a b c) = OfCond (bound.ContainsPoint (expr_of (at a)) (expr_of (at b)) (expr_of (at c)))
node_term lit at (Not c) = OfCond (bound.Not (cond_of (at c)))
node_term lit at (And c d) = OfCond (bound.And (cond_of (at c)) (cond_of (at d)))
node_term lit at (Or c d) = OfCond (bound.Or (cond_of (at c)) (cond_of (at d)))

-- the tree at a position of a list; NULL past its end
abbrev pub term_in : List Term → ℕ → Term
term_in ts a = slice_index_or ts a (OfExpr (bound.Literal Null))

-- the trees of nodes, each made of those before it, after the trees so far
abbrev pub terms_from : (ℕ → Datum) → List Term → List Node → List Term
terms_from lit done [] = done
terms_from lit done (n ∷ ns) = terms_from lit (done ++ node_term lit (term_in done) n ∷ []) ns
