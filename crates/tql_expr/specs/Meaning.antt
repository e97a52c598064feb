-- What the terms of a statement represent.
use Rattle.std.specs.Prelude.{◌≡◌, ℕ, ◌<◌, ◌≤◌, Bool, List, [], ◌∷◌, length, slice_index_or, Result, Ok, Err, Option}
use Rattle.std.specs.Prelude.{Some, None, MatchResult}
use Rattle.std.specs.declared.alloc.AllocError.{AllocError}
use Rattle.tql_spec.specs.Words.{◌>>=◌}
use Rattle.tql_spec.specs.Datum.{Datum, calculate}
use Rattle.tql_spec.specs.Datum as spec
use Rattle.tql_spec.specs.Expression.{Expr, Binary, Cond, And, Or}
use Rattle.tql_spec.specs.Expression as bound
use Rattle.tql_spec.specs.Truth as logic
use Rattle.tql_value.specs.Views.{datum_of_value, plain_truth}
use Rattle.tql_value.specs.declared.arithmetic.Range.{Range}
use Rattle.tql_value.specs.declared.truth.Truth.{Truth}
use Rattle.tql_value.specs.declared.value.Value.{Value}
use Rattle.tql_value.specs.declared.value.Value.TheVariants.{Null}
use Rattle.tql_expr.specs.Trees.{Term, OfExpr, OfCond, expr_of, cond_of, term_in, terms_from, plain_function}
use Rattle.tql_expr.specs.declared.terms.Aggregate.{Aggregate}
use Rattle.tql_expr.specs.declared.terms.Aggregate.TheVariants.{Rows, Over}
use Rattle.tql_expr.specs.declared.terms.ExprId.{ExprId}
use Rattle.tql_expr.specs.declared.terms.CondId.{CondId}
use Rattle.tql_expr.specs.declared.terms.Terms.{Terms}

-- the literal at a position
abbrev pub datum_at : List Value → ℕ → Datum
datum_at vs k = datum_of_value (slice_index_or vs k Null)

-- the tree at each position
abbrev pub trees : Terms → List Term
trees t = terms_from (datum_at t.literals.items) [] t.nodes.items

-- the expression, or the condition, at the position of an id
abbrev pub expr : Terms → ExprId → Expr
expr t id = expr_of (term_in (trees t) id.place)

abbrev pub cond : Terms → CondId → Cond
cond t id = cond_of (term_in (trees t) id.place)

-- the number of trees
abbrev pub size : Terms → ℕ
size t = length (trees t)

-- the id is that of an existing expression, or condition
abbrev pub HasExpr : Terms → ExprId → Type 0
HasExpr t id = id.place < size t

abbrev pub HasCond : Terms → CondId → Type 0
HasCond t id = id.place < size t

-- the expression of an aggregate
abbrev pub aggregate : Terms → Aggregate → Expr
aggregate t Rows = bound.CountRows
aggregate t (Over f x) = bound.Aggregate (plain_function f) (expr t x)

-- the operand of an aggregate exists
abbrev pub HasOperand : Terms → Aggregate → Type 0
HasOperand t Rows = Unit {0}
HasOperand t (Over f x) = HasExpr t x

-- the existing trees stay as they are
pub record Stays (old new : Terms) : Type 0 where
  pub grows : size old ≤ size new
  pub same : (k : ℕ) → k < size old → term_in (trees new) k ≡ term_in (trees old) k

-- a tree is added at this position, and the existing trees stay as they are
pub record Adds (old new : Terms) (place : ℕ) (t : Term) : Type 0 where
  pub stays : Stays old new
  pub within : place < size new
  pub is : term_in (trees new) place ≡ t

-- an expression is added; nothing is added if out of memory
abbrev pub AddsExpr : Terms → Terms → Result ExprId AllocError → Expr → Type 0
AddsExpr old new result e = MatchResult result (λ id. Adds old new id.place (OfExpr e)) (λ _. trees new ≡ trees old)

-- a condition is added; nothing is added if out of memory
abbrev pub AddsCond : Terms → Terms → Result CondId AllocError → Cond → Type 0
AddsCond old new result c = MatchResult result (λ id. Adds old new id.place (OfCond c)) (λ _. trees new ≡ trees old)

-- an expression of several nodes is added; the existing trees stay, also if out of memory
abbrev pub BuildsExpr : Terms → Terms → Result ExprId AllocError → Expr → Type 0
BuildsExpr old new result e =
    MatchResult result (λ id. Stays old new × HasExpr new id × (expr new id ≡ e)) (λ _. Stays old new)

-- a condition of several nodes is added
abbrev pub BuildsCond : Terms → Terms → Result CondId AllocError → Cond → Type 0
BuildsCond old new result c =
    MatchResult result (λ id. Stays old new × HasCond new id × (cond new id ≡ c)) (λ _. Stays old new)

-- operations from left to right
abbrev pub chain : Expr → List (spec.Operation × Expr) → Expr
chain e [] = e
chain e (x ∷ xs) = chain (Binary x.0 e x.1) xs

-- AND, and OR, from left to right
abbrev pub all_of : Cond → List Cond → Cond
all_of c [] = c
all_of c (d ∷ ds) = all_of (And c d) ds

abbrev pub any_of : Cond → List Cond → Cond
any_of c [] = c
any_of c (d ∷ ds) = any_of (Or c d) ds

-- OR nested to the right, as IN is
abbrev pub one_of : List Cond → Cond → Cond
one_of [] last = last
one_of (c ∷ cs) last = Or c (one_of cs last)

-- an operation on two optional values
abbrev pub calculated : spec.Operation → Option Datum → Option Datum → Option Datum
calculated op a b = a >>= λ x. b >>= λ y. calculate op x y

-- the truth of a condition; none if an evaluation in it left 64 bits
abbrev pub judged : Result Truth Range → Option logic.Truth
judged (Ok t) = Some (plain_truth t)
judged (Err e) = None

-- the result of a test; none if an evaluation in it left 64 bits
abbrev pub tested : Result Bool Range → Option Bool
tested (Ok b) = Some b
tested (Err e) = None
