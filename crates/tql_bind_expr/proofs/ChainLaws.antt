-- Operations appended to a chain.
use Rattle.std.specs.Prelude.{◌≡◌, refl, Bool, ◌||◌, List, [], ◌∷◌, ◌++◌, map, All, Option, Some, option_map}
use Rattle.std.proofs.Common.{sym, ap, ◌∙◌, subst}
use Rattle.std.proofs.lemmas.List.{map-append}
use Rattle.std.proofs.lemmas.List.Elements.{All-nil, All-cons, All-head, All-tail, All-push}
use Rattle.tql_spec.specs.Datum as datum
use Rattle.tql_spec.specs.Expression.{Expr, Binary}
use Rattle.tql_spec.specs.Names.{arithmetic, is_other_kind, refuse_if}
use Rattle.tql_spec.specs.Refusal.{Refusal, TypesDoNotFit}
use Rattle.tql_value.specs.Views.{plain_kind}
use Rattle.tql_expr.specs.Meaning.{expr, chain, HasExpr, Stays}
use Rattle.tql_expr.specs.Trees.{plain_operation}
use Rattle.tql_expr.specs.declared.node.Operation.{Operation}
use Rattle.tql_expr.specs.declared.terms.ExprId.{ExprId}
use Rattle.tql_expr.specs.declared.terms.Terms.{Terms}
use Rattle.tql_value.specs.declared.value.Kind.TheVariants.{Int}
use Rattle.tql_bind_expr.specs.declared.chain.Chain.{Chain}
use Rattle.tql_bind_expr.specs.declared.scope.Typed.{Typed}
use Rattle.tql_bind_expr.specs.Gathered.{Gathers}
use Rattle.tql_bind_expr.specs.Bounds.{typed_of}
use Rattle.tql_bind_expr.proofs.Gathering.{unless_asked}
use Rattle.tql_bind_expr.specs.Chains.{step_of, chain_of, HoldsChain}
use Rattle.tql_bind_expr.proofs.Arena.{expr_there, expr_kept}

-- the last operation of a chain
pub chain_last : (e : Expr) (xs : List (datum.Operation × Expr)) (x : datum.Operation × Expr)
    → chain e (xs ++ x ∷ []) ≡ Binary x.0 (chain e xs) x.1
chain_last e [] x = refl
chain_last e (y ∷ ys) x = chain_last (Binary y.0 e y.1) ys x

-- the operands keep their meaning
rest_kept : {t u : Terms} → Stays t u → (xs : List (Operation × ExprId)) → All (λ x. HasExpr t x.1) xs
    → map (step_of u) xs ≡ map (step_of t) xs
rest_kept {t} {u} s [] h = refl
rest_kept {t} {u} s (x ∷ xs) h =
    let here = expr_kept s x.1 (All-head (λ (y : Operation × ExprId). HasExpr t y.1) x xs h) in
    let later = rest_kept s xs (All-tail (λ (y : Operation × ExprId). HasExpr t y.1) x xs h) in
    λ i. (plain_operation x.0, here i) ∷ later i

rest_there : {t u : Terms} → Stays t u → (xs : List (Operation × ExprId)) → All (λ x. HasExpr t x.1) xs
    → All (λ x. HasExpr u x.1) xs
rest_there {t} {u} s [] h = All-nil (λ (y : Operation × ExprId). HasExpr u y.1)
rest_there {t} {u} s (x ∷ xs) h =
    All-cons (λ (y : Operation × ExprId). HasExpr u y.1) x xs
    (expr_there s x.1 (All-head (λ (y : Operation × ExprId). HasExpr t y.1) x xs h))
    (rest_there s xs (All-tail (λ (y : Operation × ExprId). HasExpr t y.1) x xs h))

pub chain_kept : {t u : Terms} → Stays t u → (c : Chain) → HoldsChain t c → chain_of u c ≡ chain_of t c
chain_kept {t} {u} s c h =
    let first = expr_kept s c.first h.first in
    let rest = rest_kept s c.rest.items h.rest in
    λ i. record { expr = chain (first i) (rest i); kind = option_map plain_kind c.kind }

pub chain_there : {t u : Terms} → Stays t u → (c : Chain) → HoldsChain t c → HoldsChain u c
chain_there {t} {u} s c h = record { first = expr_there s c.first h.first; rest = rest_there s c.rest.items h.rest }

-- a chain with one more operation
pub record IsLonger (c d : Chain) (op : Operation) (right : Typed) : Type 0 where
  pub first : d.first ≡ c.first
  pub rest : d.rest.items ≡ c.rest.items ++ (op, right.expr) ∷ []
  pub kind : d.kind ≡ Some Int

longer_expr : (t : Terms) (c d : Chain) (op : Operation) (right : Typed) → IsLonger c d op right
    → chain (expr t d.first) (map (step_of t) d.rest.items) ≡ Binary (plain_operation op)
    (chain (expr t c.first) (map (step_of t) c.rest.items)) (expr t right.expr)
longer_expr t c d op right is =
    (λ i. chain (expr t (is.first i)) (map (step_of t) (is.rest i)))
    ∙ ap (chain (expr t c.first)) (map-append (step_of t) c.rest.items ((op, right.expr) ∷ []))
    ∙ chain_last (expr t c.first) (map (step_of t) c.rest.items) (plain_operation op, expr t right.expr)

pub longer_bound : (t : Terms) (c d : Chain) (op : Operation) (right : Typed) (old new : Option Refusal) (b : Bool)
    → IsLonger c d op right
    → b ≡ (is_other_kind datum.Ints (option_map plain_kind c.kind) || is_other_kind datum.Ints
    (option_map plain_kind right.kind)) → Gathers (refuse_if b TypesDoNotFit) old new tt
    → Gathers (arithmetic (plain_operation op) (chain_of t c) (typed_of t right)) old new (chain_of t d)
longer_bound t c d op right old new b is asked g =
    let misfit = is_other_kind datum.Ints (option_map plain_kind c.kind) || is_other_kind datum.Ints
    (option_map plain_kind right.kind) in
    record {
      value = (λ i. record { expr = longer_expr t c d op right is i; kind = option_map plain_kind (is.kind i) });
      least = (unless_asked b misfit TypesDoNotFit (chain_of t d) old new asked g).least;
    }

pub longer_there : (t : Terms) (c d : Chain) (op : Operation) (right : Typed) → IsLonger c d op right
    → HoldsChain t c → HasExpr t right.expr → HoldsChain t d
longer_there t c d op right is h r = record {
  first = subst (HasExpr t) (sym is.first) h.first;
  rest = subst (λ (xs : List (Operation × ExprId)). All (λ x. HasExpr t x.1) xs) (sym is.rest)
      (All-push (λ (x : Operation × ExprId). HasExpr t x.1) c.rest.items (op, right.expr) h.rest r);
}
