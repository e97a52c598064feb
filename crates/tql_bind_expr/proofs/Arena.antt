-- Nodes of a statement's arena that stay as they are.
use Rattle.std.proofs.Common.{◌≡◌, refl, ap, ◌∙◌, arith, length}
use Rattle.std.proofs.Common.{Result, Ok, Err, option_map}
use Rattle.std.specs.declared.alloc.AllocError.{AllocError}
use Rattle.tql_spec.specs.Expression.{Expr, Cond}
use Rattle.tql_spec.specs.Names as names
use Rattle.tql_value.specs.Views.{plain_kind}
use Rattle.tql_expr.specs.Trees.{expr_of, cond_of, term_in}
use Rattle.tql_expr.specs.Meaning.{trees, size, expr, cond, HasExpr, HasCond, Stays, AddsExpr, AddsCond}
use Rattle.tql_expr.specs.declared.terms.Terms.{Terms}
use Rattle.tql_expr.specs.declared.terms.ExprId.{ExprId}
use Rattle.tql_expr.specs.declared.terms.CondId.{CondId}
use Rattle.tql_bind_expr.specs.declared.scope.Typed.{Typed}
use Rattle.tql_bind_expr.specs.Bounds.{typed_of}

-- without a change, all nodes stay
pub stays_here : (t : Terms) → Stays t t
stays_here t = record { grows = omega arith; same = λ k h. refl }

-- nodes that stay in two steps stay in both together
pub stays_along : {t u v : Terms} → Stays t u → Stays u v → Stays t v
stays_along {t} {u} {v} s r = record {
  grows = omega (arith, s.grows, r.grows);
  same = λ k h. r.same k (omega (arith, s.grows, h)) ∙ s.same k h;
}

-- with the same trees, all nodes stay
pub stays_same : {t u : Terms} → trees u ≡ trees t → Stays t u
stays_same {t} {u} is = let equal : size u ≡ size t = ap length is in record {
  grows = omega (arith, equal);
  same = λ k h. ap (λ l. term_in l k) is;
}

-- an expression in the arena is still there later
pub expr_there : {t u : Terms} → Stays t u → (x : ExprId) → HasExpr t x → HasExpr u x
expr_there {t} {u} s x h = omega (arith, s.grows, h)

pub cond_there : {t u : Terms} → Stays t u → (c : CondId) → HasCond t c → HasCond u c
cond_there {t} {u} s c h = omega (arith, s.grows, h)

-- and it has the same meaning
pub expr_kept : {t u : Terms} → Stays t u → (x : ExprId) → HasExpr t x → expr u x ≡ expr t x
expr_kept {t} {u} s x h = ap expr_of (s.same x.place h)

pub cond_kept : {t u : Terms} → Stays t u → (c : CondId) → HasCond t c → cond u c ≡ cond t c
cond_kept {t} {u} s c h = ap cond_of (s.same c.place h)

pub typed_kept : {t u : Terms} → Stays t u → (x : Typed) → HasExpr t x.expr → typed_of u x ≡ typed_of t x
typed_kept {t} {u} s x h =
    let make : Expr → names.Typed = λ e. record { expr = e; kind = option_map plain_kind x.kind } in
    ap make (expr_kept s x.expr h)

-- ---- what additions ensure

pub adds_stays : {t u : Terms} (r : Result ExprId AllocError) (e : Expr) → AddsExpr t u r e → Stays t u
adds_stays {t} {u} (Ok x) e h = h.stays
adds_stays {t} {u} (Err o) e h = stays_same h

pub adds_cond_stays : {t u : Terms} (r : Result CondId AllocError) (e : Cond) → AddsCond t u r e → Stays t u
adds_cond_stays {t} {u} (Ok x) e h = h.stays
adds_cond_stays {t} {u} (Err o) e h = stays_same h
