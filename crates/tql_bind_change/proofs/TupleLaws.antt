-- Cells and tuples among growing terms.
use Rattle.std.specs.Prelude.{◌≡◌, refl, ℕ, ◌<◌, ◌==◌, not, Bool, true, List, [], ◌∷◌, map, length, All, Option}
use Rattle.std.specs.Prelude.{option_map, Vec, Result, Ok, Err, IfOk}
use Rattle.std.specs.declared.alloc.AllocError.{AllocError}
use Rattle.std.proofs.Common.{sym, ap, ◌∙◌, subst, drop, arith, length-drop}
use Rattle.std.proofs.Math.Dec.{eqb-suc-zero}
use Rattle.std.proofs.lemmas.List.Elements.{All-map}
use Rattle.tql_spec.specs.Binding.{cell, cells_misfit, tuple}
use Rattle.tql_spec.specs.Datum as datum
use Rattle.tql_spec.specs.Expression.{Expr}
use Rattle.tql_spec.specs.Names as names
use Rattle.tql_spec.specs.Names.{check_each, unless, refuse_if}
use Rattle.tql_spec.specs.Refusal.{Refusal, TypesDoNotFit}
use Rattle.tql_spec.specs.Syntax as tree
use Rattle.tql_value.specs.Views.{plain_kind}
use Rattle.tql_value.specs.declared.value.Kind.{Kind}
use Rattle.tql_expr.specs.Meaning.{expr, HasExpr}
use Rattle.tql_expr.specs.declared.terms.ExprId.{ExprId}
use Rattle.tql_expr.specs.declared.terms.Terms.{Terms}
use Rattle.tql_bound.specs.Changes.{tuple_of}
use Rattle.tql_bind_expr.specs.Bounds.{typed_of}
use Rattle.tql_bind_expr.specs.Gathered.{Gathers}
use Rattle.tql_bind_expr.specs.declared.scope.Typed.{Typed}
use Rattle.tql_bind_expr.proofs.Arena.{expr_there, expr_kept, typed_kept}
use Rattle.tql_bind_expr.proofs.Gathering.{bound, unless_asked}
use Rattle.tql_bind_change.specs.Cells.{kind_of, HasValue, HasValues}
use Rattle.tql_bind_change.proofs.Growing.{IsKept, all_same, all_there}

-- ---- elements that stay

pub expr_is_kept : IsKept expr HasExpr
expr_is_kept = record { same = λ s x h. expr_kept s x h; there = λ s x h. expr_there s x h }

pub cell_is_kept : IsKept typed_of HasValue
cell_is_kept = record { same = λ s x h. typed_kept s x h; there = λ s x h. expr_there s x.expr h }

pub tuple_is_kept : {A : Type 0} → IsKept {Y = Vec ExprId A} tuple_of HasValues
tuple_is_kept {A} = record {
  same = λ s x h. all_same expr HasExpr expr_is_kept s x.items h;
  there = λ s x h. all_there expr HasExpr expr_is_kept s x.items h;
}

-- ---- kinds

-- no cell remains
pub none_left : (kinds : List Kind) → cells_misfit (map plain_kind kinds) [] ≡ not (length kinds == 0)
none_left [] = refl
none_left (k ∷ kinds) = ap not (sym (eqb-suc-zero (length kinds)))

-- no column remains for a cell
pub none_for : (kinds : List Kind) (cells : List (Option Kind)) (i : ℕ) → length kinds < 1 → i < length cells
    → true ≡ cells_misfit (map plain_kind kinds) (map (option_map plain_kind) (drop i cells))
none_for kinds cells i none some = misfit kinds (drop i cells) none (simp length-drop (omega arith))
  where
    misfit : (ks : List Kind) (left : List (Option Kind)) → length ks < 1 → 0 < length left
        → true ≡ cells_misfit (map plain_kind ks) (map (option_map plain_kind) left)
    misfit [] [] h k = absurd (omega arith)
    misfit [] (c ∷ cs) h k = refl
    misfit (x ∷ ks) left h k = absurd (omega arith)

-- ---- a tuple

kinds_of_cells : (t : Terms) (cells : List Typed)
    → map (λ (c : names.Typed). c.kind) (map (typed_of t) cells) ≡ map kind_of cells
kinds_of_cells t [] = refl
kinds_of_cells t (c ∷ cs) = ap (λ (ks : List (Option datum.Kind)). kind_of c ∷ ks) (kinds_of_cells t cs)

exprs_of_cells : (t : Terms) (cells : List Typed)
    → map (λ (c : names.Typed). c.expr) (map (typed_of t) cells) ≡ map (expr t) (map (λ (c : Typed). c.expr) cells)
exprs_of_cells t [] = refl
exprs_of_cells t (c ∷ cs) = ap (λ (es : List Expr). expr t c.expr ∷ es) (exprs_of_cells t cs)

pub tuple_bound : (kinds : List datum.Kind) (w : tree.Tuple) (t : Terms) (old mid now : Option Refusal)
    (cells : List Typed) (values : List ExprId) (b : Bool)
    → Gathers (check_each (cell []) (w.first ∷ w.more)) old mid (map (typed_of t) cells)
    → b ≡ cells_misfit kinds (map kind_of cells) → Gathers (refuse_if b TypesDoNotFit) mid now tt
    → values ≡ map (λ (c : Typed). c.expr) cells
    → Gathers (tuple kinds w) old now (map (expr t) values)
tuple_bound kinds w t old mid now cells values b g asked h is =
    let bounds = map (typed_of t) cells in
    let misfit = cells_misfit kinds (map (λ (c : names.Typed). c.kind) bounds) in
    let same = asked ∙ ap (cells_misfit kinds) (sym (kinds_of_cells t cells)) in
    let made = exprs_of_cells t cells ∙ ap (map (expr t)) (sym is) in
    bound (check_each (cell []) (w.first ∷ w.more))
    (λ (cs : List names.Typed). unless (cells_misfit kinds (map (λ (c : names.Typed). c.kind) cs)) TypesDoNotFit
    (map (λ (c : names.Typed). c.expr) cs))
    old mid now bounds (map (expr t) values) g
    (subst (λ (es : List Expr). Gathers (unless misfit TypesDoNotFit es) mid now (map (expr t) values)) (sym made)
    (unless_asked b misfit TypesDoNotFit (map (expr t) values) mid now same h))

pub values_there : (t : Terms) (cells : List Typed) (values : List ExprId)
    → values ≡ map (λ (c : Typed). c.expr) cells → All (HasValue t) cells → All (HasExpr t) values
values_there t cells values is h =
    subst (All (HasExpr t)) (sym is) (All-map (HasExpr t) (λ (c : Typed). c.expr) cells h)

-- ---- the end of its binding

pub tuple_ok : {A : Type 0} (kinds : List datum.Kind) (w : tree.Tuple) (t : Terms) (old mid now : Option Refusal)
    (cells asked taken : List Typed) (found seen : List (Option Kind)) (b : Bool) (r : Result (Vec ExprId A) AllocError)
    → Gathers (check_each (cell []) (w.first ∷ w.more)) old mid (map (typed_of t) cells)
    → asked ≡ cells → map (option_map plain_kind) found ≡ map kind_of asked → seen ≡ found
    → b ≡ cells_misfit kinds (map (option_map plain_kind) seen) → Gathers (refuse_if b TypesDoNotFit) mid now tt
    → taken ≡ cells → IfOk r (λ v. v.items ≡ map (λ (c : Typed). c.expr) taken)
    → IfOk r (λ v. Gathers (tuple kinds w) old now (tuple_of t v))
tuple_ok kinds w t old mid now cells asked taken found seen b (Ok v) g same kinds_are took_kinds is h took values =
    tuple_bound kinds w t old mid now cells v.items b g
    (is ∙ ap (λ (ks : List (Option Kind)). cells_misfit kinds (map (option_map plain_kind) ks)) took_kinds
    ∙ ap (cells_misfit kinds) (kinds_are ∙ ap (map kind_of) same))
    h (values ∙ ap (map (λ (c : Typed). c.expr)) took)
tuple_ok kinds w t old mid now cells asked taken found seen b (Err e) g same kinds_are took_kinds is h took values = tt

pub values_ok : {A : Type 0} (t : Terms) (cells taken : List Typed) (r : Result (Vec ExprId A) AllocError)
    → taken ≡ cells → IfOk r (λ v. v.items ≡ map (λ (c : Typed). c.expr) taken) → All (HasValue t) cells
    → IfOk r (HasValues t)
values_ok t cells taken (Ok v) took values h = values_there t cells v.items (values
    ∙ ap (map (λ (c : Typed). c.expr)) took) h
values_ok t cells taken (Err e) took values h = tt
