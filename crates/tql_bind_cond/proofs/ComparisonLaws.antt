-- Comparisons of bound expressions.
use Rattle.std.proofs.Common.{◌≡◌, Bool, List, Option, option_map, Result, Ok, Err, IfOk, sym, ap, subst, ◌∙◌}
use Rattle.std.specs.declared.alloc.AllocError.{AllocError}
use Rattle.tql_spec.specs.Datum.{AtLeast, AtMost}
use Rattle.tql_spec.specs.Expression.{Expr, Cond, Compare, And}
use Rattle.tql_spec.specs.Names as names
use Rattle.tql_spec.specs.Names.{Checked, ◌>>=◌, sound, unless, refuse_if, Known, differ, compared, in_list}
use Rattle.tql_spec.specs.Names.{negated_if, test}
use Rattle.tql_spec.specs.Refusal.{Refusal, TypesDoNotFit}
use Rattle.tql_spec.specs.Syntax as tree
use Rattle.tql_value.specs.Views.{plain_kind}
use Rattle.tql_expr.specs.Meaning.{expr, cond, HasExpr, HasCond, Stays, AddsCond}
use Rattle.tql_expr.specs.Trees as trees
use Rattle.tql_expr.specs.declared.terms.Terms.{Terms}
use Rattle.tql_expr.specs.declared.terms.CondId.{CondId}
use Rattle.tql_bind_expr.specs.Bounds.{typed_of}
use Rattle.tql_bind_expr.specs.Gathered.{Gathers}
use Rattle.tql_bind_expr.specs.declared.scope.Typed as code
use Rattle.tql_bind_expr.proofs.Arena.{expr_kept, typed_kept, cond_kept}
use Rattle.tql_bind_expr.proofs.Gathering.{bound, unless_asked, begun, gone_on, ended}

-- a condition that is added is the collected one
pub added_ok : (t u : Terms) (r : Result CondId AllocError) (e : Cond) (d : Checked Cond) (old now : Option Refusal)
    → AddsCond t u r e → Gathers d old now e → IfOk r (λ c. Gathers d old now (cond u c))
added_ok t u (Ok x) e d old now h g = subst (λ (y : Cond). Gathers d old now y) (sym (ap trees.cond_of h.is)) g
added_ok t u (Err o) e d old now h g = tt

-- a condition that is built is the collected one
pub value_ok : {Y B : Type 0} (view : Y
    → B) (r : Result Y AllocError) (e : B) (d : Checked B) (old now : Option Refusal)
    → IfOk r (λ y. view y ≡ e) → Gathers d old now e → IfOk r (λ y. Gathers d old now (view y))
value_ok view (Ok x) e d old now h g = subst (λ (y : _). Gathers d old now y) (sym h) g
value_ok view (Err o) e d old now h g = tt

-- a bound expression, compared with another one
pub compared_is : (s : List Known) (e : tree.Sum) (t u : Terms) (left right : code.Typed)
    (old mid now : Option Refusal) (b : Bool) (make : Expr → Expr → Cond)
    → Stays t u → HasExpr t left.expr → Gathers (names.expr s e) old mid (typed_of u right)
    → b ≡ differ (option_map plain_kind left.kind) (option_map plain_kind right.kind)
    → Gathers (refuse_if b TypesDoNotFit) mid now tt
    → Gathers (compared e s (typed_of t left) make) old now (make (expr u left.expr) (expr u right.expr))
compared_is s e t u left right old mid now b make stays held g asked h =
    let a = typed_of t left in
    let misfit = differ (option_map plain_kind left.kind) (option_map plain_kind right.kind) in
    let value = make (expr t left.expr) (expr u right.expr) in
    subst (λ (x : Expr). Gathers (compared e s a make) old now (make x (expr u right.expr)))
    (sym (expr_kept stays left.expr held))
    (bound (names.expr s e) (λ y. unless (differ a.kind y.kind) TypesDoNotFit (make a.expr y.expr)) old mid now
    (typed_of u right) value g
    (unless_asked b misfit TypesDoNotFit value mid now asked h))

-- BETWEEN is both comparisons
pub between_is : (s : List Known) (n : Bool) (x low high : tree.Sum) (t u v : Terms) (operand : code.Typed)
    (above below : CondId) (e : Cond) (old first second now : Option Refusal)
    → Stays t u → HasExpr t operand.expr → Stays u v → HasCond u above
    → Gathers (names.expr s x) old first (typed_of t operand)
    → Gathers (compared low s (typed_of t operand) (Compare AtLeast)) first second (cond u above)
    → Gathers (compared high s (typed_of u operand) (Compare AtMost)) second now (cond v below)
    → e ≡ And (cond v above) (cond v below)
    → Gathers (test s (tree.BetweenTest n x low high)) old now (negated_if n e)
between_is s n x low high t u v operand above below e old first second now tu ho uv ha gx gl gh is =
    let up = λ (y : names.Typed). λ (c : Cond). compared high s y (Compare AtMost) >>= λ d. sound
    (negated_if n (And c d)) in
    let down = λ (y : names.Typed). compared low s y (Compare AtLeast) >>= up y in
    let a = typed_of t operand in
    let whole = test s (tree.BetweenTest n x low high) in
    let gh' = subst (λ (y : names.Typed). Gathers (compared high s y (Compare AtMost)) second now (cond v below))
    (typed_kept tu operand ho) gh in
    let one = begun (names.expr s x) down old first a gx in
    let two = gone_on whole old (compared low s a (Compare AtLeast)) (up a) first second (cond u above) one gl in
    let three = gone_on whole old (compared high s a (Compare AtMost))
    (λ d. sound (negated_if n (And (cond u above) d))) second now (cond v below) two gh' in
    let done = ended whole old now (negated_if n (And (cond u above) (cond v below))) three in
    subst (λ (y : Cond). Gathers whole old now (negated_if n y)) (sym (is
    ∙ ap (λ (c : Cond). And c (cond v below)) (cond_kept uv above ha))) done

-- IN is the list of equalities, or its negation
pub in_is : (s : List Known) (n : Bool) (x e : tree.Sum) (es : List tree.Sum) (a : names.Typed) (c : Cond)
    (old mid now : Option Refusal)
    → Gathers (names.expr s x) old mid a → Gathers (in_list s a e es) mid now c
    → Gathers (test s (tree.InTest n x e es)) old now (negated_if n c)
in_is s n x e es a c old mid now g h =
    let one = begun (names.expr s x) (λ y. in_list s y e es >>= λ d. sound (negated_if n d)) old mid a g in
    let whole = test s (tree.InTest n x e es) in
    ended whole old now (negated_if n c)
    (gone_on whole old (in_list s a e es) (λ d. sound (negated_if n d)) mid now c one h)
