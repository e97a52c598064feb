-- A value of VALUES or SET: an expression, or a literal alone.
use Rattle.std.specs.Prelude.{◌≡◌, refl, ℕ, ℤ, Bool, false, List, Option, Some, None, Result, Ok, Err}
use Rattle.std.specs.Prelude.{IfOk}
use Rattle.std.specs.declared.alloc.AllocError.{AllocError}
use Rattle.std.proofs.Common.{sym, ap, subst, ◌∙◌}
use Rattle.tql_spec.specs.Binding.{cell}
use Rattle.tql_spec.specs.Calendar.{read_date}
use Rattle.tql_spec.specs.Datum.{Days, Day}
use Rattle.tql_spec.specs.Creation.{has_aggregate}
use Rattle.tql_spec.specs.Names.{Known, Typed, expr, primary, literal, unless, refuse_if}
use Rattle.tql_spec.specs.Refusal.{Refusal, FormNotAllowedHere}
use Rattle.tql_spec.specs.Syntax as tree
use Rattle.tql_bind_expr.specs.Gathered.{Gathers}
use Rattle.tql_syntax_tree.specs.Statements.{literal_cell}
use Rattle.tql_bind_expr.specs.declared.scope.Typed as code
use Rattle.tql_bind_expr.proofs.Gathering.{alone, bound, unless_asked, sound_here}

-- it must not contain an aggregate
pub cell_bound : (s : List Known) (e : tree.Sum) (old mid now : Option Refusal) (a : Typed) (b : Bool)
    → b ≡ has_aggregate a.expr → Gathers (expr s e) old mid a → Gathers (refuse_if b FormNotAllowedHere) mid now tt
    → Gathers (cell s (tree.ValueCell e)) old now a
cell_bound s e old mid now a b asked g h =
    bound (expr s e) (λ t. unless (has_aggregate t.expr) FormNotAllowedHere t) old mid now a a g
    (unless_asked b (has_aggregate a.expr) FormNotAllowedHere a mid now asked h)

-- a literal has no aggregate
abbrev pub HasNone : List Known → tree.Primary → Type 0
HasNone s p = has_aggregate (primary s p).value.expr ≡ false

-- nor has a day
point_literal : (o : Option ℤ) → has_aggregate (literal Days Day o).value.expr ≡ false
point_literal None = refl
point_literal (Some p) = refl

pub date_literal : (s : List Known) (x : List ℕ) → HasNone s (tree.DateLiteral x)
date_literal s x = point_literal (read_date x)

literal_bound : (s : List Known) (p : tree.Primary) (old now : Option Refusal) (x : Typed) → HasNone s p
    → Gathers (primary s p) old now x → Gathers (cell s (literal_cell p)) old now x
literal_bound s p old now x none g =
    cell_bound s (tree.Terms (tree.Factors (tree.Unsigned p) tree.NoFactor) tree.NoTerm) old now now x false
    (sym (ap (λ (t : Typed). has_aggregate t.expr) g.value ∙ none))
    (alone _ old now x (alone (primary s p) old now x g))
    (sound_here {B = Unit {0}} tt now)

pub literal_ok : (s : List Known) (p : tree.Primary) (c : tree.CellTree) (view : code.Typed
    → Typed) (old now : Option Refusal) (r : Result code.Typed AllocError) → c ≡ literal_cell p → HasNone s p
    → IfOk r (λ y. Gathers (primary s p) old now (view y)) → IfOk r (λ y. Gathers (cell s c) old now (view y))
literal_ok s p c view old now (Ok y) is none g =
    subst (λ (d : tree.CellTree). Gathers (cell s d) old now (view y)) (sym is)
    (literal_bound s p old now (view y) none g)
literal_ok s p c view old now (Err e) is none g = tt
