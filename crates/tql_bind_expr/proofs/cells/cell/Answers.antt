use Rattle.std.proofs.Common.{refl, ap, sym, subst}
use Rattle.tql_spec.specs.Binding as binding
use Rattle.tql_spec.specs.Names.{expr, primary}
use Rattle.tql_spec.specs.Syntax as tree
use Rattle.tql_syntax_tree.specs.Expressions.{expr_of, content_of}
use Rattle.tql_syntax_tree.specs.Statements.{cell_of}
use Rattle.tql_syntax_tree.specs.declared.expression.ExprIn.{ExprIn}
use Rattle.tql_syntax_tree.specs.declared.statement.CellTree.{CellTree}
use Rattle.tql_bind_expr.specs.Bounds.{typed_of}
use Rattle.tql_bind_expr.specs.Gathered.{Gathers}
use Rattle.tql_bind_expr.specs.Scopes.{scope_of}
use Rattle.tql_bind_expr.proofs.CellLaws.{cell_bound, literal_ok, date_literal}
use Rattle.tql_bind_expr.proofs.Gathering.{sound_ok}
use Rattle.tql_bind_expr.proofs.cells.cell.Goals as goal

pub returns-in-Null-clause-bound : goal.returns-in-Null-clause-bound
returns-in-Null-clause-bound c =
    sound_ok _ _ (typed_of c.null.new.terms) _ _
    (ap (λ (x : CellTree). binding.cell (scope_of c.args.scope.now) (cell_of x)) c.in-Null.is) c.null.ensures.bound

pub returns-in-Number-clause-bound : goal.returns-in-Number-clause-bound
returns-in-Number-clause-bound c =
    literal_ok (scope_of c.args.scope.now) (tree.NumberLiteral c.in-Number.digits.now) _
    (typed_of c.number.new.terms) _ _ _ (ap cell_of c.in-Number.is) refl c.number.ensures.bound

pub returns-in-Text-clause-bound : goal.returns-in-Text-clause-bound
returns-in-Text-clause-bound c =
    let p = tree.TextLiteral (content_of c.in-Text.quoted) in
    literal_ok (scope_of c.args.scope.now) p _ (typed_of c.text.new.terms) _ _ _ (ap cell_of c.in-Text.is) refl
    (sound_ok (primary (scope_of c.args.scope.now) p) _ (typed_of c.text.new.terms) _ _ refl c.text.ensures.bound)

pub returns-in-Date-clause-bound : goal.returns-in-Date-clause-bound
returns-in-Date-clause-bound c =
    let s = scope_of c.args.scope.now in
    let day = content_of c.in-Date.quoted in
    literal_ok s (tree.DateLiteral day) _ (typed_of c.date.new.terms) _ _ _ (ap cell_of c.in-Date.is)
    (date_literal s day) c.date.ensures.bound

pub returns-in_ok-bound-in-Value-clause-bound : goal.returns-in_ok-bound-in-Value-clause-bound
returns-in_ok-bound-in-Value-clause-bound c =
    let s = scope_of c.args.scope.now in
    let e = expr_of c.in-Value.value.value in
    let old = c.args.faults.now in
    let mid = c.sum.new.faults in
    let a = typed_of c.sum.new.terms c.in_ok-bound-in-Value.bound in
    let bound = subst (λ (x : ExprIn _). Gathers (expr s (expr_of x)) old mid a) c.deref.ensures
    c.in_ok-bound-in-Value.ensures.bound in
    subst (λ (x : tree.CellTree). Gathers (binding.cell s x) old c.refuse_if.new.self a)
    (sym (ap cell_of c.in-Value.is))
    (cell_bound s e old mid c.refuse_if.new.self a c.finds.result c.finds.ensures bound c.refuse_if.ensures)
