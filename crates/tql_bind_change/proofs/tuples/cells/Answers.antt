use Rattle.std.proofs.Common.{[], ◌∷◌, ◌++◌, List, ap, sym, ◌∙◌, map, subst}
use Rattle.tql_spec.specs.Binding.{cell}
use Rattle.tql_syntax_tree.specs.Statements.{cell_of, cells_of}
use Rattle.tql_syntax_tree.specs.declared.statement.CellTree.{CellTree}
use Rattle.tql_bind_expr.specs.Bounds.{typed_of}
use Rattle.tql_bind_expr.specs.declared.scope.Typed.{Typed}
use Rattle.tql_bind_change.specs.Cells.{HasValue}
use Rattle.tql_bind_change.proofs.Growing.{EachGrows, grows_begun, grows_item, grows_done}
use Rattle.tql_bind_change.proofs.TupleLaws.{cell_is_kept}
use Rattle.tql_bind_change.proofs.tuples.cells.Goals as goal

pub loop-written-init : goal.loop-written-init
loop-written-init c =
    let tuple = c.args.tuple.now in
    let bound = c.in_ok-plain_cell.field-0 in
    let t = c.plain_cell.new.terms in
    let now = c.plain_cell.new.faults in
    let pushed = c.in_ok-push.ensures.items ∙ ap (λ (ys : List Typed). ys ++ bound ∷ []) c.new-cells.ensures.items in
    subst (λ (xs : List CellTree). EachGrows typed_of HasValue (cell []) (cell_of tuple.first ∷ cells_of tuple.more)
    c.args.terms.now c.args.faults.now t c.push.new.self.items (map cell_of xs) now)
    (sym c.deref-written-items.ensures.value)
    (grows_begun typed_of HasValue cell_is_kept (cell []) c.args.terms.now c.args.faults.now t c.push.new.self.items
    bound (cell_of tuple.first) (cells_of tuple.more) now
    c.in_ok-plain_cell.ensures.stays pushed c.in_ok-plain_cell.ensures.bound c.in_ok-plain_cell.ensures.held)

pub loop-written-preserved : goal.loop-written-preserved
loop-written-preserved c =
    let tuple = c.args.tuple.now in
    grows_item typed_of HasValue cell_is_kept (cell []) cell_of (cell_of tuple.first ∷ cells_of tuple.more)
    c.args.terms.now c.args.faults.now c.loop-written.terms c.plain_cell-in-loop-written.new.terms
    c.deref-written-items.result.now c.loop-written.written-index c.written-item.result c.loop-written.cells.items
    c.push-in-loop-written.new.self.items c.in_ok-plain_cell-2.field-0
    c.loop-written.faults c.plain_cell-in-loop-written.new.faults c.loop-written-test.true c.written-item.is
    c.in_ok-push-2.ensures.items c.loop-written.invariant
    c.in_ok-plain_cell-2.ensures.stays c.in_ok-plain_cell-2.ensures.bound c.in_ok-plain_cell-2.ensures.held

pub returns-clause-bound : goal.returns-clause-bound
returns-clause-bound c =
    let tuple = c.args.tuple.now in
    grows_done typed_of HasValue (cell []) cell_of (cell_of tuple.first ∷ cells_of tuple.more) c.args.terms.now
    c.args.faults.now c.loop-written.terms c.deref-written-items.result.now c.loop-written.written-index
    c.loop-written.cells.items c.loop-written.faults c.loop-written-test.false c.loop-written.invariant
