use Rattle.std.proofs.Common.{[], ◌∷◌, drop, map}
use Rattle.tql_spec.specs.Binding.{cell}
use Rattle.tql_syntax_tree.specs.Statements.{cell_of, cells_of}
use Rattle.tql_bind_expr.specs.Bounds.{typed_of}
use Rattle.tql_bind_change.specs.Cells.{HasValue}
use Rattle.tql_bind_change.proofs.Growing.{EachGrows}
use Rattle.tql_bind_change.proofs.tuples.cells.Given as goal

-- the cells so far and the remaining ones
abbrev pub invariant-loop-written : goal.invariant-loop-written
invariant-loop-written l =
    EachGrows typed_of HasValue (cell []) (cell_of l.tuple.first ∷ cells_of l.tuple.more) l.fn.terms l.fn.faults
    l.terms l.cells.items (map cell_of (drop l.written-index l.written-items)) l.faults
