use Rattle.std.proofs.Common.{◌≡◌, drop, map}
use Rattle.tql_spec.specs.Change.{assigned}
use Rattle.tql_bound.specs.Works.{assignment_of}
use Rattle.tql_dml.specs.Cells.{data_of}
use Rattle.tql_expr.specs.Shown.{shown_by}
use Rattle.tql_dml.proofs.assignment.assign.Given as goal

-- invariant: the assignments left, on the row so far, give what all give
abbrev pub invariant-loop-set : goal.invariant-loop-set
invariant-loop-set l =
    assigned (shown_by l.old) (data_of l.cells) (map (assignment_of l.terms) (drop l.set-index l.sets))
    ≡ assigned (shown_by l.old) (data_of l.fn.cells) (map (assignment_of l.terms) l.sets)
