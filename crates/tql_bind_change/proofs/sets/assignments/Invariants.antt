use Rattle.std.proofs.Common.{◌∷◌, drop, map}
use Rattle.tql_spec.specs.Binding.{assignment}
use Rattle.tql_bound.specs.Works as bound
use Rattle.tql_syntax_tree.specs.Statements.{assignment_of}
use Rattle.tql_bind_change.specs.Cells.{HasAssigned}
use Rattle.tql_bind_change.proofs.Growing.{EachGrows}
use Rattle.tql_bind_change.proofs.sets.assignments.Given as goal

-- the assignments so far and the remaining ones
abbrev pub invariant-loop-set : goal.invariant-loop-set
invariant-loop-set l =
    EachGrows bound.assignment_of HasAssigned (assignment l.definition)
    (assignment_of l.first ∷ map assignment_of l.more) l.fn.terms l.fn.faults l.terms l.sets.items
    (map assignment_of (drop l.set-index l.more)) l.faults
