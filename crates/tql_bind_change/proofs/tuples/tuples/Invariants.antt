use Rattle.std.proofs.Common.{◌∷◌, drop, map}
use Rattle.tql_spec.specs.Binding.{tuple}
use Rattle.tql_bound.specs.Changes as bound
use Rattle.tql_syntax_tree.specs.Statements.{tuple_of}
use Rattle.tql_value.specs.Views.{plain_kind}
use Rattle.tql_bind_change.specs.Cells.{HasValues}
use Rattle.tql_bind_change.proofs.Growing.{EachGrows}
use Rattle.tql_bind_change.proofs.tuples.tuples.Given as goal

-- the tuples so far and the remaining ones
abbrev pub invariant-loop-written : goal.invariant-loop-written
invariant-loop-written l =
    EachGrows bound.tuple_of HasValues (tuple (map plain_kind l.kinds)) (tuple_of l.first ∷ map tuple_of l.more)
    l.fn.terms l.fn.faults l.terms l.tuples.items (map tuple_of (drop l.written-index l.more)) l.faults
