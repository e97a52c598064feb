use Rattle.std.proofs.Common.{◌≡◌, map}
use Rattle.tql_catalog.specs.Referring.{closed_up}
use Rattle.tql_catalog.specs.Sought.{lists_of}
use Rattle.tql_catalog.proofs.Rests.{rest}
use Rattle.tql_catalog.proofs.referring.close_each.Given as goal

abbrev pub invariant-loop-list : goal.invariant-loop-list
invariant-loop-list l =
    rest (closed_up l.gone) l.list-index (lists_of l.lists) ≡ map (closed_up l.gone) (lists_of l.fn.lists)
