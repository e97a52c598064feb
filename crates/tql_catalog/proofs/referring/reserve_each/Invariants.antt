use Rattle.std.proofs.Common.{◌≡◌}
use Rattle.std.specs.List.{AllWithin}
use Rattle.tql_catalog.specs.Referring.{HasRoom}
use Rattle.tql_catalog.specs.Sought.{lists_of}
use Rattle.tql_catalog.proofs.referring.reserve_each.Given as goal

abbrev pub invariant-loop-list : goal.invariant-loop-list
invariant-loop-list l = (lists_of l.lists ≡ lists_of l.fn.lists) × AllWithin HasRoom l.lists 0 l.list-index
