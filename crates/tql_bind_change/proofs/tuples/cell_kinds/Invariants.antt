use Rattle.std.proofs.Common.{◌≡◌, ◌++◌, drop, map}
use Rattle.std.specs.Prelude.{option_map}
use Rattle.tql_value.specs.Views.{plain_kind}
use Rattle.tql_bind_change.specs.Cells.{kind_of}
use Rattle.tql_bind_change.proofs.tuples.cell_kinds.Given as goal

abbrev pub invariant-loop-cell : goal.invariant-loop-cell
invariant-loop-cell l =
    map (option_map plain_kind) l.kinds.items ++ map kind_of (drop l.cell-index l.cells) ≡ map kind_of l.cells
