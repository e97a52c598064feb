use Rattle.std.proofs.Common.{◌≡◌, drop, map}
use Rattle.tql_spec.specs.Binding.{cells_misfit}
use Rattle.tql_value.specs.Views.{plain_kind}
use Rattle.std.specs.Prelude.{option_map}
use Rattle.tql_bind_change.proofs.tuples.cells_misfit.Given as goal

-- the remaining kinds and cells decide the result
abbrev pub invariant-loop-cell : goal.invariant-loop-cell
invariant-loop-cell l =
    cells_misfit (map plain_kind l.left) (map (option_map plain_kind) (drop l.cell-index l.cells)) ≡ cells_misfit
    (map plain_kind l.kinds) (map (option_map plain_kind) l.cells)
