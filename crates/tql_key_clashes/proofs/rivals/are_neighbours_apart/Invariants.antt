use Rattle.std.proofs.Common.{◌≡◌, length, map}
use Rattle.std.specs.Prelude.{not}
use Rattle.tql_spec.specs.Constraint.{clash}
use Rattle.tql_catalog.specs.Definitions.{key_of}
use Rattle.tql_expr.specs.Shown.{shown_by}
use Rattle.tql_key_clashes.specs.Rivals.{all_neighbours}
use Rattle.tql_key_clashes.proofs.rivals.are_neighbours_apart.Given as goal

-- the result depends on the remaining rows
abbrev pub invariant-loop-left : goal.invariant-loop-left
invariant-loop-left l =
    all_neighbours (λ r s. not (clash l.definition (key_of l.key) r s)) (map shown_by l.left)
    ≡ all_neighbours (λ r s. not (clash l.definition (key_of l.key) r s)) (map shown_by l.rows)

abbrev pub decreases-loop-left : goal.decreases-loop-left
decreases-loop-left l = length l.left
