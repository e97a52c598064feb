use Rattle.std.proofs.Common.{◌≤◌, length}
use Rattle.std.specs.Prelude.{All}
use Rattle.tql_schema.specs.Pieces.{Fits}
use Rattle.tql_schema.proofs.conditions.put.Given as goal

abbrev pub decreases-parts : goal.decreases-parts
decreases-parts l = l.left

abbrev pub invariant-parts : goal.invariant-parts
invariant-parts l = record { within : l.left ≤ length l.parts; fit : All (Fits l.terms) l.pieces.items }
