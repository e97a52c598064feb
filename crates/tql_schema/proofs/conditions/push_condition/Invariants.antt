use Rattle.std.specs.Prelude.{All}
use Rattle.tql_schema.specs.Pieces.{Fits}
use Rattle.tql_schema.proofs.conditions.push_condition.Given as goal

abbrev pub invariant-loop : goal.invariant-loop
invariant-loop l = All (Fits l.terms) l.pieces.items
