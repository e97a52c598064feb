use Rattle.std.proofs.Common.{◌≡◌, ◌++◌, length}
use Rattle.std.specs.Prelude.{string_bytes}
use Rattle.std.specs.Str.{IsUtf8}
use Rattle.tql_spec.specs.Text.{doubled}
use Rattle.tql_schema.proofs.names.push_doubled.Given as goal

abbrev pub invariant-loop-before : goal.invariant-loop-before
invariant-loop-before l =
    IsUtf8 l.rest
    × (string_bytes l.initial.text ++ doubled 34 l.name ≡ string_bytes l.text ++ doubled 34 l.rest)

abbrev pub decreases-loop-before : goal.decreases-loop-before
decreases-loop-before l = length l.rest
