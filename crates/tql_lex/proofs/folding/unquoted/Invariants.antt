use Rattle.std.proofs.Common.{◌≡◌, ◌++◌, false, length}
use Rattle.std.specs.Prelude.{string_bytes}
use Rattle.std.specs.Str.{IsUtf8}
use Rattle.tql_spec.specs.FirstToken as spec
use Rattle.tql_lex.proofs.folding.unquoted.Given as goal

abbrev pub invariant-loop-before : goal.invariant-loop-before
invariant-loop-before l =
    IsUtf8 l.rest × (spec.content l.quote l.text ≡ string_bytes l.content ++ spec.content_from l.quote false l.rest)

abbrev pub decreases-loop-before : goal.decreases-loop-before
decreases-loop-before l = length l.rest
