use Rattle.std.proofs.Common.{◌≡◌}
use Rattle.tql_prompt.specs.Carets.{width_in}
use Rattle.tql_prompt.proofs.caret.columns_in.Given as goal

abbrev pub invariant-loop-character : goal.invariant-loop-character
invariant-loop-character l = l.columns ≡ width_in l.yielded
