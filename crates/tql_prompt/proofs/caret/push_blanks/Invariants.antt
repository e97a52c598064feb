use Rattle.std.proofs.Common.{◌≡◌, ◌++◌, string_bytes}
use Rattle.tql_prompt.specs.Carets.{blanks}
use Rattle.tql_prompt.proofs.caret.push_blanks.Given as goal

abbrev pub invariant-loop : goal.invariant-loop
invariant-loop l = string_bytes l.lines ≡ string_bytes l.initial.lines ++ blanks l.counter
