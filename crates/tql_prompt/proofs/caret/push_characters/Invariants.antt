use Rattle.std.proofs.Common.{◌≡◌, ◌++◌, map, string_bytes, encode_utf8_all}
use Rattle.tql_prompt.specs.Carets.{plain}
use Rattle.tql_prompt.proofs.caret.push_characters.Given as goal

abbrev pub invariant-loop-character : goal.invariant-loop-character
invariant-loop-character l =
    string_bytes l.lines ≡ string_bytes l.initial.lines ++ encode_utf8_all (map plain l.yielded)
