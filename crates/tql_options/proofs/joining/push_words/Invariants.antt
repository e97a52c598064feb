use Rattle.std.proofs.Common.{◌≡◌, ◌++◌, drop, map, string_bytes}
use Rattle.tql_options.proofs.joining.push_words.Given as goal

-- the words so far, followed by the remaining ones, are all words
abbrev pub invariant-loop-word : goal.invariant-loop-word
invariant-loop-word l =
    map string_bytes l.joined.items ++ map string_bytes (drop l.word-index l.words)
    ≡ map string_bytes l.fn.joined.items ++ map string_bytes l.words
