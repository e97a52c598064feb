use Rattle.std.proofs.Common.{◌≡◌, ◌++◌, length, map, string_bytes}
use Rattle.tql_options.specs.Joining.{words_joined}
use Rattle.tql_options.proofs.joining.push_joined.Given as goal

-- the words so far, followed by the remaining ones as they are to be, are all words
abbrev pub invariant-loop-left : goal.invariant-loop-left
invariant-loop-left l =
    map string_bytes l.joined.items ++ words_joined (map string_bytes l.left)
    ≡ map string_bytes l.fn.joined.items ++ words_joined (map string_bytes l.fn.words)

abbrev pub decreases-loop-left : goal.decreases-loop-left
decreases-loop-left l = length l.left
