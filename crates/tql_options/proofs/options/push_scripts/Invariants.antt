use Rattle.std.proofs.Common.{◌≡◌, ◌++◌, drop, map}
use Rattle.tql_options.specs.CommandLine.{input_named}
use Rattle.tql_options.proofs.options.push_scripts.Given as goal

-- the inputs so far, followed by those of the remaining words, are all inputs
abbrev pub invariant-loop-word : goal.invariant-loop-word
invariant-loop-word l =
    l.inputs.items ++ map input_named (drop l.word-index l.words) ≡ l.fn.inputs.items ++ map input_named l.words
