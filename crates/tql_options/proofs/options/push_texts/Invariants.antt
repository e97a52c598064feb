use Rattle.std.proofs.Common.{◌≡◌, ◌++◌, drop, map}
use Rattle.tql_options.specs.declared.options.Input.TheVariants.{Text}
use Rattle.tql_options.proofs.options.push_texts.Given as goal

-- the inputs so far, followed by those of the remaining words, are all inputs
abbrev pub invariant-loop-word : goal.invariant-loop-word
invariant-loop-word l = l.inputs.items ++ map Text (drop l.word-index l.words) ≡ l.fn.inputs.items ++ map Text l.words
