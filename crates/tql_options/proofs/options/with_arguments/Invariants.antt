use Rattle.std.proofs.Common.{◌≡◌, drop}
use Rattle.clap.specs.Words.{app_of}
use Rattle.tql_options.specs.Described.{with_told}
use Rattle.tql_options.proofs.options.with_arguments.Given as goal

-- the command so far, with the remaining arguments, is the one with all arguments
abbrev pub invariant-loop-described : goal.invariant-loop-described
invariant-loop-described l =
    with_told (app_of l.command) (drop l.described-index l.arguments) ≡ with_told (app_of l.fn.command) l.arguments
