-- Options that exclude each other.
use Rattle.std.specs.Prelude.{◌||◌, ◌&&◌, ◌==◌, Bool, not, if◌then◌else◌, length, is_some, Option, Some, None}
use Rattle.tql_options.specs.declared.options.CommandLine.{CommandLine}
use Rattle.tql_options.specs.declared.options.Clash.{Clash}
use Rattle.tql_options.specs.declared.options.Clash.TheVariants.{CheckAndPlans, CheckAndJournal, VerifyAndRun}

-- whether an option asks for a run or a check: `--check`, `--plans`, `-i`, `--journal` or `-c`
abbrev pub asks_run : CommandLine → Bool
asks_run line = line.check || (line.plans || (line.interactive || (is_some line.journal
    || not (length line.commands.items == 0))))

-- `--verify` excludes these; `--check` excludes `--plans` and `--journal`
abbrev pub clash_in : CommandLine → Option Clash
clash_in line = if is_some line.verify && asks_run line then Some VerifyAndRun
    else (if line.check && line.plans then Some CheckAndPlans
    else (if line.check && is_some line.journal then Some CheckAndJournal else None))
